-- A row of the table of messages: a tag, whether it is required, and the kind of its value.
use Rattle.std.specs.Prelude.{ℕ, Bool, true, false, ◌==◌, List}
use Rattle.std.specs.List.{list_any}
use Rattle.gu_msgs.specs.declared.row.Kind.{Kind}
use Rattle.gu_msgs.specs.declared.row.Row.{Row}
use Rattle.gu_msgs.specs.declared.row.Row.TheVariants.{Required, Optional}

-- the tag
abbrev pub tag_of : Row → ℕ
tag_of (Required tag kind) = tag
tag_of (Optional tag kind) = tag

-- the kind of its value
abbrev pub kind_of : Row → Kind
kind_of (Required tag kind) = kind
kind_of (Optional tag kind) = kind

-- whether the tag is required
abbrev pub is_required : Row → Bool
is_required (Required tag kind) = true
is_required (Optional tag kind) = false

-- a tag is in a table
abbrev pub is_listed : List Row → ℕ → Bool
is_listed rows tag = list_any (λ row. tag_of row == tag) rows
