-- Machinery: what is found of a tag in a pass over fields. No other crate names this file.
use Rattle.std.specs.Prelude.{ℕ, List, Option, Some, None, if◌then◌else◌}
use Rattle.gu_fix.specs.TagValue.{TagValue}
use Rattle.gu_msgs.specs.Values.{only_value, stands}
use Rattle.gu_msgs.specs.declared.header_reading.Found.{Found}
use Rattle.gu_msgs.specs.declared.header_reading.Found.TheVariants.{Nowhere, Once, Twice}

-- the value of a tag that occurs exactly once in these fields and those before, given what was found before
abbrev pub only_after : Found → ℕ → List TagValue → Option (List ℕ)
only_after Nowhere tag rest = only_value tag rest
only_after (Once value) tag rest = if stands tag rest then None else Some value.now
only_after Twice tag rest = None
