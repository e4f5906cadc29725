-- Machinery: the fields with which a message is encoded. No other crate names this file.
use Rattle.std.specs.Prelude.{◌≡◌, ◌&&◌, ℕ, Bool, true, not, nat_le, List, length}
use Rattle.std.specs.List.{list_all}
use Rattle.gu_fix.specs.TagValue.{TagValue}
use Rattle.gu_fix.specs.Encoding.{has_soh, is_empty}

-- a value that can be encoded: 1 to 1,024 bytes, none of them SOH
abbrev pub is_plain : List ℕ → Bool
is_plain value = not (is_empty value) && not (has_soh value) && nat_le (length value) 1024

-- each field has such a value
abbrev pub ArePlain : List TagValue → Type 0
ArePlain fields = list_all (λ f. is_plain f.value) fields ≡ true
