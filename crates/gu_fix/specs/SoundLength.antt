-- Machinery: the result of the test before encoding. No other crate names this file.
use Rattle.std.specs.Prelude.{◌≡◌, ℕ, ◌+◌, ◌≤◌, List, length, true, Some, None}
use Rattle.std.specs.Fmt.{decimal}
use Rattle.gu_fix.specs.TagValue.{TagValue}
use Rattle.gu_fix.specs.Encoding.{fields_text, begins_with_type, fault_of}
use Rattle.gu_fix.specs.declared.error.EncodeError.{EncodeError}
use Rattle.gu_fix.specs.declared.error.EncodeError.TheVariants.{Memory}

-- these fields have no fault, and their text has this length
pub record IsSound (fields : List TagValue) (len : ℕ) : Type 0 where
  pub sound : fault_of fields ≡ None
  pub typed : begins_with_type fields ≡ true
  pub counted : len ≡ length (fields_text fields)
  pub most : 21 + length (decimal len) + len ≤ 65536

-- this is the first fault of the fields, and isn't Memory
pub record IsFirstFault (fields : List TagValue) (fault : EncodeError) : Type 0 where
  pub first : fault_of fields ≡ Some fault
  pub no_memory : fault ≡ Memory → ⊥
