-- Fields: a tag, `=` and a value, ended by SOH (FIX tagvalue encoding, Field syntax).
use Rattle.std.specs.Prelude.{◌≡◌, ◌≢◌, ℕ, ◌<◌, ◌≤◌, ◌⊎◌, List, [], ◌∷◌, ◌++◌, length, slice_index, Option, None, Some, Result, Ok, Err}
use Rattle.std.specs.List.{flat_map, AllByRecursion}
use Rattle.std.specs.Str.Parse.{AllDigits, digits_value}
use Rattle.gu_fix.specs.WholeMessage.{soh}
use Rattle.gu_fix.specs.TagValue.{TagValue}
use Rattle.gu_fix.specs.declared.error.FieldFault.{FieldFault}
use Rattle.gu_fix.specs.declared.error.SessionRejectReason.TheVariants.{InvalidTagNumber, TagSpecifiedWithoutAValue}

-- none of these bytes is SOH
abbrev pub NoSoh : List ℕ → Type 0
NoSoh part = (k : ℕ) → k < length part → slice_index part k ≢ soh

-- these are the parts that SOH ends: together with their SOHs they are all of the bytes
pub record AreParts (bytes : List ℕ) (parts : List (List ℕ)) : Type 0 where
  pub whole : bytes ≡ flat_map (λ part. part ++ soh ∷ []) parts
  pub each : AllByRecursion NoSoh parts

-- `=`
abbrev pub equals : ℕ
equals = 61

-- the text of a tag: one to nine digits, the first not `0` (byte 48), whose value is the tag
pub record IsTag (text : List ℕ) (tag : ℕ) : Type 0 where
  pub some : 1 ≤ length text
  pub most : length text ≤ 9
  pub first : slice_index text 0 ≢ 48
  pub all : AllDigits 10 text
  pub value : digits_value 10 text ≡ tag

-- a part is a tag, `=` and a value; any further `=` is part of the value
pub record HasTag (part : List ℕ) (tag : ℕ) (value : List ℕ) : Type 0 where
  pub text : List ℕ
  pub is_tag : IsTag text tag
  pub parts : part ≡ text ++ equals ∷ value

-- a part has no `=`, or what comes before the first isn't a tag
abbrev pub HasNoTag : List ℕ → Type 0
HasNoTag part = (tag : ℕ) (value : List ℕ) → ¬ HasTag part tag value

-- a well-formed field, whose value has at least one byte
pub record IsField (field : TagValue) (part : List ℕ) : Type 0 where
  pub has_tag : HasTag part field.tag field.value
  pub some : 0 < length field.value

-- the fault of a malformed part: a tag with an empty value is named by its tag, a part without a tag by 0
abbrev pub IsFault : FieldFault → List ℕ → Type 0
IsFault fault part =
    ((fault.reason ≡ TagSpecifiedWithoutAValue) × HasTag part fault.tag [])
    ⊎ ((fault.reason ≡ InvalidTagNumber) × (fault.tag ≡ 0) × HasNoTag part)

-- a part reads as a field, or as a fault
abbrev pub ReadsAs : Result TagValue FieldFault → List ℕ → Type 0
ReadsAs (Ok field) part = IsField field part
ReadsAs (Err fault) part = IsFault fault part

-- each part in order reads as this
abbrev pub ReadAs : List (Result TagValue FieldFault) → List (List ℕ) → Type 0
ReadAs [] [] = Unit {0}
ReadAs (r ∷ rs) (p ∷ ps) = ReadsAs r p × ReadAs rs ps
ReadAs [] (p ∷ ps) = ⊥
ReadAs (r ∷ rs) [] = ⊥

-- the fields among these results
abbrev pub fields_among : List (Result TagValue FieldFault) → List TagValue
fields_among [] = []
fields_among (Ok field ∷ rs) = field ∷ fields_among rs
fields_among (Err fault ∷ rs) = fields_among rs

-- the first fault among these results
abbrev pub first_fault : List (Result TagValue FieldFault) → Option FieldFault
first_fault [] = None
first_fault (Ok field ∷ rs) = first_fault rs
first_fault (Err fault ∷ rs) = Some fault

-- the well-formed fields of these bytes in order, and the first malformed part's fault
pub record HasFields (bytes : List ℕ) (fields : List TagValue) (fault : Option FieldFault) : Type 0 where
  pub parts : List (List ℕ)
  pub reads : List (Result TagValue FieldFault)
  pub are_parts : AreParts bytes parts
  pub read_as : ReadAs reads parts
  pub fields_are : fields ≡ fields_among reads
  pub fault_is : fault ≡ first_fault reads
