-- Which files are accepted, and the fault for which a file is refused.
use Rattle.std.specs.Prelude.{ℕ, ◌≡◌, ◌+◌, ⊤, List, [], ◌∷◌, ◌++◌, length, take, slice_get, Option, Some, None}
use Rattle.std.specs.Option.{option_and_then}
use Rattle.csv.specs.Reading.{AreRecords, Reached, default_config, strip_bom}
use Rattle.csv.specs.declared.parser.State.{State}
use Rattle.csv.specs.declared.parser.State.TheVariants as st
use Rattle.gu_ref.specs.declared.error.RefFault.{RefFault}
use Rattle.gu_ref.specs.declared.error.RefFault.TheVariants.{Memory, BadRow, Unknown, Twice, TooMany, ReadFault}
use Rattle.gu_ref.specs.Accepted.{record_fault}
use Rattle.gu_ref.specs.Made.{reference_of}
use Rattle.gu_ref.specs.Tables.{Tables}

-- the fault of the record at an index, given the reference that the records before it make; the first record is line 1
abbrev pub fault_at : List (List (List ℕ)) → ℕ → Option RefFault
fault_at records place = option_and_then (record_fault (reference_of (take place records)) (place + 1)) (slice_get records place)

-- no record has a fault
abbrev pub AreAccepted : List (List (List ℕ)) → Type 0
AreAccepted records = (place : ℕ) → fault_at records place ≡ None

-- these are the records of a text: fields separated by commas, quoted or not; empty lines are skipped, and a byte order mark at the start
-- is dropped
abbrev pub AreRecordsOf : List ℕ → List (List (List ℕ)) → Type 0
AreRecordsOf text records = AreRecords default_config st.StartRecord (strip_bom text) records

-- the text's records begin with these
abbrev pub BeginsWith : List ℕ → List (List (List ℕ)) → Type 0
BeginsWith text records = (state : State) × (rest : List ℕ) × Reached default_config st.StartRecord (strip_bom text) records state rest

-- the reference is the one in these bytes, as far as they are known: no record has a fault, and together the records make it
pub record IsReadFrom (bytes : Option (List ℕ)) (reference : Tables) : Type 0 where
  pub records : List (List (List ℕ))
  pub whole : (text : List ℕ) → bytes ≡ Some text → AreRecordsOf text records
  pub accepted : AreAccepted records
  pub made : reference ≡ reference_of records

-- this is the first fault in these bytes, as far as they are known: the next record has it, and no record before has a fault
pub record IsFirstFault (bytes : Option (List ℕ)) (fault : RefFault) : Type 0 where
  pub before : List (List (List ℕ))
  pub next : List (List ℕ)
  pub begins : (text : List ℕ) → bytes ≡ Some text → BeginsWith text (before ++ next ∷ [])
  pub accepted : AreAccepted before
  pub stands : record_fault (reference_of before) (length before + 1) next ≡ Some fault

-- the file may be refused for this: out of memory or a read fault at any time, any other fault if it is the first
abbrev pub Refuses : Option (List ℕ) → RefFault → Type 0
Refuses bytes Memory = ⊤
Refuses bytes (BadRow line) = IsFirstFault bytes (BadRow line)
Refuses bytes (Unknown line) = IsFirstFault bytes (Unknown line)
Refuses bytes (Twice line) = IsFirstFault bytes (Twice line)
Refuses bytes TooMany = IsFirstFault bytes TooMany
Refuses bytes ReadFault = ⊤
