-- A device with a log.
use Rattle.std.specs.Prelude.{◌≡◌, ◌⊎◌, ◌-◌, ℕ, List, ◌++◌, length, replicate, Option, Some}
use Rattle.gu_journal.specs.Crashes.{Only}
use Rattle.gu_journal.specs.Text.{found, text_of}

-- this text is found on the device
abbrev pub Finds : List ℕ → List ℕ → Type 0
Finds text file = found file ≡ Some text

-- the device consists of a text of this length, which is found on it, and zeros up to this length; a crash leaves exactly that
pub record IsSettled (file : List ℕ) (outcomes : List ℕ → Type 0) (at len : ℕ) : Type 0 where
  pub ends : length (text_of file) ≡ at
  pub is : file ≡ text_of file ++ replicate (len - at) 0
  pub finds : Finds (text_of file) file
  pub durable : Only file outcomes

-- what might have been found after a crash, given what the crash might have left
abbrev pub found_since : {D : Type 0} → (D → ℕ → List ℕ → Type 0) → D → ℕ → Option (List ℕ) → Type 0
found_since left_since device t outcome = (c : List ℕ) × (left_since device t c) × (outcome ≡ found c)

-- what might have been left before, or a device with the same text as this one
abbrev pub LeavesText : List ℕ → (List ℕ → Type 0) → List ℕ → Type 0
LeavesText file outcomes c = outcomes c ⊎ (found c ≡ found file)
