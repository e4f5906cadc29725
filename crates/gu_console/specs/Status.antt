-- STATUS: what is shown of the desk.
use Rattle.std.specs.Prelude.{◌≡◌, ℕ, ◌⊎◌, ◌++◌, List, Option, Some, None, codes, length}
use Rattle.std.specs.Fmt.{decimal}
use Rattle.gu_terms.specs.WrittenNumbers.{date_text}
use Rattle.gu_terms.specs.declared.day.Day.{Day}
use Rattle.gu_ref.specs.Tables.{Tables}
use Rattle.gu_rules.specs.Reports.{open_day}
use Rattle.gu_text.specs.Texts.{word}
use Rattle.gu_desk.specs.Holds.{Sees}
use Rattle.gu_desk.specs.Seats.{SeatState}

-- a day in eight digits, or `-` where there is none
abbrev pub day_word : Option Day → List ℕ
day_word None = codes "-"
day_word (Some day) = date_text day.year day.month day.day

-- `DAY 20260105`
abbrev pub day_words : Option Day → List ℕ
day_words day = word (codes "DAY") ++ word (day_word day)

-- `DESK OPEN DAY 20260105 ENTRIES 9`
abbrev pub desk_words : List ℕ → Option Day → ℕ → List ℕ
desk_words state day entries = word (codes "DESK") ++ (word state ++ (day_words day ++ (word (codes "ENTRIES") ++ word (decimal entries))))

-- the day is open, or it is being closed
abbrev pub IsDeskState : List ℕ → Type 0
IsDeskState state = (state ≡ codes "OPEN") ⊎ (state ≡ codes "CLOSING")

-- a status says first which day is open, and how many entries there are, by the history as the seat sees it then. (Of the rest nothing is
-- said here.)
pub record IsStatus (reference : Tables) (old : SeatState) (text : List ℕ) (new : SeatState) : Type 0 where
  pub sees : Sees reference old new
  pub state : List ℕ
  pub state_is : IsDeskState state
  pub rest : List ℕ
  pub text_is : text ≡ desk_words state (open_day new.front) (length new.front) ++ rest
