-- A seat at a desk as a house: it answers by the prefix of the desk's one history that it has seen, which only grows.
use Rattle.std.specs.Prelude.{◌≡◌, ◌⊎◌, ℕ, Option, None}
use Rattle.gu_terms.specs.declared.command.Command.{Command}
use Rattle.gu_terms.specs.declared.entry.Entry.TheVariants.{Asked}
use Rattle.gu_terms.specs.declared.firm.FirmId.{FirmId}
use Rattle.gu_terms.specs.declared.notice.Stretch.{Stretch}
use Rattle.gu_terms.specs.declared.query.PositionRows.{PositionRows}
use Rattle.gu_terms.specs.declared.query.Query.{Query}
use Rattle.gu_terms.specs.declared.query.Query.TheVariants as query
use Rattle.gu_terms.specs.declared.reply.Reply.{Reply}
use Rattle.gu_msgs.specs.declared.asking.Request.{Request}
use Rattle.gu_msgs.specs.declared.asking.Request.TheVariants.{Enter, Ask}
use Rattle.gu_session.specs.declared.input.Failure.{Failure}
use Rattle.gu_session.specs.declared.input.Failure.TheVariants as failure
use Rattle.gu_session.specs.declared.input.Outcome.{Outcome}
use Rattle.gu_session.specs.declared.input.Outcome.TheVariants.{Replied, Positions, Failed}
use Rattle.gu_ref.specs.Tables.{Tables}
use Rattle.gu_rules.specs.Notices.{IsStretch}
use Rattle.gu_book.specs.Questions.{IsAnswer}
use Rattle.gu_book.specs.declared.asking.Answer.TheVariants as answered
use Rattle.gu_book.specs.declared.error.EnterError.{EnterError}
use Rattle.gu_book.specs.declared.error.EnterError.TheVariants as refusal
use Rattle.gu_engine.specs.Houses.{HouseRules}
use Rattle.gu_desk.specs.Holds.{book_seen, Enters, IsRefused, Sees}
use Rattle.gu_desk.specs.Seats.{SeatState}

-- a command is entered from the seat, and the outcome is the reply of its entry
pub record IsEnteredAt (reference : Tables) (old : SeatState) (command : Command) (outcome : Outcome) (new : SeatState) : Type 0 where
  pub number : ℕ
  pub reply : Reply
  pub enters : Enters reference old (record { number = number; entry = Asked command reply }) new
  pub outcome_is : outcome ≡ Replied reply

-- the failure of a command that the desk doesn't enter
abbrev pub failure_of : EnterError → Failure
failure_of refusal.Full = failure.Full
failure_of refusal.Memory = failure.Memory

-- a command isn't entered, because the desk refuses it: the failure is Full if the book is full, as the seat then sees
pub record IsLeftOutAt (reference : Tables) (old : SeatState) (outcome : Outcome) (new : SeatState) : Type 0 where
  pub why : EnterError
  pub refused : IsRefused reference old why new
  pub outcome_is : outcome ≡ Failed (failure_of why)

-- a question for positions is answered by the book as the seat then sees it
pub record IsToldAt (reference : Tables) (old : SeatState) (asked : Query) (outcome : Outcome) (new : SeatState) : Type 0 where
  pub rows : Option PositionRows
  pub outcome_is : outcome ≡ Positions rows
  pub answer_is : IsAnswer (book_seen reference new) asked (answered.Positions rows)
  pub sees : Sees reference old new

-- a question that no session asks gets no positions
pub record IsUntold (old : SeatState) (outcome : Outcome) (new : SeatState) : Type 0 where
  pub outcome_is : outcome ≡ Positions None
  pub new_is : new ≡ old

-- how a seat answers: a command is entered or left out, and a question for positions is answered
abbrev pub SeatAnswers : Tables → SeatState → Request → Outcome → SeatState → Type 0
SeatAnswers reference old (Enter command) outcome new = IsEnteredAt reference old command outcome new ⊎ IsLeftOutAt reference old outcome new
SeatAnswers reference old (Ask (query.Positions firm account)) outcome new = IsToldAt reference old (query.Positions firm account) outcome new
SeatAnswers reference old (Ask _) outcome new = IsUntold old outcome new

-- which notices a seat has for a firm: a batch of those from a number on in the book as the seat then sees it
pub record SeatTells (reference : Tables) (old : SeatState) (firm : FirmId) (from : ℕ) (stretch : Stretch) (new : SeatState) : Type 0 where
  pub stretch_is : IsStretch (book_seen reference new) firm from stretch
  pub sees : Sees reference old new

-- a seat as a house, at a desk with this reference
abbrev pub rules_of_seat : Tables → HouseRules SeatState
rules_of_seat reference = record { answers = SeatAnswers reference; tells = SeatTells reference }
