-- A book as a house: how it answers requests, and which notices it has for a firm.
use Rattle.std.specs.Prelude.{◌≡◌, ◌<◌, ◌≤◌, ◌++◌, ◌⊎◌, ℕ, [], ◌∷◌, length, Option, None}
use Rattle.gu_terms.specs.declared.command.Command.{Command}
use Rattle.gu_terms.specs.declared.entry.Entry.TheVariants.{Asked}
use Rattle.gu_terms.specs.declared.firm.FirmId.{FirmId}
use Rattle.gu_terms.specs.declared.notice.Stretch.{Stretch}
use Rattle.gu_terms.specs.declared.query.PositionRows.{PositionRows}
use Rattle.gu_terms.specs.declared.query.Query.{Query}
use Rattle.gu_terms.specs.declared.query.Query.TheVariants as query
use Rattle.gu_msgs.specs.declared.asking.Request.{Request}
use Rattle.gu_msgs.specs.declared.asking.Request.TheVariants.{Enter, Ask}
use Rattle.gu_session.specs.declared.input.Failure.{Failure}
use Rattle.gu_session.specs.declared.input.Failure.TheVariants.{Memory, Full}
use Rattle.gu_session.specs.declared.input.Outcome.{Outcome}
use Rattle.gu_session.specs.declared.input.Outcome.TheVariants.{Replied, Positions, Failed}
use Rattle.gu_rules.specs.Answer.{answer}
use Rattle.gu_rules.specs.BookState.{BookState}
use Rattle.gu_rules.specs.Notices.{IsStretch}
use Rattle.gu_book.specs.Questions.{IsAnswer}
use Rattle.gu_book.specs.declared.asking.Answer.TheVariants as answered
use Rattle.gu_engine.specs.Houses.{HouseRules}

-- a command is entered in the book, with the book's answer to it
pub record IsEntered (old : BookState) (command : Command) (outcome : Outcome) (new : BookState) : Type 0 where
  pub room : length old.history < 1000000
  pub outcome_is : outcome ≡ Replied (answer old.reference old.history command)
  pub new_is : new ≡ record { reference = old.reference; history = old.history ++ Asked command (answer old.reference old.history command) ∷ [] }

-- the reason that a command isn't entered: Full if the book is full, else Memory
abbrev pub IsReason : BookState → Failure → Type 0
IsReason book Full = 1000000 ≤ length book.history
IsReason book Memory = length book.history < 1000000

-- a command isn't entered, and the book is unchanged
pub record IsLeftOut (old : BookState) (outcome : Outcome) (new : BookState) : Type 0 where
  pub failure : Failure
  pub reason : IsReason old failure
  pub outcome_is : outcome ≡ Failed failure
  pub new_is : new ≡ old

-- the outcome of a question: for positions the book's answer; a session asks no other questions, and gets no positions for one
abbrev pub IsTold : BookState → Query → Outcome → Type 0
IsTold book (query.Positions firm account) outcome =
    (rows : Option PositionRows) × (outcome ≡ Positions rows) × IsAnswer book (query.Positions firm account) (answered.Positions rows)
IsTold book _ outcome = outcome ≡ Positions None

-- how the book answers: a command is entered or left out, and a question leaves the book unchanged
abbrev pub BookAnswers : BookState → Request → Outcome → BookState → Type 0
BookAnswers old (Enter command) outcome new = IsEntered old command outcome new ⊎ IsLeftOut old outcome new
BookAnswers old (Ask question) outcome new = IsTold old question outcome × (new ≡ old)

-- which notices the book has for a firm: a batch of those of the entries from a number on
pub record BookTells (old : BookState) (firm : FirmId) (from : ℕ) (stretch : Stretch) (new : BookState) : Type 0 where
  pub stretch_is : IsStretch old firm from stretch
  pub new_is : new ≡ old

-- the book as a house
abbrev pub rules_of_book : HouseRules BookState
rules_of_book = record { answers = BookAnswers; tells = BookTells }
