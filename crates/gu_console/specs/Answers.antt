-- Answers to an operator: what a replay prints for such a line, where its book has a beginning of the desk's one history that the seat has
-- seen, with at least the seat's own entries.
use Rattle.std.specs.Prelude.{◌≡◌, ℕ, ◌+◌, ◌≤◌, ◌⊎◌, ◌++◌, Bool, List, [], ◌∷◌, Option, Some, None, Result, Ok, Err, codes}
use mathlib.Core.List.{IsPrefix}
use Rattle.gu_terms.specs.declared.command.Command.{Command}
use Rattle.gu_terms.specs.declared.entry.Entry.TheVariants.{Asked, Swept}
use Rattle.gu_terms.specs.declared.entry.SweepEntry.{SweepEntry}
use Rattle.gu_terms.specs.declared.group.Group.{Group}
use Rattle.gu_terms.specs.declared.reply.Reply.{Reply}
use Rattle.gu_ref.specs.Tables.{Tables}
use Rattle.gu_view.specs.View.{GroupView}
use Rattle.gu_rules.specs.BookState.{BookState}
use Rattle.gu_book.specs.declared.error.EnterError.{EnterError}
use Rattle.gu_book.specs.declared.error.EnterError.TheVariants as entering
use Rattle.gu_world.specs.declared.outcome.Outcome.TheVariants as outcome
use Rattle.gu_text.specs.Outcomes.{outcome_text, swept_text}
use Rattle.gu_text.specs.Replies.{reply_text}
use Rattle.gu_text.specs.Rows.{unknown_text}
use Rattle.gu_text.specs.Texts.{line_of}
use Rattle.gu_script.specs.Replaying.{interest_answer, limits_answer, position_answer}
use Rattle.gu_desk.specs.Holds.{book_seen, Enters, IsRefused, Looks, Sees}
use Rattle.gu_desk.specs.Seats.{SeatState}
use Rattle.gu_desk.specs.Sweeps.{IsSweepRefused, IsViewBefore}
use Rattle.gu_desk.specs.declared.error.SweepError.{SweepError}
use Rattle.gu_desk.specs.declared.error.SweepError.TheVariants as refusal
use Rattle.gu_console.specs.Requests.{IsAsked}
use Rattle.gu_console.specs.Shown.{IsStretch}
use Rattle.gu_console.specs.Status.{IsStatus}
use Rattle.gu_console.specs.declared.request.BookQuestion.{BookQuestion}
use Rattle.gu_console.specs.declared.request.BookQuestion.TheVariants.{Position, Interest, Limits}
use Rattle.gu_console.specs.declared.request.Request.{Request}
use Rattle.gu_console.specs.declared.request.Request.TheVariants as request
use Rattle.gu_console.specs.declared.said.Said.{Said}
use Rattle.gu_console.specs.declared.said.Said.TheVariants.{GoesOn, Closes}

-- an operator's connection: the seat that its entries are made from, how many entries JOURNAL has shown, how many STATUS has counted, which
-- aren't read again, and whether it only watches
pub record OperatorState : Type 0 where
  pub seat : SeatState
  pub shown : ℕ
  pub counted : ℕ
  pub is_watch : Bool

-- the lines that are an operator's alone
abbrev pub bad_text : List ℕ
bad_text = line_of (codes "BAD" ∷ codes "LINE" ∷ [])

abbrev pub memory_text : List ℕ
memory_text = line_of (codes "MEMORY" ∷ [])

abbrev pub cut_text : List ℕ
cut_text = line_of (codes "CUT" ∷ [])

abbrev pub closing_text : List ℕ
closing_text = line_of (codes "CLOSING" ∷ [])

abbrev pub leading_text : List ℕ
leading_text = line_of (codes "LEADING" ∷ [])

-- a command is entered from the seat, and the text is its reply, after the number of the entry
pub record IsReplied (reference : Tables) (old : SeatState) (command : Command) (text : List ℕ) (new : SeatState) : Type 0 where
  pub number : ℕ
  pub reply : Reply
  pub enters : Enters reference old (record { number = number; entry = Asked command reply }) new
  pub text_is : text ≡ reply_text number reply

-- why a command isn't entered
abbrev pub left_out_text : EnterError → List ℕ
left_out_text entering.Full = outcome_text None None outcome.Full
left_out_text entering.Memory = memory_text

-- a command isn't entered: the book is full, as the seat sees then, or memory failed
pub record IsLeftOut (reference : Tables) (old : SeatState) (text : List ℕ) (new : SeatState) : Type 0 where
  pub why : EnterError
  pub refused : IsRefused reference old why new
  pub text_is : text ≡ left_out_text why

-- the text of a sweep is its line and its sheet, which shows this view; or its line alone
abbrev pub IsSweptText : GroupView → ℕ → SweepEntry → List ℕ → Type 0
IsSweptText view number sweep text = (text ≡ swept_text (Some view) number sweep) ⊎ (text ≡ swept_text None number sweep)

-- a sweep of the group is made from the seat, and the text is its line and its sheet, which shows the group's view just before; where memory
-- fails for the sheet, it is the line alone
pub record IsSwept (reference : Tables) (old : SeatState) (group : Group) (text : List ℕ) (new : SeatState) : Type 0 where
  pub number : ℕ
  pub sweep : SweepEntry
  pub view : GroupView
  pub enters : Enters reference old (record { number = number; entry = Swept sweep }) new
  pub group_is : sweep.group ≡ group
  pub view_is : IsViewBefore reference new.front view
  pub of_group : view.group ≡ group
  pub text_is : IsSweptText view number sweep text

-- why no sweep is made
abbrev pub unswept_text : SweepError → List ℕ
unswept_text refusal.Memory = memory_text
unswept_text refusal.UnknownGroup = outcome_text None None outcome.NoGroup
unswept_text refusal.Full = outcome_text None None outcome.Full
unswept_text (refusal.Stale seen now) = outcome_text None None (outcome.Stale seen now)

-- no sweep is made: the reference lacks the group, the group was touched in between, the book is full, or memory failed
pub record IsUnswept (reference : Tables) (old : SeatState) (group : Group) (text : List ℕ) (new : SeatState) : Type 0 where
  pub why : SweepError
  pub refused : IsSweepRefused reference old group why new
  pub text_is : text ≡ unswept_text why

-- the answer to a question, where this is the book
abbrev pub answer_of : BookState → BookQuestion → List ℕ
answer_of book (Position account symbol) = position_answer book account symbol
answer_of book (Interest symbol) = interest_answer book symbol
answer_of book (Limits group) = limits_answer book group

-- a question is answered by the book as the seat sees it then; or memory failed
abbrev pub IsTold : Tables → SeatState → BookQuestion → List ℕ → SeatState → Type 0
IsTold reference old question text new =
    (Sees reference old new × (text ≡ answer_of (book_seen reference new) question)) ⊎ ((new ≡ old) × (text ≡ memory_text))

-- a command is entered with its reply, or left out
abbrev pub AnswersCommand : Tables → SeatState → Command → List ℕ → SeatState → Type 0
AnswersCommand reference old command text new = IsReplied reference old command text new ⊎ IsLeftOut reference old text new

-- a group is swept, or not
abbrev pub AnswersSweep : Tables → SeatState → Group → List ℕ → SeatState → Type 0
AnswersSweep reference old group text new = IsSwept reference old group text new ⊎ IsUnswept reference old group text new

-- the answer to CUT: the connection of this number is cut, or there is none
abbrev pub IsCutText : List ℕ → Type 0
IsCutText text = (text ≡ cut_text) ⊎ (text ≡ unknown_text)

-- the answer to LEAD at a desk that leads: it leads, or its day is in no log and the line is bad
abbrev pub IsLeadText : List ℕ → Type 0
IsLeadText text = (text ≡ leading_text) ⊎ (text ≡ bad_text)

-- JOURNAL is answered by the next stretch of the journal of what the seat sees then; or memory failed, and nothing more is shown
pub record IsShown (reference : Tables) (old : OperatorState) (text : List ℕ) (new : OperatorState) : Type 0 where
  pub sees : Sees reference old.seat new.seat
  pub stretch : IsStretch new.seat.front old.shown new.shown text

pub record IsUnshown (reference : Tables) (old : OperatorState) (text : List ℕ) (new : OperatorState) : Type 0 where
  pub looks : Looks reference old.seat new.seat
  pub shown_is : new.shown ≡ old.shown
  pub text_is : text ≡ memory_text

-- STATUS is answered by the status of what the seat sees then; or memory failed
abbrev pub AnswersStatus : Tables → SeatState → List ℕ → SeatState → Type 0
AnswersStatus reference old text new = IsStatus reference old text new ⊎ (Looks reference old new × (text ≡ memory_text))

-- what an operator asks for is answered so
abbrev pub Answers : Tables → OperatorState → Request → List ℕ → OperatorState → Type 0
Answers reference old request.Nothing text new = (text ≡ []) × (new ≡ old)
Answers reference old (request.Enter command) text new = AnswersCommand reference old.seat command text new.seat × (new.shown ≡ old.shown)
Answers reference old (request.Sweep group) text new = AnswersSweep reference old.seat group text new.seat × (new.shown ≡ old.shown)
Answers reference old (request.Ask question) text new = IsTold reference old.seat question text new.seat × (new.shown ≡ old.shown)
Answers reference old request.Status text new = AnswersStatus reference old.seat text new.seat × (new.shown ≡ old.shown)
Answers reference old request.Journal text new = IsShown reference old text new ⊎ IsUnshown reference old text new
Answers reference old (request.Cut number) text new = IsCutText text × (new ≡ old)
Answers reference old request.Close text new = (text ≡ closing_text) × (new ≡ old)
Answers reference old request.Lead text new = IsLeadText text × (new ≡ old)

-- a line that asks for this, or for nothing that may be asked, is answered so
abbrev pub AnswersAsked : Tables → OperatorState → Option Request → List ℕ → OperatorState → Type 0
AnswersAsked reference old None text new = (text ≡ bad_text) × (new ≡ old)
AnswersAsked reference old (Some asked) text new = Answers reference old asked text new

-- an answer as it is sent: an empty line ends it, unless the day closes, when the day's last lines follow it
abbrev pub sent_as : Said → List ℕ → List ℕ
sent_as GoesOn text = text ++ 10 ∷ []
sent_as Closes text = text

-- machinery: what is said after an answer that found its memory: the connection goes on
abbrev pub after_answer : {E : Type 0} → Result (Unit {0}) E → Result Said E
after_answer (Ok done) = Ok GoesOn
after_answer (Err error) = Err error

-- an answer is the last one only where it closes the day
abbrev pub ClosesOnly : Said → Request → Type 0
ClosesOnly GoesOn asked = Unit {0}
ClosesOnly Closes asked = asked ≡ request.Close

-- what a line asks for is answered so, and the answer is the last one only where it closes the day
pub record AnswersMeant (reference : Tables) (old : OperatorState) (asked : Option Request) (text : List ℕ) (said : Said) (new : OperatorState) : Type 0 where
  pub answers : AnswersAsked reference old asked text new
  pub closes : said ≡ Closes → asked ≡ Some request.Close

-- memory failed for reading a line, and nothing is done
pub record IsUnread (old : OperatorState) (text : List ℕ) (said : Said) (new : OperatorState) : Type 0 where
  pub text_is : text ≡ memory_text
  pub said_is : said ≡ GoesOn
  pub new_is : new ≡ old

-- a line of an operator is answered: by what it asks for, or by MEMORY where memory failed for reading it
abbrev pub AnswersLine : Tables → OperatorState → List ℕ → List ℕ → Said → OperatorState → Type 0
AnswersLine reference old line text said new =
    ((asked : Option Request) × IsAsked old.is_watch line asked × AnswersMeant reference old asked text said new) ⊎ IsUnread old text said new

-- a line is answered, and the answer is sent, after what an output has; it is the last one only where it closes the day
pub record IsAnswered (reference : Tables) (old : OperatorState) (line before after : List ℕ) (said : Said) (new : OperatorState) : Type 0 where
  pub text : List ℕ
  pub answers : AnswersLine reference old line text said new
  pub sent : after ≡ before ++ sent_as said text

-- what a seat has seen goes on, and at most one entry was made from it
pub record GoesOnFrom (old new : SeatState) : Type 0 where
  pub begins : IsPrefix old.front new.front
  pub entries : (old.entries ≤ new.entries) × (new.entries ≤ old.entries + 1)
