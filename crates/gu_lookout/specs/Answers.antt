-- Answers of a desk that follows: of its own book, of how far it is, and that it doesn't lead.
use Rattle.std.specs.Prelude.{◌≡◌, ℕ, ◌++◌, Bool, List, [], ◌∷◌, Option, Some, None, codes, length}
use Rattle.std.specs.Fmt.{decimal}
use Rattle.gu_terms.specs.Histories.{lots_swept}
use Rattle.gu_terms.specs.declared.day.Day.{Day}
use Rattle.gu_terms.specs.declared.entry.Entry.{Entry}
use Rattle.gu_rules.specs.BookState.{BookState}
use Rattle.gu_rules.specs.Reports.{open_day}
use Rattle.gu_text.specs.Rows.{unknown_text}
use Rattle.gu_text.specs.Texts.{last_word, line_of, word}
use Rattle.gu_console.specs.Answers.{answer_of, bad_text, closing_text, leading_text}
use Rattle.gu_console.specs.Requests.{IsAsked}
use Rattle.gu_console.specs.Shown.{HasShown, IsStretch}
use Rattle.gu_console.specs.Status.{desk_words}
use Rattle.gu_console.specs.declared.request.Request.{Request}
use Rattle.gu_console.specs.declared.request.Request.TheVariants as request
use Rattle.gu_standby.specs.declared.attendance.LeadAnswer.{LeadAnswer}
use Rattle.gu_standby.specs.declared.attendance.LeadAnswer.TheVariants.{Leading, Stale, NotLeading}
use Rattle.gu_standby.specs.declared.attendance.Wish.{Wish}
use Rattle.gu_standby.specs.declared.attendance.Wish.TheVariants.{Lead, Close}

-- an operator's connection: how many entries JOURNAL has shown, the day that is open after these, and whether it only watches
pub record OnlookerState : Type 0 where
  pub shown : ℕ
  pub today : Option Day
  pub is_watch : Bool

-- the lines of a desk that follows
abbrev pub not_leading_text : List ℕ
not_leading_text = line_of (codes "NOT" ∷ codes "LEADING" ∷ [])

abbrev pub stale_text : List ℕ
stale_text = line_of (codes "STALE" ∷ [])

-- `OF 1000000 SWEPT 20 BATCHES 4`
abbrev pub count_words : ℕ → ℕ → List ℕ
count_words lots batches =
    (word (codes "OF") ++ word (decimal 1000000)) ++ ((word (codes "SWEPT") ++ word (decimal lots)) ++ (word (codes "BATCHES") ++ last_word (decimal batches)))

-- `DESK FOLLOWING DAY 20260105 ENTRIES 9 OF 1000000 SWEPT 20 BATCHES 4`
abbrev pub status_text : List Entry → ℕ → List ℕ
status_text history batches = desk_words (codes "FOLLOWING") (open_day history) (length history) ++ count_words (lots_swept history) batches

-- JOURNAL shows the next stretch, if what was shown so far is the journal of the first entries of this history
pub record ShowsNext (history : List Entry) (old : OnlookerState) (text : List ℕ) (new : OnlookerState) : Type 0 where
  pub stretch : HasShown history old.shown old.today → IsStretch history old.shown new.shown text
  pub shown : HasShown history old.shown old.today → HasShown history new.shown new.today
  pub is_watch : new.is_watch ≡ old.is_watch

-- What is asked for is answered so, by a desk with this book, which so many batches led to. What would enter is refused, no connection of a firm is
-- there to be cut, and LEAD is answered later.
abbrev pub Answers : BookState → ℕ → OnlookerState → Request → List ℕ → OnlookerState → Type 0
Answers book batches old request.Nothing text new = (text ≡ []) × (new ≡ old)
Answers book batches old (request.Enter command) text new = (text ≡ not_leading_text) × (new ≡ old)
Answers book batches old (request.Sweep group) text new = (text ≡ not_leading_text) × (new ≡ old)
Answers book batches old (request.Ask question) text new = (text ≡ answer_of book question) × (new ≡ old)
Answers book batches old request.Status text new = (text ≡ status_text book.history batches) × (new ≡ old)
Answers book batches old request.Journal text new = ShowsNext book.history old text new
Answers book batches old (request.Cut number) text new = (text ≡ unknown_text) × (new ≡ old)
Answers book batches old request.Close text new = (text ≡ closing_text) × (new ≡ old)
Answers book batches old request.Lead text new = (text ≡ []) × (new ≡ old)

-- the same for a line that may ask for nothing: it is bad
abbrev pub AnswersAsked : BookState → ℕ → OnlookerState → Option Request → List ℕ → OnlookerState → Type 0
AnswersAsked book batches old None text new = (text ≡ bad_text) × (new ≡ old)
AnswersAsked book batches old (Some asked) text new = Answers book batches old asked text new

-- what is asked for is wished of the desk itself: that it leads, or that it ends
abbrev pub wish_of : Option Request → Option Wish
wish_of None = None
wish_of (Some request.Lead) = Some Lead
wish_of (Some request.Close) = Some Close
wish_of (Some asked) = None

-- an answer as it is sent: an empty line ends it
abbrev pub sent : List ℕ → List ℕ
sent text = text ++ 10 ∷ []

-- what ends the answer to a line with this wish: nothing, where LEAD is to be answered
abbrev pub end_of : Option Wish → List ℕ
end_of (Some Lead) = []
end_of (Some Close) = 10 ∷ []
end_of None = 10 ∷ []

-- a line is answered by this text, and has this wish
pub record AnswersLine (book : BookState) (batches : ℕ) (old : OnlookerState) (line text : List ℕ) (wish : Option Wish) (new : OnlookerState) : Type 0 where
  pub asked : Option Request
  pub is_asked : IsAsked old.is_watch line asked
  pub answers : AnswersAsked book batches old asked text new
  pub wish_is : wish ≡ wish_of asked

-- a line is answered, and the answer is appended to what an output has, with its end
pub record IsAnswered (book : BookState) (batches : ℕ) (old : OnlookerState) (line before after : List ℕ) (wish : Option Wish) (new : OnlookerState) : Type 0 where
  pub text : List ℕ
  pub answers : AnswersLine book batches old line text wish new
  pub appended : after ≡ before ++ (text ++ end_of wish)

-- what LEAD is answered
abbrev pub lead_text : LeadAnswer → List ℕ
lead_text Leading = leading_text
lead_text Stale = stale_text
lead_text NotLeading = not_leading_text
