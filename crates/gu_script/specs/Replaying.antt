-- Scripts: each line is silent, or is a step, a whole sweep or a question, which is answered with a text.
use Rattle.std.specs.Prelude.{◌≡◌, ℕ, ◌⊎◌, ◌&&◌, List, [], ◌∷◌, ◌++◌, Option, Some, None, IsTrue, is_some, if◌then◌else◌}
use Rattle.std.specs.List.{flat_map}
use Rattle.gu_terms.specs.declared.account.AccountId.{AccountId}
use Rattle.gu_terms.specs.declared.entry.Entry.{Entry}
use Rattle.gu_terms.specs.declared.entry.Entry.TheVariants as entry
use Rattle.gu_terms.specs.declared.group.Group.{Group}
use Rattle.gu_terms.specs.declared.symbol.Symbol.{Symbol}
use Rattle.gu_ref.specs.Reference.{account_row, is_group, is_instrument}
use Rattle.gu_view.specs.View.{GroupView}
use Rattle.gu_rules.specs.BookState.{BookState}
use Rattle.gu_rules.specs.Limits.{limit_rows}
use Rattle.gu_rules.specs.Positions.{long_of, open_interest_of, short_of}
use Rattle.gu_rules.specs.Views.{group_view}
use Rattle.gu_world.specs.Runs.{Course, IsRun}
use Rattle.gu_world.specs.declared.outcome.Outcome.{Outcome}
use Rattle.gu_world.specs.declared.outcome.Outcome.TheVariants.{NoGroup, Swept}
use Rattle.gu_world.specs.declared.step.Step.{Step}
use Rattle.gu_world.specs.declared.step.Step.TheVariants.{See, Propose, Commit}
use Rattle.gu_text.specs.Lines.{is_silent}
use Rattle.gu_text.specs.Outcomes.{outcome_text}
use Rattle.gu_text.specs.Rows.{interest_text, limit_text, position_text, unknown_text}
use Rattle.gu_text.specs.Scripts.{Says}
use Rattle.gu_text.specs.declared.script_line.Line.{Line}
use Rattle.gu_text.specs.declared.script_line.Line.TheVariants as line

-- the worker that sweeps for a script, which no line names
abbrev pub sweeper : ℕ
sweeper = 63

-- the steps of a line: for a whole sweep the sweeper's look, proposal and commit, and for a question none
abbrev pub steps_of : Line → List Step
steps_of (line.Step step) = step ∷ []
steps_of (line.Sweep group) = See sweeper group ∷ Propose sweeper ∷ Commit sweeper ∷ []
steps_of (line.Position account symbol) = []
steps_of (line.Interest symbol) = []
steps_of (line.Limits group) = []

-- the group that a step looks at
abbrev pub looked : Step → Option Group
looked (See worker group) = Some group
looked step = None

-- the view of a sweep's group in a book
abbrev pub view_of_swept : BookState → Entry → Option GroupView
view_of_swept book (entry.Swept sweep) = Some (group_view book.reference book.history sweep.group)
view_of_swept book (entry.Asked command reply) = None

-- the view of a committed sweep's group in the book before it
abbrev pub view_before : BookState → Outcome → Option GroupView
view_before book (Swept receipt) = view_of_swept book receipt.entry
view_before book outcome = None

-- the text of a step, given the book just before it
abbrev pub step_text : BookState → Step → Outcome → List ℕ
step_text before step outcome = outcome_text (view_before before outcome) (looked step) outcome

-- the text of a whole sweep: that of its commit, or that its group is unknown
abbrev pub sweep_text : BookState → List Outcome → List ℕ
sweep_text before (NoGroup ∷ proposed ∷ last ∷ []) = outcome_text None None NoGroup
sweep_text before (seen ∷ proposed ∷ last ∷ []) = step_text before (Commit sweeper) last
sweep_text before outcomes = []

-- an account's position in an instrument; UNKNOWN if the reference lacks either
abbrev pub position_answer : BookState → AccountId → Symbol → List ℕ
position_answer book account symbol =
    if is_some (account_row book.reference account) && is_instrument book.reference symbol
    then position_text account symbol (long_of book.history account symbol) (short_of book.history account symbol)
    else unknown_text

-- the open interest of an instrument; UNKNOWN if the reference lacks it
abbrev pub interest_answer : BookState → Symbol → List ℕ
interest_answer book symbol =
    if is_instrument book.reference symbol then interest_text symbol (open_interest_of book symbol) else unknown_text

-- the limits set in a group, each with its use and its room; UNKNOWN if the reference lacks the group
abbrev pub limits_answer : BookState → Group → List ℕ
limits_answer book group = if is_group book.reference group then flat_map (limit_text group) (limit_rows book group) else unknown_text

-- the text of a line, given the book before it and the outcomes of its steps
abbrev pub line_text : BookState → Line → List Outcome → List ℕ
line_text before (line.Step step) (outcome ∷ []) = step_text before step outcome
line_text before (line.Step step) outcomes = []
line_text before (line.Sweep group) outcomes = sweep_text before outcomes
line_text before (line.Position account symbol) outcomes = position_answer before account symbol
line_text before (line.Interest symbol) outcomes = interest_answer before symbol
line_text before (line.Limits group) outcomes = limits_answer before group

-- lines have this content: each line is silent, or has the next of it
abbrev pub SayAll : List (List ℕ) → List Line → Type 0
SayAll [] [] = Unit {0}
SayAll [] (said ∷ others) = ⊥
SayAll (text ∷ texts) [] = IsTrue (is_silent text) × SayAll texts []
SayAll (text ∷ texts) (said ∷ others) = (IsTrue (is_silent text) × SayAll texts (said ∷ others)) ⊎ (Says text said × SayAll texts others)

-- the steps of a line lead from one course to another, and this is the line's text
pub record HasLineText (old : Course) (said : Line) (text : List ℕ) (new : Course) : Type 0 where
  pub outcomes : List Outcome
  pub run : IsRun old.state (steps_of said) outcomes new.state
  pub outcomes_are : new.outcomes ≡ old.outcomes ++ outcomes
  pub text_is : text ≡ line_text old.state.book said outcomes

-- lines are carried out one after another, and the text is their texts, joined in order
abbrev pub HasText : Course → List Line → List ℕ → Course → Type 0
HasText old [] text new = (text ≡ []) × (new ≡ old)
HasText old (said ∷ others) text new =
    (first : List ℕ) × (rest : List ℕ) × (mid : Course)
    × HasLineText old said first mid × (text ≡ first ++ rest) × HasText mid others rest new

-- lines lead from one course to another with this text: it is the text of their content
pub record IsTextOfLines (old : Course) (texts : List (List ℕ)) (text : List ℕ) (new : Course) : Type 0 where
  pub said : List Line
  pub all : SayAll texts said
  pub has_text : HasText old said text new

-- the steps of lines with such a text are a run, each line's steps after those of the lines before it, with the outcomes of this run
abbrev pub StepsAreARun : Type 0
StepsAreARun =
    (old new : Course) (said : List Line) (text : List ℕ) → HasText old said text new
    → (outcomes : List Outcome) × IsRun old.state (flat_map steps_of said) outcomes new.state × (new.outcomes ≡ old.outcomes ++ outcomes)
