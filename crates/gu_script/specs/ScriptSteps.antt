-- Machinery: the steps of a script, and the texts appended for them.
use Rattle.std.specs.Prelude.{◌≡◌, ℕ, List, ◌++◌, Option, Some, None}
use Rattle.gu_terms.specs.declared.group.Group.{Group}
use Rattle.gu_view.specs.View.{GroupView}
use Rattle.gu_world.specs.Runs.{Course, GoesOn}
use Rattle.gu_world.specs.Steps.{ShowsProposed, State}
use Rattle.gu_world.specs.declared.step.Step.{Step}
use Rattle.gu_world.specs.declared.step.Step.TheVariants.{See, Propose, Commit}
use Rattle.gu_text.specs.declared.script_line.Line.{Line}
use Rattle.gu_script.specs.Replaying.{HasLineText, IsTextOfLines, step_text, sweeper}

-- for a commit, the view that the worker has a proposal for; for any other step, none
abbrev pub ShowsFor : State → Step → Option GroupView → Type 0
ShowsFor state (Commit worker) view = ShowsProposed state worker view
ShowsFor state step view = view ≡ None

-- a step is taken, and its text is appended to the earlier text
pub record AnswersStep (old : Course) (step : Step) (before : List ℕ) (new : Course) (after : List ℕ) : Type 0 where
  pub goes_on : GoesOn old step new
  pub appended : after ≡ before ++ step_text old.state.book step goes_on.outcome

-- the sweeper looks at a group and proposes for what it saw
pub record Proposes (old : Course) (group : Group) (new : Course) : Type 0 where
  pub mid : Course
  pub sees : GoesOn old (See sweeper group) mid
  pub proposes : GoesOn mid (Propose sweeper) new

-- a line is carried out, and its text is appended
pub record AnswersLine (old : Course) (said : Line) (before : List ℕ) (new : Course) (after : List ℕ) : Type 0 where
  pub text : List ℕ
  pub has_text : HasLineText old said text new
  pub appended : after ≡ before ++ text

-- the same; a line without content does nothing
abbrev pub AnswersSaid : Course → Option Line → List ℕ → Course → List ℕ → Type 0
AnswersSaid old None before new after = (new ≡ old) × (after ≡ before)
AnswersSaid old (Some said) before new after = AnswersLine old said before new after

-- lines are answered, and their text is appended
pub record AnswersLines (old : Course) (texts : List (List ℕ)) (before : List ℕ) (new : Course) (after : List ℕ) : Type 0 where
  pub text : List ℕ
  pub of_lines : IsTextOfLines old texts text new
  pub appended : after ≡ before ++ text
