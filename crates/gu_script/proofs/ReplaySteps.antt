-- The texts appended for steps and for whole sweeps.
use Rattle.gu_script.proofs.Words.{◌≡◌, ◌∙◌, ℕ, true, false, List, [], ◌∷◌, ◌++◌, Option, Some, None, refl, sym, ap, subst, inl, inr, append-nil, append_assoc, IsSome, IsTrue, MatchOption, Swept as SweptEntry, SweepEntry, Group, is_group, GroupView, group_view, Course, GoesOn, IsReached, IsRun, LeadsTo, ShowsProposed, State, next_receipt, with_look, Outcome, Enter, See, Propose, Commit, is_silent, outcome_text, Says, Line, IsTextOfLines, line_text, looked, step_text, steps_of, sweep_text, sweeper, Proposes, ShowsFor, AnswersLine, AnswersLines, AnswersSaid, AnswersStep}
use Rattle.gu_rules.specs.BookState.{BookState}
use Rattle.gu_world.specs.declared.outcome.Outcome.TheVariants.{NoGroup, Swept}
use Rattle.gu_world.specs.declared.step.Step.{Step}
use Rattle.gu_text.specs.declared.script_line.Line.TheVariants as line
use Rattle.gu_script.proofs.ReplayLooks.{AreOwn, IsCommitted, IsUncommitted, own_reached, step_committed, step_entered, step_looked, step_proposed}
use Rattle.gu_script.proofs.ReplayTexts.{line_said, line_silent}

-- ---- one step

-- an outcome has the same text with the view returned as with the view defined
abbrev HasOneText : State → Step → Option GroupView → Outcome → Type 0
HasOneText old step view outcome = outcome_text view (looked step) outcome ≡ step_text old.book step outcome

uncommitted_text : (old : State) (worker : ℕ) (view : Option GroupView) (outcome : Outcome) → IsUncommitted outcome → HasOneText old (Commit worker) view outcome
uncommitted_text old worker view outcome (inl is) = subst (HasOneText old (Commit worker) view) (sym is) refl
uncommitted_text old worker view outcome (inr (inl is)) = subst (HasOneText old (Commit worker) view) (sym is) refl
uncommitted_text old worker view outcome (inr (inr (seen, now, is))) = subst (HasOneText old (Commit worker) view) (sym is) refl

-- the view that a sweep's worker saw is that of the sweep's group in the book
committed_text : (old : State) (worker : ℕ) (view : Option GroupView) (outcome : Outcome) → AreOwn old.looks → ShowsProposed old worker view → IsCommitted old worker outcome → HasOneText old (Commit worker) view outcome
committed_text old worker view outcome own shows is =
    let group : is.sweep.group ≡ is.look.group = own worker is.look is.sweep is.found is.has in
    let seen : view ≡ Some (group_view old.book.reference old.book.history is.sweep.group) =
    shows is.look is.found (subst (λ (p : Option SweepEntry). IsSome p) (sym is.has) refl) is.fresh ∙ ap (λ (g : Group). Some (group_view old.book.reference old.book.history g)) (sym group) in
    let receipt = next_receipt (with_look old worker None) (SweptEntry is.sweep) in
    subst (HasOneText old (Commit worker) view) (sym is.swept) (ap (λ (v : Option GroupView). outcome_text v None (Swept receipt)) seen)

one_text : (old new : State) (step : Step) (outcome : Outcome) (view : Option GroupView) → AreOwn old.looks → LeadsTo old step outcome new → ShowsFor old step view → HasOneText old step view outcome
one_text old new (Enter command) outcome view own leads shows =
    subst (λ (v : Option GroupView). HasOneText old (Enter command) v outcome) (sym shows)
    (elim ((step_entered old new command outcome leads).0) [
      | inl (receipt, is) ↦ subst (HasOneText old (Enter command) None) (sym is) refl
      | inr is ↦ subst (HasOneText old (Enter command) None) (sym is) refl
    ])
one_text old new (See worker group) outcome view own leads shows =
    subst (λ (v : Option GroupView). HasOneText old (See worker group) v outcome) (sym shows)
    (elim (step_looked old new worker group outcome leads) [
      | inl seen ↦ subst (HasOneText old (See worker group) None) (sym seen.outcome_is.1) refl
      | inr unseen ↦ subst (HasOneText old (See worker group) None) (sym unseen.outcome_is) refl
    ])
one_text old new (Propose worker) outcome view own leads shows =
    subst (λ (v : Option GroupView). HasOneText old (Propose worker) v outcome) (sym shows)
    (elim ((step_proposed old new worker outcome leads).outcome_is) [
      | inl is ↦ subst (HasOneText old (Propose worker) None) (sym is) refl
      | inr (lots, is) ↦ subst (HasOneText old (Propose worker) None) (sym is) refl
    ])
one_text old new (Commit worker) outcome view own leads shows =
    elim ((step_committed old new worker outcome leads).0) [
      | inl is ↦ committed_text old worker view outcome own shows is
      | inr is ↦ uncommitted_text old worker view outcome is
    ]

-- a step is taken, and the text of its outcome is appended
pub step_answered : (old new : Course) (step : Step) (view : Option GroupView) (outcome : Outcome) (before after : List ℕ) → IsReached old → (goes_on : GoesOn old step new) × (goes_on.outcome ≡ outcome)
    → ShowsFor old.state step view → after ≡ before ++ outcome_text view (looked step) outcome → AnswersStep old step before new after
step_answered old new step view outcome before after reached goes shows appended =
    let leads : LeadsTo old.state step outcome new.state = subst (λ (o : Outcome). LeadsTo old.state step o new.state) goes.1 goes.0.leads in
    record {
      goes_on = goes.0;
      appended = appended ∙ ap (λ (t : List ℕ). before ++ t) (one_text old.state new.state step outcome view (own_reached old reached) leads shows)
          ∙ ap (λ (o : Outcome). before ++ step_text old.state.book step o) (sym goes.1);
    }

-- ---- lines

-- a line that is a step
pub line_of_step : (old new : Course) (step : Step) (before after : List ℕ) → AnswersStep old step before new after → AnswersLine old (line.Step step) before new after
line_of_step old new step before after answers = record {
  text = step_text old.state.book step answers.goes_on.outcome;
  has_text = record {
    outcomes = answers.goes_on.outcome ∷ [];
    run = (new.state, answers.goes_on.leads, refl);
    outcomes_are = answers.goes_on.outcomes;
    text_is = refl;
  };
  appended = answers.appended;
}

-- a line that is a question
pub line_of_question : (course : Course) (said : Line) (before after : List ℕ) → steps_of said ≡ [] → after ≡ before ++ line_text course.state.book said [] → AnswersLine course said before course after
line_of_question course said before after none appended = record {
  text = line_text course.state.book said [];
  has_text = record {
    outcomes = [];
    run = subst (λ (steps : List Step). IsRun course.state steps [] course.state) (sym none) refl;
    outcomes_are = sym (append-nil course.outcomes);
    text_is = refl;
  };
  appended = appended;
}

-- the outcomes of three steps
three_more : (all first second last : List Outcome) (a b c : Outcome) → first ≡ all ++ a ∷ [] → second ≡ first ++ b ∷ [] → last ≡ second ++ c ∷ [] → last ≡ all ++ a ∷ b ∷ c ∷ []
three_more all first second last a b c one two three =
    three ∙ ap (λ (os : List Outcome). os ++ c ∷ []) (two ∙ ap (λ (os : List Outcome). os ++ b ∷ []) one)
    ∙ append_assoc (all ++ a ∷ []) (b ∷ []) (c ∷ []) ∙ append_assoc all (a ∷ []) (b ∷ c ∷ [])

-- a sweep of a known group
pub line_of_sweep : (old mid new : Course) (group : Group) (before after : List ℕ) → is_group old.state.book.reference group ≡ true → Proposes old group mid → AnswersStep mid (Commit sweeper) before new after
    → AnswersLine old (line.Sweep group) before new after
line_of_sweep old mid new group before after known proposes answers =
    let first = proposes.sees in
    let second = proposes.proposes in
    let last = answers.goes_on in
    elim (step_looked old.state proposes.mid.state sweeper group first.outcome first.leads) [
      | inl seen ↦
          let book : mid.state.book ≡ old.state.book = (step_proposed proposes.mid.state mid.state sweeper second.outcome second.leads).book ∙ seen.book in
          let text : sweep_text old.state.book (first.outcome ∷ second.outcome ∷ last.outcome ∷ []) ≡ step_text old.state.book (Commit sweeper) last.outcome =
          ap (λ (o : Outcome). sweep_text old.state.book (o ∷ second.outcome ∷ last.outcome ∷ [])) seen.outcome_is.1 in
          record {
            text = step_text mid.state.book (Commit sweeper) last.outcome;
            has_text = record {
              outcomes = first.outcome ∷ second.outcome ∷ last.outcome ∷ [];
              run = (proposes.mid.state, first.leads, (mid.state, second.leads, (new.state, last.leads, refl)));
              outcomes_are = three_more old.outcomes proposes.mid.outcomes mid.outcomes new.outcomes first.outcome second.outcome last.outcome first.outcomes second.outcomes last.outcomes;
              text_is = ap (λ (b : BookState). step_text b (Commit sweeper) last.outcome) book ∙ sym text;
            };
            appended = answers.appended;
          }
      | inr unseen ↦ absurd (let both : true ≡ false = sym known ∙ unseen.unknown in cc)
    ]

-- a sweep of a group that the reference lacks
pub line_of_unknown : (old mid new : Course) (group : Group) (before after : List ℕ) → is_group old.state.book.reference group ≡ false → Proposes old group mid → GoesOn mid (Commit sweeper) new
    → after ≡ before ++ outcome_text None None NoGroup → AnswersLine old (line.Sweep group) before new after
line_of_unknown old mid new group before after unknown proposes last appended =
    let first = proposes.sees in
    let second = proposes.proposes in
    elim (step_looked old.state proposes.mid.state sweeper group first.outcome first.leads) [
      | inl seen ↦ absurd (let both : true ≡ false = sym seen.known ∙ unknown in cc)
      | inr unseen ↦
          record {
            text = outcome_text None None NoGroup;
            has_text = record {
              outcomes = first.outcome ∷ second.outcome ∷ last.outcome ∷ [];
              run = (proposes.mid.state, first.leads, (mid.state, second.leads, (new.state, last.leads, refl)));
              outcomes_are = three_more old.outcomes proposes.mid.outcomes mid.outcomes new.outcomes first.outcome second.outcome last.outcome first.outcomes second.outcomes last.outcomes;
              text_is = sym (ap (λ (o : Outcome). sweep_text old.state.book (o ∷ second.outcome ∷ last.outcome ∷ [])) unseen.outcome_is);
            };
            appended = appended;
          }
    ]

-- the content of a line is answered; if it is silent, nothing is
pub said_answered : (old new : Course) (text : List ℕ) (said : Option Line) (before after : List ℕ) → MatchOption said (IsTrue (is_silent text)) (Says text) → AnswersSaid old said before new after
    → AnswersLines old (text ∷ []) before new after
said_answered old new text None before after silent answers = record {
  text = [];
  of_lines = subst (λ (c : Course). IsTextOfLines old (text ∷ []) [] c) (sym answers.0) (line_silent old text silent);
  appended = answers.1 ∙ sym (append-nil before);
}
said_answered old new text (Some said) before after says answers = record {
  text = answers.text;
  of_lines = line_said old new text answers.text said says answers.has_text;
  appended = answers.appended;
}
