-- Runs, with one more step.
use Rattle.gu_world.proofs.Words.{◌≤◌, arith, ◌≡◌, ℕ, suc, Bool, true, false, List, [], ◌∷◌, ◌++◌, drop, length, map, take, take-append-drop, Option, Some, None, refl, sym, ap, ◌∙◌, subst, if◌then◌else◌, IsSome, slice_index_or, option_map, option_map_or, SweepEntry, is_group, Tables, GroupView, BookState, IsLegal, group_view, equal_views, AreTrue, IsKeptCourse, look_by, look_in, state_in, view_in, view_proposed, view_ready, AreNumbered, kept_of, outcome_in, Course, GoesOn, IsRun, IsRunOf, beginning, LeadsTo, Look, ProposesOn, ShowsProposed, State, committed_for, committed_on, is_full, is_overtaken, look_of, view_seen, with_look, Held, Work, Looking, Ready, Outcome, Nothing, Step, Enter, See, Propose, Commit, KeptOutcome}
use Rattle.gu_world.proofs.OutcomeLemmas.{numbered-one_more, outcomes-one_more}
use Rattle.gu_world.proofs.Holding.{look_by-group, look_by-seen}
use Rattle.gu_world.proofs.SlotLemmas.{look_of-held}
use Rattle.gu_world.proofs.Touches.{versions_and_touches}

-- a run of some steps followed by a run of more is a run of all
pub IsRun-append : (old mid new : State) (steps more : List Step) (outcomes others : List Outcome) → IsRun old steps outcomes mid → IsRun mid more others new → IsRun old (steps ++ more) (outcomes ++ others) new
IsRun-append old mid new [] more [] others h k = subst (λ (s : State). IsRun s more others new) h k
IsRun-append old mid new [] more (o ∷ outcomes) others h k = elim h [ ]
IsRun-append old mid new (s ∷ steps) more [] others h k = elim h [ ]
IsRun-append old mid new (s ∷ steps) more (o ∷ outcomes) others h k = (h.0, h.1, IsRun-append h.0 mid new steps more outcomes others h.2 k)

-- a run has one outcome for each step
pub length-outcomes : (old new : State) (steps : List Step) (outcomes : List Outcome) → IsRun old steps outcomes new → length outcomes ≡ length steps
length-outcomes old new [] [] h = refl
length-outcomes old new [] (o ∷ outcomes) h = elim h [ ]
length-outcomes old new (s ∷ steps) [] h = elim h [ ]
length-outcomes old new (s ∷ steps) (o ∷ outcomes) h = ap suc (length-outcomes h.0 new steps outcomes h.2)

-- a run continues with a step
pub run-goes_on : (reference : Tables) (steps : List Step) (step : Step) (old new : Course) → IsRunOf reference steps old → GoesOn old step new → IsRunOf reference (steps ++ step ∷ []) new
run-goes_on reference steps step old new run goes =
    subst (λ (os : List Outcome). IsRun (beginning reference).state (steps ++ step ∷ []) os new.state) (sym goes.outcomes)
    (IsRun-append (beginning reference).state old.state new.state steps (step ∷ []) old.outcomes (goes.outcome ∷ []) run (new.state, goes.leads, refl))

-- ---- the reference

-- if two alternatives have the same reference, either has it
either : (b : Bool) (reference : Tables) (x y : Outcome × State) → x.1.book.reference ≡ reference → y.1.book.reference ≡ reference → (if b then x else y).1.book.reference ≡ reference
either true reference x y h k = h
either false reference x y h k = k

committed_for-reference : (state : State) (look : Look) (sweep : SweepEntry) → (committed_for state look sweep).1.book.reference ≡ state.book.reference
committed_for-reference state look sweep =
    either (is_full state) state.book.reference _ _ refl (either (is_overtaken state look) state.book.reference _ _ refl refl)

committed_on-reference : (look : Option Look) (state : State) (worker : ℕ) → (committed_on look state worker).1.book.reference ≡ state.book.reference
committed_on-reference None state worker = refl
committed_on-reference (Some look) state worker = of look.proposal
  where
    of : (proposal : Option SweepEntry) → (option_map_or {U = Outcome × State} (committed_for (with_look state worker None) look) proposal (Nothing, state)).1.book.reference ≡ state.book.reference
    of None = refl
    of (Some sweep) = committed_for-reference (with_look state worker None) look sweep

proposes-reference : (look : Option Look) (old : State) (worker : ℕ) (outcome : Outcome) (new : State) → ProposesOn look old worker outcome new → new.book.reference ≡ old.book.reference
proposes-reference None old worker outcome new h = ap (λ (s : State). s.book.reference) h.1
proposes-reference (Some look) old worker outcome new h = ap (λ (s : State). s.book.reference) h.new_is

-- no step changes it
pub leads-reference : (old : State) (step : Step) (outcome : Outcome) (new : State) → LeadsTo old step outcome new → new.book.reference ≡ old.book.reference
leads-reference old (Enter command) outcome new h = ap (λ (p : Outcome × State). p.1.book.reference) h.1 ∙ either (is_full old) old.book.reference _ _ refl refl
leads-reference old (See worker group) outcome new h = ap (λ (p : Outcome × State). p.1.book.reference) h ∙ either (is_group old.book.reference group) old.book.reference _ _ refl refl
leads-reference old (Propose worker) outcome new h = proposes-reference (look_of old worker) old worker outcome new h
leads-reference old (Commit worker) outcome new h = ap (λ (p : Outcome × State). p.1.book.reference) h ∙ committed_on-reference (look_of old worker) old worker

-- ---- what is stored

pub kept-beginning : (reference : Tables) (book : BookState) (slots : List (Option Held)) (outcomes : List KeptOutcome) → book ≡ record { reference = reference; history = [] } → slots ≡ [] → outcomes ≡ []
    → IsKeptCourse book slots outcomes
kept-beginning reference book slots outcomes new none nothing =
    subst (λ (os : List KeptOutcome). IsKeptCourse book slots os) (sym nothing)
    (subst (λ (ss : List (Option Held)). IsKeptCourse book ss []) (sym none)
    (subst (λ (b : BookState). IsKeptCourse b [] []) (sym new) (record {
      trues = λ worker held at. cc;
      numbered = λ k d within. absurd (omega (arith, within));
      reached = record { steps = []; run = refl };
    })))

module _ (book after : BookState) (slots left : List (Option Held)) (outcomes more : List KeptOutcome) (step : Step) (outcome : Outcome) (leads : LeadsTo (state_in book slots) step outcome (state_in after left))
    (pushed : more ≡ outcomes ++ kept_of outcome ∷ []) (kept : IsKeptCourse book slots outcomes) where
  pub taken-goes_on : GoesOn (record { state = state_in book slots; outcomes = map (outcome_in book.history) outcomes }) step
      (record { state = state_in after left; outcomes = map (outcome_in after.history) more })
  taken-goes_on = record {
    outcome = outcome;
    leads = leads;
    outcomes = ap (map (outcome_in after.history)) pushed ∙ outcomes-one_more outcomes (state_in book slots) step outcome (state_in after left) leads kept.numbered;
  }

  -- with just this outcome
  pub taken-told : (goes : GoesOn (record { state = state_in book slots; outcomes = map (outcome_in book.history) outcomes }) step
      (record { state = state_in after left; outcomes = map (outcome_in after.history) more })) × (goes.outcome ≡ outcome)
  unfolding taken-goes_on
  taken-told = (taken-goes_on, refl)

  pub taken-kept : AreTrue after left → IsKeptCourse after left more
  taken-kept trues =
      let new : Course = record { state = state_in after left; outcomes = map (outcome_in after.history) more } in record {
        trues = trues;
        numbered = subst (AreNumbered (length after.history)) (sym pushed) (numbered-one_more outcomes (state_in book slots) step outcome (state_in after left) leads kept.numbered);
        reached = record {
          steps = kept.reached.steps ++ step ∷ [];
          run = subst (λ (r : Tables). IsRunOf r (kept.reached.steps ++ step ∷ []) new)
              (sym (leads-reference (state_in book slots) step outcome (state_in after left) leads))
              (run-goes_on book.reference kept.reached.steps step (record { state = state_in book slots; outcomes = map (outcome_in book.history) outcomes }) new kept.reached.run taken-goes_on);
        };
      }

-- ---- looks

-- the stored view is the one that was seen
pub kept-look : (book : BookState) (slots : List (Option Held)) (worker : ℕ) (held : Held) (view : GroupView) → AreTrue book slots → slice_index_or slots worker None ≡ Some held → view ≡ view_in held.work
    → Some view ≡ option_map (view_seen (state_in book slots)) (look_of (state_in book slots) worker)
kept-look book slots worker held view trues at is =
    let one = trues worker held at in
    let seen : (look_in held).seen ≡ held.seen = look_by-seen held.seen held.work in
    let group : (look_in held).group ≡ (view_in held.work).group = look_by-group held.seen held.work in
    ap Some (is ∙ one.view ∙ (λ i. group_view book.reference (take (sym seen i) book.history) (sym group i)))
    ∙ sym (ap (option_map (view_seen (state_in book slots))) (look_of-held book slots worker ∙ ap (option_map look_in) at))

pub no-look : (book : BookState) (slots : List (Option Held)) (worker : ℕ) → slice_index_or slots worker None ≡ None → None ≡ option_map (view_seen (state_in book slots)) (look_of (state_in book slots) worker)
no-look book slots worker at = sym (ap (option_map (view_seen (state_in book slots))) (look_of-held book slots worker ∙ ap (option_map look_in) at))

pub no-seen : (book : BookState) (slots : List (Option Held)) (worker : ℕ) → slice_index_or slots worker None ≡ None → look_of (state_in book slots) worker ≡ None
no-seen book slots worker at = look_of-held book slots worker ∙ ap (option_map look_in) at

-- if nothing touched its group since, it is the group's view in the book now
pub kept-current : (book : BookState) (slots : List (Option Held)) (worker : ℕ) (held : Held) (view : GroupView) → IsLegal book.reference book.history → AreTrue book slots
    → slice_index_or slots worker None ≡ Some held → view ≡ view_in held.work → (look : Look) → look_of (state_in book slots) worker ≡ Some look → is_overtaken (state_in book slots) look ≡ false
    → Some view ≡ Some (group_view book.reference book.history look.group)
kept-current book slots worker held view legal trues at is look looks still =
    let one = trues worker held at in
    let here : Some look ≡ Some (look_in held) = sym looks ∙ look_of-held book slots worker ∙ ap (option_map look_in) at in
    let same : look ≡ look_in held = cc in
    let seen : look.seen ≡ held.seen = ap (λ (l : Look). l.seen) same ∙ look_by-seen held.seen held.work in
    let group : look.group ≡ (view_in held.work).group = ap (λ (l : Look). l.group) same ∙ look_by-group held.seen held.work in
    let within : look.seen ≤ length book.history = omega (arith, seen, one.seen) in
    let views = equal_views book.reference (take look.seen book.history) book.history look.group (drop look.seen book.history, take-append-drop look.seen book.history) legal ((versions_and_touches book.history look.seen look.group within).1 still) in
    ap Some (is ∙ one.view ∙ (λ i. group_view book.reference (take (sym seen i) book.history) (sym group i)) ∙ views)

pub no-current : (book : BookState) (slots : List (Option Held)) (worker : ℕ) → slice_index_or slots worker None ≡ None → (look : Look) → look_of (state_in book slots) worker ≡ Some look → is_overtaken (state_in book slots) look ≡ false
    → None ≡ Some (group_view book.reference book.history look.group)
no-current book slots worker at look looks still =
    let here : None ≡ Some look = sym (look_of-held book slots worker ∙ ap (option_map look_in) at) ∙ looks in
    cc

-- the view for which a worker has a proposal, if nothing touched its group since
pub proposed-current : (book : BookState) (slots : List (Option Held)) (worker : ℕ) → IsLegal book.reference book.history → AreTrue book slots
    → ShowsProposed (state_in book slots) worker (view_proposed (slice_index_or slots worker None))
proposed-current book slots worker legal trues look looks has still = by (slice_index_or slots worker None) refl
  where
    Shown : Option GroupView → Type 0
    Shown view = view ≡ Some (group_view book.reference book.history look.group)

    of : (seen : ℕ) (work : Work) → slice_index_or slots worker None ≡ Some (record { seen = seen; work = work }) → Shown (view_ready work)
    of seen (Looking view) at =
        let here : Some look ≡ Some (look_by seen (Looking view)) = sym looks ∙ look_of-held book slots worker ∙ ap (option_map look_in) at in
        let none : look.proposal ≡ None = ap (λ (l : Look). l.proposal) (same here) in
        let no : IsSome {T = SweepEntry} None = subst (λ (p : Option SweepEntry). IsSome p) none has in
        cc
      where
        same : {a b : Look} → Some a ≡ Some b → a ≡ b
        same h = cc
    of seen (Ready proposal) at = kept-current book slots worker (record { seen = seen; work = Ready proposal }) proposal.view legal trues at refl look looks still

    by : (slot : Option Held) → slice_index_or slots worker None ≡ slot → Shown (view_proposed slot)
    by None at = no-current book slots worker at look looks still
    by (Some held) at = of held.seen held.work at
