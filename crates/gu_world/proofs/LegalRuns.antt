-- Every run leads to a legal history.
use Rattle.gu_world.proofs.Words.{◌≡◌, ◌⊎◌, ℕ, zero, suc, ◌≤◌, Bool, true, false, List, [], ◌∷◌, ◌++◌, drop, length, take, take-append-drop, Option, Some, None, refl, sym, ap, subst, arith, inl, inr, if◌then◌else◌, length-append, slice_index_or, slice_set, option_map_or, leb-false, take-append-le, Entry, Asked as AskedEntry, Swept as SweptEntry, SweepEntry, Group, is_group, Tables, GroupView, IsLegal, MayBeEntered, MayFollow, version_of, group_view, equal_views, Course, IsRun, IsRunOf, LeadsTo, Look, ProposesOn, State, committed_for, committed_on, is_full, is_overtaken, look_of, start, with_entry, with_look, with_proposal, Outcome, Nothing, Step, Enter, See, Propose, Commit}
use Rattle.gu_rules.specs.Answer.{answer}
use Rattle.gu_rules.specs.Sweeps.{IsSweepOf, MaySweep}
use Rattle.gu_rules.proofs.Growing.{legal_push}
use Rattle.gu_world.proofs.HeadlineLemmas.{run-reference}
use Rattle.gu_world.proofs.SlotLemmas.{index-nothing}
use Rattle.gu_world.proofs.Touches.{versions_and_touches}

-- a look is at existing entries, and its sweep may follow them
record IsSeen (reference : Tables) (history : List Entry) (look : Look) : Type 0 where
  seen : look.seen ≤ length history
  may : (sweep : SweepEntry) → look.proposal ≡ Some sweep → (sweep.group ≡ look.group) × MaySweep reference (take look.seen history) sweep

-- a legal history with such looks
record IsGood (state : State) : Type 0 where
  legal : IsLegal state.book.reference state.book.history
  looks : (worker : ℕ) (look : Look) → look_of state worker ≡ Some look → IsSeen state.book.reference state.book.history look

-- ---- looks

-- an element read after a write is the one written, or was there before
read_set : {X : Type 0} (xs : List (Option X)) (place worker : ℕ) (x : Option X) (y : X) → slice_index_or (slice_set xs place x) worker None ≡ Some y
    → (x ≡ Some y) ⊎ (slice_index_or xs worker None ≡ Some y)
read_set [] place worker x y at = inr at
read_set (first ∷ xs) zero zero x y at = inl at
read_set (first ∷ xs) zero (suc worker) x y at = inr at
read_set (first ∷ xs) (suc place) zero x y at = inr at
read_set (first ∷ xs) (suc place) (suc worker) x y at = read_set xs place worker x y at

module _ (state : State) (good : IsGood state) where
  good_look : (worker : ℕ) (look : Look) → IsSeen state.book.reference state.book.history look → IsGood (with_look state worker (Some look))
  good_look worker look one = record {
    legal = good.legal;
    looks = λ other found at. elim (read_set state.looks worker other (Some look) found at) [
      | inl here ↦ let same : look ≡ found = cc in subst (IsSeen state.book.reference state.book.history) same one
      | inr there ↦ good.looks other found there
    ];
  }

  good_without : (worker : ℕ) → IsGood (with_look state worker None)
  good_without worker = record {
    legal = good.legal;
    looks = λ other found at. elim (read_set state.looks worker other None found at) [
      | inl here ↦ cc
      | inr there ↦ good.looks other found there
    ];
  }

  -- one more entry keeps what was seen
  good_entry : (entry : Entry) → is_full state ≡ false → MayBeEntered entry → MayFollow state.book.reference state.book.history entry → IsGood (with_entry state entry)
  good_entry entry room entered may = record {
    legal = legal_push state.book.reference state.book.history entry good.legal (leb-false 1000000 (length state.book.history) room) entered may;
    looks = λ worker look at.
        let one = good.looks worker look at in
        let front : take look.seen (state.book.history ++ entry ∷ []) ≡ take look.seen state.book.history = take-append-le look.seen state.book.history (entry ∷ []) one.seen in
        record {
          seen = omega (arith, one.seen, length-append state.book.history (entry ∷ []));
          may = λ sweep is. let own = one.may sweep is in (own.0, subst (λ (h : List Entry). MaySweep state.book.reference h sweep) (sym front) own.1);
        };
  }

  -- a look that wasn't overtaken has a sweep that may follow
  still : (look : Look) (sweep : SweepEntry) → IsSeen state.book.reference state.book.history look → look.proposal ≡ Some sweep → is_overtaken state look ≡ false
      → MaySweep state.book.reference state.book.history sweep
  still look sweep one is quiet =
      let own = one.may sweep is in
      let versions : version_of (take look.seen state.book.history) look.group ≡ version_of state.book.history look.group = (versions_and_touches state.book.history look.seen look.group one.seen).1 quiet in
      let views = equal_views state.book.reference (take look.seen state.book.history) state.book.history look.group (drop look.seen state.book.history, take-append-drop look.seen state.book.history) good.legal versions in
      let mine : group_view state.book.reference (take look.seen state.book.history) sweep.group ≡ group_view state.book.reference state.book.history sweep.group =
      subst (λ (g : Group). group_view state.book.reference (take look.seen state.book.history) g ≡ group_view state.book.reference state.book.history g) (sym own.0) views in
      record { known = own.1.known; sweeps = subst (λ (v : GroupView). IsSweepOf v sweep) mine own.1.sweeps }

-- ---- steps

either : (b : Bool) (x y : Outcome × State) → IsGood x.1 → (b ≡ false → IsGood y.1) → IsGood (if b then x else y).1
either true x y h k = h
either false x y h k = k refl

good_proposed : (old : State) → IsGood old → (worker : ℕ) (look : Option Look) → look_of old worker ≡ look → (outcome : Outcome) (new : State) → ProposesOn look old worker outcome new → IsGood new
good_proposed old good worker None at outcome new h = subst IsGood (sym h.1) good
good_proposed old good worker (Some look) at outcome new h =
    let one = good.looks worker look at in
    subst IsGood (sym h.new_is)
    (good_look old good worker (with_proposal look h.sweep)
    (record {
      seen = one.seen;
      may = λ sweep is. let same : h.sweep ≡ sweep = cc in subst (λ (s : SweepEntry). (s.group ≡ look.group) × MaySweep old.book.reference (take look.seen old.book.history) s) same (h.own, h.right);
    }))

good_committed : (old : State) → IsGood old → (worker : ℕ) (look : Option Look) → look_of old worker ≡ look → IsGood (committed_on look old worker).1
good_committed old good worker None at = good
good_committed old good worker (Some look) at = by look.proposal refl
  where
    state : State
    state = with_look old worker None

    by : (proposal : Option SweepEntry) → look.proposal ≡ proposal → IsGood (option_map_or {U = Outcome × State} (committed_for (with_look old worker None) look) proposal (Nothing, old)).1
    by None is = good
    by (Some sweep) is =
        let left = good_without old good worker in
        either (is_full (with_look old worker None)) _ _ left
        (λ room. either (is_overtaken (with_look old worker None) look) _ _ left (λ quiet. good_entry (with_look old worker None) left (SweptEntry sweep) room tt (still (with_look old worker None) left look sweep (good.looks worker look at) is quiet)))

good_leads : (old : State) (step : Step) (outcome : Outcome) (new : State) → LeadsTo old step outcome new → IsGood old → IsGood new
good_leads old (Enter command) outcome new h good =
    subst IsGood (sym (ap (λ (p : Outcome × State). p.1) h.1)) (either (is_full old) _ _ good (λ room. good_entry old good (AskedEntry command (answer old.book.reference old.book.history command)) room h.0 refl))
good_leads old (See worker group) outcome new h good =
    let one : IsSeen old.book.reference old.book.history (record { group = group; seen = length old.book.history; proposal = None }) = record { seen = omega arith; may = λ sweep is. cc } in
    let put = good_look old good worker (record { group = group; seen = length old.book.history; proposal = None }) one in
    subst IsGood (sym (ap (λ (p : Outcome × State). p.1) h)) (either (is_group old.book.reference group) _ _ put (λ unknown. good))
good_leads old (Propose worker) outcome new h good = good_proposed old good worker (look_of old worker) refl outcome new h
good_leads old (Commit worker) outcome new h good = subst IsGood (sym (ap (λ (p : Outcome × State). p.1) h)) (good_committed old good worker (look_of old worker) refl)

-- ---- runs

good_run : (old : State) (steps : List Step) (outcomes : List Outcome) (new : State) → IsRun old steps outcomes new → IsGood old → IsGood new
good_run old [] [] new h good = subst IsGood (sym h) good
good_run old [] (o ∷ outcomes) new h good = absurd h
good_run old (s ∷ steps) [] new h good = absurd h
good_run old (s ∷ steps) (o ∷ outcomes) new h good = good_run h.0 steps outcomes new h.2 (good_leads old s o h.0 h.1 good)

good_start : (reference : Tables) → IsGood (start reference)
good_start reference = record {
  legal = record { within = omega arith; entered = λ k entry at. cc; each = λ k entry at. cc };
  looks = λ worker look at. let none : look_of (start reference) worker ≡ None = index-nothing 64 worker in cc;
}

pub run_legal : (reference : Tables) (steps : List Step) (course : Course) → IsRunOf reference steps course → IsLegal reference course.state.book.history
run_legal reference steps course run =
    subst (λ (r : Tables). IsLegal r course.state.book.history) (run-reference (start reference) steps course.outcomes course.state run)
    (good_run (start reference) steps course.outcomes course.state run (good_start reference)).legal
