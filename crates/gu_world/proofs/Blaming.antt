-- The entry to blame for an outcome.
use Rattle.gu_world.proofs.Words.{◌≡◌, ℕ, zero, suc, ◌-◌, ◌<◌, true, false, List, [], ◌∷◌, ◌++◌, length, take, get_or, Option, Some, None, Result, Ok, Err, refl, sym, ap, ◌∙◌, arith, subst, length-append, slice_get, IfOk, option_map_or, Tables, IsBlamedFor, ends_stale, first_after, is_stale, Course, GoesOn, IsBlamedAt, IsCulprit, IsRunOf, blamed, State, Outcome, Stale, Step, Enter, See, Propose, Commit}

-- the last element
last-at : {X : Type 0} (xs : List X) (x : X) → slice_get (xs ++ x ∷ []) (length xs) ≡ Some x
last-at [] x = refl
last-at (first ∷ xs) x = last-at xs x

ends-is : (outcomes : List Outcome) (outcome : Outcome) → ends_stale (outcomes ++ outcome ∷ []) ≡ is_stale outcome
ends-is outcomes outcome =
    let place : length (outcomes ++ outcome ∷ []) - 1 ≡ length outcomes = omega (arith, length-append outcomes (outcome ∷ [])) in
    ap (λ (k : ℕ). option_map_or is_stale (slice_get (outcomes ++ outcome ∷ []) k) false) place
    ∙ ap (λ (found : Option Outcome). option_map_or is_stale found false) (last-at outcomes outcome)

-- for a stale outcome the first later touch is to blame, and for any other none
blamed-is : (before : State) (step : Step) (outcome : Outcome) → is_stale outcome ≡ true → blamed before step outcome ≡ first_after before step
blamed-is before (Commit worker) (Stale seen now) stale = refl
blamed-is before (Enter command) outcome stale = refl
blamed-is before (See worker group) outcome stale = refl
blamed-is before (Propose worker) outcome stale = refl
blamed-is before (Commit worker) outcome stale = cc

blamed-none : (before : State) (step : Step) (outcome : Outcome) → is_stale outcome ≡ false → blamed before step outcome ≡ None
blamed-none before (Commit worker) (Stale seen now) stale = cc
blamed-none before step outcome stale = refl

module _ (old new : Course) (step : Step) (goes : GoesOn old step new) where
  pub blames : (first : Option ℕ) → first ≡ first_after old.state step → true ≡ ends_stale new.outcomes → IsBlamedFor old step new first
  blames first is stale =
      let same : is_stale goes.outcome ≡ true = sym (ends-is old.outcomes goes.outcome) ∙ ap ends_stale (sym goes.outcomes) ∙ sym stale in
      record { goes_on = goes; culprit_is = is ∙ sym (blamed-is old.state step goes.outcome same) }

  pub blames-none : false ≡ ends_stale new.outcomes → IsBlamedFor old step new None
  blames-none stale =
      let same : is_stale goes.outcome ≡ false = sym (ends-is old.outcomes goes.outcome) ∙ ap ends_stale (sym goes.outcomes) ∙ sym stale in
      record { goes_on = goes; culprit_is = sym (blamed-none old.state step goes.outcome same) }

-- ---- the step at an index

get-at : {X : Type 0} (xs : List X) (place : ℕ) (x : X) → place < length xs → x ≡ get_or xs place x → slice_get xs place ≡ Some x
get-at [] place x inside is = absurd (omega arith)
get-at (first ∷ xs) zero x inside is = ap Some (sym is)
get-at (first ∷ xs) (suc place) x inside is = get-at xs place x (omega arith) is

pub culprit-none : (reference : Tables) (steps : List Step) (at : ℕ) → slice_get steps at ≡ None → IsCulprit reference steps at None
culprit-none reference steps at none = subst (λ (found : Option Step). IsBlamedAt reference (take at steps) found None) (sym none) refl

if_ok : {T E : Type 0} (P Q : T → Type 0) (r : Result T E) → ((x : T) → P x → Q x) → IfOk r P → IfOk r Q
if_ok P Q (Ok x) f h = f x h
if_ok P Q (Err e) f h = tt

pub culprit-at : {E : Type 0} (reference : Tables) (steps : List Step) (at : ℕ) (step : Step) (old new : Course) (r : Result (Option ℕ) E) → at < length steps → step ≡ get_or steps at step → IsRunOf reference (take at steps) old
    → IfOk r (IsBlamedFor old step new) → IfOk r (IsCulprit reference steps at)
culprit-at reference steps at step old new r inside is run h =
    if_ok (IsBlamedFor old step new) (IsCulprit reference steps at) r
    (λ culprit b. subst (λ (found : Option Step). IsBlamedAt reference (take at steps) found culprit) (sym (get-at steps at step inside is))
    (record { before = old; after = new; run = run; goes_on = b.goes_on; culprit_is = b.culprit_is })) h
