-- A closed session gives nothing.
use Rattle.gu_session.proofs.Words.{◌≡◌, inl, inr, ℕ, true, List, [], ◌∷◌, ap, ◌∙◌, arith, Response, ClosedForGood, SessionState, Steps, Input}

-- one step
pub closed_step : (old new : SessionState) (input : Input) (now : ℕ) (given : List Response) → old.is_closed ≡ true → Steps old input now given new → (given ≡ []) × (new ≡ old)
closed_step old new input now given closed steps =
    elim steps as (λ _. (given ≡ []) × (new ≡ old)) [
      | inl still ↦ (still.gives, still.leaves)
      | inr other ↦ grind (arith, closed, other.is_open)
    ]

-- a run
pub closed_run : ClosedForGood
closed_run old new [] given closed runs = (runs.0, runs.1)
closed_run old new (input ∷ inputs) given closed (first, later, next, steps, parts, rest) =
    let one = closed_step old next input.0 input.1 first closed steps in
    let others = closed_run next new inputs later (ap (λ (s : SessionState). s.is_closed) one.1 ∙ closed) rest in
    (grind (arith, parts, one.0, others.0), others.1 ∙ one.1)
