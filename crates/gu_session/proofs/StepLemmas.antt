-- Steps by what is done.
use Rattle.gu_session.proofs.Words.{◌≡◌, ℕ, false, inr, Result, Vec, refl, subst, IfOk, Global, Follows, SessionState, IsCourse, StepsWith, responses_of, Input, Output, Course}
use Rattle.std.proofs.lemmas.Result.{IfOk-weaker}

-- an open session that follows its course steps
pub performed_steps : {E : Type 0} (s old new : SessionState) (input : Input) (course : Course) (now : ℕ) (result : Result (Vec Output Global) E) → s ≡ old →
    s.is_closed ≡ false → IsCourse s input now course → IfOk result (λ outputs. Follows old course now outputs.items new) →
    IfOk result (λ outputs. StepsWith old input now outputs.items new)
performed_steps s old new input course now result same is_open is done =
    IfOk-weaker result (λ outputs. Follows old course now outputs.items new) (λ outputs. StepsWith old input now outputs.items new) (λ outputs follows. record {
      given = responses_of old now course;
      steps = inr (record {
        is_open = subst (λ (s : SessionState). s.is_closed ≡ false) same is_open;
        course = course;
        is_course = subst (λ (s : SessionState). IsCourse s input now course) same is;
        gives = refl;
        leaves = follows.leaves;
      });
      are_outputs = follows.are_outputs;
    }) done
