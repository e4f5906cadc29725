use Rattle.gu_session.proofs.Words.{◌==◌, not, rules, Waiting}
use Rattle.std.proofs.lemmas.Fn.{filter_same}
use Rattle.gu_session.proofs.carrying.forget.Goals as goal

pub returns-in-Some : goal.returns-in-Some
returns-in-Some c =
    rw c.in-Some.is (filter_same _ (λ (one : Waiting). not (one.reference == c.in-Some.reference)) _ (λ x b f called. search rules) _ _ c.retain.ensures.filtered)
