use Rattle.std.proofs.Common.{ℕ, inr, subst}
use Rattle.gu_workers.specs.Places.{SendsPlace}
use Rattle.gu_workers.proofs.worker.Worker.send.Goals as goal

pub returns-in-Ok : goal.returns-in-Ok
returns-in-Ok g c =
    inr (
      c.in-Some.permit,
      c.in-Ok.ensures.led,
      c.in-Some.ensures,
      subst (λ (n : ℕ). SendsPlace g.P.Outgoing.Write.contents n c.args.place c.in-Ok.sent) c.in-Some.ensures c.in-Ok.ensures.sends,
    )
