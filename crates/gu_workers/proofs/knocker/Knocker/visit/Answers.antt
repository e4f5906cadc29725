use Rattle.std.proofs.lemmas.Result.{IfErr-weaker}
use Rattle.gu_workers.specs.Knockers.{EndsBy, IsEndAfter}
use Rattle.gu_workers.proofs.KnockEnds.{ends_after}
use Rattle.gu_workers.proofs.knocker.Knocker.visit.Goals as goal

pub returns-in-Ok-clause-ended : goal.returns-in-Ok-clause-ended
returns-in-Ok-clause-ended g c =
    IfErr-weaker c.after.result (IsEndAfter c.in-Ok.listened) (EndsBy g.I.Read.remaining c.args.now.now.ms c.args.self)
    (λ cause. ends_after g.I.Read.remaining _ _ c.args.now.now.ms c.args.self c.in-Some.listening c.in-Ok.listened cause c.in-Some.is c.in-Ok.ensures) c.after.ensures.ended
