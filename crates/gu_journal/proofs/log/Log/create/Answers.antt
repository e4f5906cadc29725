use Rattle.std.proofs.Common.{arith}
use Rattle.gu_journal.proofs.Settled.{zeros_settled}
use Rattle.gu_journal.proofs.log.Log.create.Goals as goal

pub invariant_of-result : goal.invariant_of-result
invariant_of-result g c = record {
  within = omega arith;
  short = c.requires.short;
  settled = λ honest. zeros_settled c.args.step _ _ (c.in-Ok.ensures.seen honest) (c.in-Ok.ensures.durable honest);
}
