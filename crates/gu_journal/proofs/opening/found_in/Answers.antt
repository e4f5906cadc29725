use Rattle.std.proofs.Common.{ap, length, arith}
use Rattle.gu_journal.proofs.Texts.{used_within}
use Rattle.gu_journal.proofs.opening.found_in.Goals as goal

pub returns-clause-within : goal.returns-clause-within
returns-clause-within c = omega (arith, used_within c.deref-2.result.now, ap length c.deref.ensures.value, ap length c.deref-2.ensures.value)
