use Rattle.std.proofs.Common.{arith, refl}
use Rattle.gu_terms.proofs.lots.read_any_lots.Goals as goal

pub returns-in-None-clause-out_of_range : goal.returns-in-None-clause-out_of_range
returns-in-None-clause-out_of_range c = (λ is. (c.in-Some.ensures.is_number, λ n means. grind arith), λ apart. refl)
