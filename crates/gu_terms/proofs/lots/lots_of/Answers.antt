use Rattle.std.proofs.Common.{arith, rules, subst, sym, ◌∙◌}
use Rattle.gu_terms.specs.Numbers.{IsLots}
use Rattle.gu_terms.proofs.NumberLemmas.{lots_of_parts, parts_mean_lots, range_tells}
use Rattle.gu_terms.proofs.lots.lots_of.Goals as goal

pub returns-then-not-is_zero : goal.returns-then-not-is_zero
returns-then-not-is_zero c text apart n h = let is_zero = c.is_zero.ensures.1 (lots_of_parts apart h).2 in cc

pub returns-in_default : goal.returns-in_default
returns-in_default c text apart n h = let parts = lots_of_parts apart h in omega (arith, c.in_default.ensures, h.sound)

pub returns : goal.returns
returns c text apart =
    range_tells IsLots _ c.new.result c.in-Some.number c.new.ensures.sound c.new.ensures.same
    (λ out n h. out (subst IsLots (sym (c.in-Some.ensures.0 ∙ (lots_of_parts apart h).1)) h.sound))
    (λ sound. parts_mean_lots apart c.if-parts.false c.in-Some.ensures.0 (c.is_zero.ensures.0 (search rules)) sound)
