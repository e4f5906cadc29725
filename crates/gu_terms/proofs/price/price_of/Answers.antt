use Rattle.std.proofs.Common.{arith, rules}
use Rattle.gu_terms.proofs.NumberLemmas.{millionths_of_parts, units_of_parts, parts_mean_price}
use Rattle.gu_terms.proofs.price.price_of.Goals as goal

pub returns-in_default : goal.returns-in_default
returns-in_default c text apart z h = let found = millionths_of_parts apart h in c.in_default.ensures found.0 found.1

pub returns-in_default-value_of : goal.returns-in_default-value_of
returns-in_default-value_of c text apart z h = omega (arith, c.in_default-value_of.ensures, units_of_parts apart h)

pub returns : goal.returns
returns c text apart =
    parts_mean_price c.in-Some-value_of.units c.in-Some.millionths apart c.in-Some-value_of.ensures.0 c.in-Some-value_of.ensures.1 c.in-Some.ensures.0 c.in-Some.ensures.1 (search (rules, c.signed-number.ensures))
