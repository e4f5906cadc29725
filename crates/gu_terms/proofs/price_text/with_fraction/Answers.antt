use Rattle.std.proofs.Common.{◌≤◌, List, ℕ, [], ◌∷◌, length, ap, arith}
use Rattle.std.proofs.lemmas.List.{length-append}
use Rattle.gu_terms.proofs.WrittenLemmas.{fraction_none, fraction_some}
use Rattle.gu_terms.proofs.price_text.with_fraction.Goals as goal

pub returns-then-millionths-eq0 : goal.returns-then-millionths-eq0
returns-then-millionths-eq0 c = fraction_none c.args.text c.args.millionths c.if-millionths-eq0.true

pub with-requires-2 : goal.with-requires-2
with-requires-2 c =
    let long : length c.with.result ≤ 11 = omega (arith, ap (λ (t : List ℕ). length t) c.with.ensures, length-append c.args.text (46 ∷ []), c.requires.short) in
    (omega arith, (omega (arith, long, c.trimmed.ensures.no_more), omega (arith, long, c.trimmed.ensures.no_more)))

pub returns : goal.returns
returns c = rw (c.with-2.ensures, c.with.ensures) (fraction_some c.args.text c.trimmed.result.now c.args.millionths c.if-millionths-eq0.false (rw c.six_digits-digits.ensures at c.trimmed.ensures.digits))
