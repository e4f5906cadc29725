use Rattle.std.proofs.Common.{◌≤◌, ◌∙◌, List, ℕ, length, ap, arith}
use Rattle.std.proofs.lemmas.List.{length-append}
use Rattle.gu_terms.proofs.WrittenLemmas.{length-units}
use Rattle.gu_terms.proofs.price_text.whole_text.Goals as goal

pub with-requires : goal.with-requires
with-requires c =
    let sign : length c.new.result ≤ 1 = omega (arith, ap (λ (t : List ℕ). length t) c.new.ensures, c.sign_text.ensures.short) in
    let whole : length c.as_bytes-whole.result.now ≤ 9 = omega (arith, length-units c.args.size c.requires, ap (λ (t : List ℕ). length t) (c.as_bytes-whole.ensures.value ∙ c.format.ensures.text)) in
    (omega arith, (omega (arith, sign, whole), omega (arith, sign, whole)))

pub returns-clause-short : goal.returns-clause-short
returns-clause-short c =
    let sign : length c.new.result ≤ 1 = omega (arith, ap (λ (t : List ℕ). length t) c.new.ensures, c.sign_text.ensures.short) in
    let whole : length c.as_bytes-whole.result.now ≤ 9 = omega (arith, length-units c.args.size c.requires, ap (λ (t : List ℕ). length t) (c.as_bytes-whole.ensures.value ∙ c.format.ensures.text)) in
    omega (arith, sign, whole, ap (λ (t : List ℕ). length t) c.with.ensures, length-append c.new.result c.as_bytes-whole.result.now)
