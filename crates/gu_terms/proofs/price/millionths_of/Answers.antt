use Rattle.std.proofs.Common.{◌≡◌, ◌-◌, ◌*◌, ◌^◌, ℕ, arith, refl, ap, sym, ◌∙◌, subst, take}
use Rattle.std.specs.Str.Parse.{digits_value}
use Rattle.std.proofs.lemmas.List.{take_rest}
use Rattle.gu_terms.specs.NumberText.{CountsMillionths}
use Rattle.gu_terms.proofs.NumberLemmas.{front_counts, front_counts_all, six_digits, millionths_are_few}
use Rattle.gu_terms.proofs.price.millionths_of.Goals as goal

pub returns-then-not-is_zero : goal.returns-then-not-is_zero
returns-then-not-is_zero c n is =
    let tells = simp take_rest at c.is_zero.ensures in
    front_counts_all c.args.fraction.now c.min-count.result n c.min-count.ensures c.requires (λ zeros. let is_zero = tells.1 zeros in cc) is

pub returns-in_default : goal.returns-in_default
returns-in_default c n is = omega (arith, c.in_default.ensures, six_digits c.min-count.result c.args.fraction.now c.requires (omega (arith, c.min-count.ensures)))

pub returns : goal.returns
returns c =
    let tells = simp take_rest at c.is_zero.ensures in
    let counts = front_counts c.args.fraction.now c.min-count.result (6 - c.min-count.result) c.min-count.ensures refl (tells.0 c.if-not-is_zero.false) in
    let product : digits_value 10 (take c.min-count.result c.args.fraction.now) * 10 ^ (6 - c.min-count.result) ≡ c.in-Some.value * c.power_of_ten.result =
    ap (λ (n : ℕ). n * 10 ^ (6 - c.min-count.result)) (sym c.in-Some.ensures.0) ∙ ap (λ (n : ℕ). c.in-Some.value * n) (sym c.power_of_ten.ensures) in
    let all = subst (λ (n : ℕ). CountsMillionths c.args.fraction.now n) product counts in
    (millionths_are_few c.args.fraction.now _ c.requires all, all)
