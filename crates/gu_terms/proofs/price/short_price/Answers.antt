use Rattle.std.proofs.Common.{◌≡◌, ◌-◌, ◌*◌, ◌^◌, ◌∙◌, pos, ap, subst, sym, arith, w64, to_z}
use Rattle.std.proofs.lemmas.Int.{fits_signed_from_abs, to_z_pos}
use Rattle.gu_terms.specs.Numbers.{IsPrice}
use Rattle.gu_terms.specs.NumberText.{MeansPrice}
use Rattle.gu_terms.proofs.ShortNumbers.{few_millionths, in_range, price_said}
use Rattle.gu_terms.proofs.price.short_price.Goals as goal

pub overflow_mul-number : goal.overflow_mul-number
overflow_mul-number c = omega (arith, few_millionths c.in_ok-number.number.digits c.power_of_ten.result (6 - c.in_ok-number.number.places) c.in_ok-number.ensures.few c.power_of_ten.ensures (omega arith))

pub overflow_cast-number : goal.overflow_cast-number
overflow_cast-number c = fits_signed_from_abs w64 _ (omega (arith, few_millionths c.in_ok-number.number.digits c.power_of_ten.result (6 - c.in_ok-number.number.places) c.in_ok-number.ensures.few c.power_of_ten.ensures (omega arith)))

pub returns : goal.returns
returns c =
    let number = c.in_ok-number.number in
    let text = c.args.text.now in
    let size : to_z w64 (number.digits * c.power_of_ten.result) ≡ pos (number.digits * 10 ^ (6 - number.places)) =
    to_z_pos w64 (number.digits * c.power_of_ten.result) (omega (arith, few_millionths c.in_ok-number.number.digits c.power_of_ten.result (6 - c.in_ok-number.number.places) c.in_ok-number.ensures.few c.power_of_ten.ensures (omega arith))) ∙ ap (λ n. pos (number.digits * n)) c.power_of_ten.ensures in
    in_range IsPrice (MeansPrice text) c.new.result (to_z w64 (number.digits * c.power_of_ten.result)) c.new.ensures.sound c.new.ensures.same
    (λ sound.
    subst (MeansPrice text) (sym size)
    (price_said text number.digits number.places c.in_ok-number.ensures.digits (omega (arith, c.if-number-gt-PLACES.false)) (subst IsPrice size sound)))
