use Rattle.std.proofs.Common.{arith}
use Rattle.gu_terms.specs.Numbers.{IsLots}
use Rattle.gu_terms.specs.NumberText.{MeansLots}
use Rattle.gu_terms.proofs.ShortNumbers.{in_range, lots_said}
use Rattle.gu_terms.proofs.lots.short_lots.Goals as goal

pub returns : goal.returns
returns c =
    let number = c.in_ok-number.number in
    in_range IsLots (MeansLots c.args.text.now) c.new.result number.digits c.new.ensures.sound c.new.ensures.same
    (λ sound. lots_said c.args.text.now number.digits number.places c.in_ok-number.ensures.digits (omega (arith, c.if-number-gt0.false)) sound)
