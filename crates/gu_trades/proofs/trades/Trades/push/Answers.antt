use Rattle.std.proofs.Common.{◌∙◌, refl, ◌++◌, ◌∷◌, []}
use Rattle.gu_trades.specs.Reports.{made_on}
use Rattle.gu_trades.proofs.ReportPlaces.{kept-push}
use Rattle.gu_trades.proofs.trades.Trades.push.Goals as goal

pub invariant_of-self-2 : goal.invariant_of-self-2
invariant_of-self-2 c =
    kept-push c.self.inside _ c.args.self.now (made_on c.args.today c.args.report.now) c.self.view_is c.self.invariant c.requires.new_id c.requires.fits refl
    c.in_ok-push.ensures.added
    (c.push-2.ensures.numbers ∙ (λ i. c.in_ok-reserve.ensures.numbers i ++ c.id_number.ensures i ∷ []))
    (c.push-3.ensures.numbers ∙ (λ i. c.in_ok-reserve-2.ensures.numbers i ++ c.match_number.ensures i ∷ []))
