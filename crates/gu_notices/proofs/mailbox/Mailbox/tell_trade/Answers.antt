use Rattle.gu_notices.proofs.Words.{◌++◌, ap, told_of_trade, told_on, register_in}
use Rattle.gu_terms.specs.declared.side.Side.TheVariants.{Buy, Sell}
use Rattle.gu_trades.specs.Reports.{with_match}
use Rattle.gu_trades.specs.Sides.{reports_in}
use Rattle.gu_notices.proofs.NoticeLemmas.{told-same, told-then}
use Rattle.gu_notices.proofs.mailbox.Mailbox.tell_trade.Goals as goal

pub returns : goal.returns
returns c =
    let number = c.args.number in
    let reports = reports_in c.trade-sides.result in
    let both =
    told-then c.args.self.now c.tell_side.new.self c.tell_side-2.new.self c.tell_side-2.result (told_on number Buy reports) (told_on number Sell reports)
    (record { firm = c.in_ok-tell_side.ensures.firm; list = c.in_ok-tell_side.ensures.list }) c.tell_side-2.ensures in
    told-same c.args.self.now c.tell_side-2.new.self c.tell_side-2.result (told_on number Buy reports ++ told_on number Sell reports) (told_of_trade number (with_match c.args.match_id.now (register_in c.args.register.now).reports)) (ap (told_of_trade number) c.trade-sides.ensures) both
