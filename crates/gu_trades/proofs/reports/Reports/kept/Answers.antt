use Rattle.std.proofs.Common.{◌∙◌, ap, sym, arith, Some}
use Rattle.gu_trades.specs.PackedReports.{report_of_kept}
use Rattle.gu_trades.proofs.KeptAt.{kept-inside, report-at, within-at}
use Rattle.gu_trades.proofs.reports.Reports.kept.Goals as goal

pub index-requires : goal.index-requires
index-requires c =
    omega (arith, c.self.inside.rows.ok.0, kept-inside c.self.inside.texts.bytes c.self.inside.rows.items c.args.self.now c.args.place c.self.view_is c.requires)

pub new-requires : goal.new-requires
new-requires c =
    within-at c.self.inside.texts.bytes c.self.inside.rows.items c.args.self.now c.args.place c.self.view_is c.requires c.index.result.now c.index.ensures
    c.get.result.now c.get.ensures c.self.invariant

pub returns : goal.returns
returns c =
    report-at c.self.inside.texts.bytes c.self.inside.rows.items c.args.self.now c.args.place c.self.view_is c.requires c.index.result.now c.index.ensures
    ∙ ap (λ texts. Some (report_of_kept texts c.index.result.now)) (sym c.get.ensures)
    ∙ ap Some (sym c.new.ensures)
