use Rattle.gu_book.proofs.Words.{◌∙◌, ap, option_map, sym, report_by, terms_of}
use Rattle.gu_book.proofs.Moves.{seen-row}
use Rattle.gu_book.proofs.GivenUpLemmas.{number-within, report-found, report-within, row-known}
use Rattle.gu_book.proofs.totals.Totals.terms_given_up.Goals as goal

pub report-requires : goal.report-requires
report-requires c = let totals = c.args.self.now in number-within totals.trades totals.offers totals.given_up totals.placed c.args.number c.requires

pub terms_at-requires : goal.terms_at-requires
terms_at-requires c =
    let totals = c.args.self.now in
    let row = row-known _ c.requires in
    report-within totals.trades totals.offers totals.given_up totals.placed c.args.number c.report.result row.0 row.1 c.report.ensures

pub returns : goal.returns
returns c offer shown =
    let totals = c.args.self.now in
    let row = seen-row totals c.args.number offer shown in
    sym c.terms_at.ensures
    ∙ sym (ap (option_map terms_of) ((λ i. report_by totals.trades (sym row.2 i).firm (sym row.2 i).report)
    ∙ report-found totals.trades totals.offers totals.given_up totals.placed c.args.number c.report.result row.0 row.1 c.report.ensures c.rules.ensures.own))
