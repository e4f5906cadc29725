-- The terms of a trade, as a report gives them.
use Rattle.gu_terms.specs.declared.report.Report.{Report}
use Rattle.gu_trades.specs.declared.terms.Terms.{Terms}

-- a report without its firm and its ids
abbrev pub terms_of : Report → Terms
terms_of r = record { symbol = r.symbol; account = r.account; side = r.side; day = r.day; lots = r.lots; price = r.price }
