-- Machinery: the data that notices are made from, as the book stores it.
use Rattle.std.specs.Prelude.{ℕ, Option}
use Rattle.std.specs.Option.{option_and_then, option_map}
use Rattle.gu_terms.specs.declared.firm.FirmId.{FirmId}
use Rattle.gu_terms.specs.declared.offer.Offer.{Offer}
use Rattle.gu_terms.specs.declared.report.Report.{Report}
use Rattle.gu_ref.specs.Reference.{account_row}
use Rattle.gu_ref.specs.Tables.{Tables}
use Rattle.gu_ref.specs.declared.accounts.Account.{Account}
use Rattle.gu_offers.specs.Rows.{Row, row_at}
use Rattle.gu_trades.specs.Reports.{report_by}
use Rattle.gu_trades.specs.Terms.{terms_of}
use Rattle.gu_trades.specs.declared.terms.Terms.{Terms}
use Rattle.gu_rules.specs.Notices.{Register as WrittenBy}
use Rattle.gu_notices.specs.declared.register.Register.{Register}

-- the stored data, as notices are made from it
abbrev pub register_in : Register → WrittenBy
register_in kept =
    record {
      reference = kept.reference.now;
      reports = kept.trades.now;
      offer = λ n. option_map (λ (r : Row). r.offer) (row_at kept.offers.now n);
    }

-- the offer with a number, and the terms of the report that it gives up
abbrev pub given_in : WrittenBy → ℕ → Option (Offer × Terms)
given_in register n = option_and_then (λ (o : Offer). option_map (λ (r : Report). (o, terms_of r)) (report_by register.reports o.firm o.report)) (register.offer n)

-- the firm that carries an offer's account
abbrev pub carrier_in : Tables → Offer → Option FirmId
carrier_in reference o = option_map (λ (a : Account). a.firm) (account_row reference o.account)
