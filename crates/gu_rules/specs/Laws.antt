-- Terms used in the laws of legal histories: what an offer gives up.
use Rattle.std.specs.Prelude.{◌≡◌, true, List, Some, is_some}
use Rattle.std.specs.List.{AllByRecursion}
use Rattle.gu_terms.specs.declared.agreement.AgreementId.{AgreementId}
use Rattle.gu_terms.specs.declared.entry.Entry.{Entry}
use Rattle.gu_terms.specs.declared.offer.Offer.{Offer}
use Rattle.gu_terms.specs.declared.report.Report.{Report}
use Rattle.gu_ref.specs.Reference.{account_row, agreement_between}
use Rattle.gu_ref.specs.Tables.{Tables}
use Rattle.gu_trades.specs.Matching.{is_of_trade}
use Rattle.gu_trades.specs.Reports.{report_by}
use Rattle.gu_rules.specs.Answer.{group_of}
use Rattle.gu_rules.specs.Offers.{offers_of}
use Rattle.gu_rules.specs.Reports.{reports_of}

-- an offer gives up a report that is a side of a trade, in the group of its instrument, to an account of the reference, under the agreement
-- between the firm and that account
pub record GivesUpTrade (reference : Tables) (reports : List Report) (offer : Offer) : Type 0 where
  pub report : Report
  pub found : report_by reports offer.firm offer.report ≡ Some report
  pub traded : is_of_trade reports report ≡ true
  pub group : group_of reference report ≡ Some offer.group
  pub account : is_some (account_row reference offer.account) ≡ true
  pub agreement : AgreementId
  pub between : agreement_between reference offer.firm offer.account ≡ Some agreement

-- this holds for each offer
abbrev pub AllGiveUpTrades : Tables → List Entry → Type 0
AllGiveUpTrades reference history = AllByRecursion (GivesUpTrade reference (reports_of history)) (offers_of history)
