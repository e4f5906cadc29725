-- Machinery: how one entry changes the totals.
use Rattle.std.specs.Prelude.{◌≡◌, ℕ, ◌+◌, ◌-◌, ◌≤◌, List, [], ◌∷◌, sum_by}
use Rattle.gu_terms.specs.declared.account.AccountId.{AccountId}
use Rattle.gu_terms.specs.declared.group.Group.{Group}
use Rattle.gu_terms.specs.declared.limit_key.LimitKey.{LimitKey}
use Rattle.gu_terms.specs.declared.offer.Offer.{Offer}
use Rattle.gu_terms.specs.declared.report.Report.{Report}
use Rattle.gu_terms.specs.declared.side.Side.{Side}
use Rattle.gu_terms.specs.declared.symbol.Symbol.{Symbol}
use Rattle.gu_ref.specs.Tables.{Tables}
use Rattle.gu_limits.specs.Changes.{Charges, Returns, SameLimits}
use Rattle.gu_limits.specs.Limits.{GroupLimit, used_in}
use Rattle.gu_positions.specs.Changes.{KeepsLots, lots_at}
use Rattle.gu_positions.specs.Rows.{Row, lots_in, lots_on}
use Rattle.gu_trades.specs.declared.terms.Terms.{Terms}
use Rattle.gu_rules.specs.Limits.{path_after}
use Rattle.gu_book.specs.declared.totals.Totals.{Totals}

-- the total lots of reports on this side of this instrument for this account
abbrev pub lots_of_reports : List Report → Side → AccountId → Symbol → ℕ
lots_of_reports reports side account symbol = sum_by (λ (r : Report). lots_at r.side r.account r.symbol r.lots side account symbol) reports

-- the reports that one more report makes a trade: the waiting one and itself, or none
abbrev pub made_a_trade : List Report → Report → List Report
made_a_trade [] report = []
made_a_trade (waiting ∷ more) report = waiting ∷ report ∷ []

-- the lots of these reports are added to their accounts
pub record HoldsMore (old new : List Row) (reports : List Report) : Type 0 where
  pub lots : (side : Side) (account : AccountId) (symbol : Symbol) → lots_in new side account symbol ≡ lots_in old side account symbol + lots_of_reports reports side account symbol
  pub sums : (side : Side) (symbol : Symbol) → lots_on new side symbol ≤ lots_on old side symbol + 2000000

-- lots of a report with these terms move from one account to another
pub record HoldsMoved (old new : List Row) (report : Terms) (from to : AccountId) (moved : ℕ) : Type 0 where
  pub lots : (side : Side) (account : AccountId) (symbol : Symbol)
      → lots_in new side account symbol
      ≡ lots_in old side account symbol - lots_at report.side from report.symbol moved side account symbol + lots_at report.side to report.symbol moved side account symbol
  pub sums : (side : Side) (symbol : Symbol) → lots_on new side symbol ≡ lots_on old side symbol

-- lots are charged under the keys that apply to an offer
abbrev pub UsesMore : Tables → List GroupLimit → List GroupLimit → Offer → ℕ → Type 0
UsesMore reference old new offer lots = Charges old new offer.group (path_after reference offer) lots

-- lots are given back under the keys that apply to an offer
abbrev pub UsesLess : Tables → List GroupLimit → List GroupLimit → Offer → ℕ → Type 0
UsesLess reference old new offer lots = Returns old new offer.group (path_after reference offer) lots

-- nothing is used of any limit, and no limit changes
pub record UsesNothing (old new : List GroupLimit) : Type 0 where
  pub limits : SameLimits old new
  pub uses : (at : Group) (on : LimitKey) → used_in new at on ≡ 0

-- the day, the reports and the give-ups are unchanged
pub record SameEntries (old new : Totals) : Type 0 where
  pub today : new.today ≡ old.today
  pub trades : new.trades ≡ old.trades
  pub give_ups : new.give_ups.keys ≡ old.give_ups.keys

-- no answer changes
pub record SameAnswers (old new : Totals) : Type 0 where
  pub entries : SameEntries old new
  pub offers : new.offers ≡ old.offers
  pub limits : new.limits ≡ old.limits
  pub positions : KeepsLots old.positions new.positions
