-- The headline: what holds of the book after any steps.
use Rattle.std.specs.Prelude.{◌≡◌, ℕ, ◌+◌, ◌≤◌, List, All, IsTrue, Some, slice_get, take}
use Rattle.gu_terms.specs.Takes.{lots_of}
use Rattle.gu_terms.specs.declared.account.AccountId.{AccountId}
use Rattle.gu_terms.specs.declared.entry.Entry.{Entry}
use Rattle.gu_terms.specs.declared.entry.Entry.TheVariants.{Swept}
use Rattle.gu_terms.specs.declared.entry.SweepEntry.{SweepEntry}
use Rattle.gu_terms.specs.declared.side.Side.TheVariants.{Buy, Sell}
use Rattle.gu_terms.specs.declared.symbol.Symbol.{Symbol}
use Rattle.gu_ref.specs.Tables.{Tables}
use Rattle.gu_view.specs.Check.{has_offer, has_room}
use Rattle.gu_view.specs.Cut.{Covers, room_of}
use Rattle.gu_view.specs.Nearest.{IsNearestCut}
use Rattle.gu_view.specs.Takes.{AgreeOnOlder, IsAdmissible, IsGreatest, IsOldestFirst, total}
use Rattle.gu_view.specs.View.{GroupView}
use Rattle.gu_rules.specs.Offers.{standing_of}
use Rattle.gu_rules.specs.Positions.{long_of, moved_into, moved_out, short_of, traded}
use Rattle.gu_rules.specs.Reports.{reports_of}
use Rattle.gu_rules.specs.Views.{group_view}

-- a sweep of a view: it takes lots only from the view's offers, no more from an offer than it has and no more under a key than its room,
-- and the oldest offers of an agreement first; no admissible takes have more lots, and among those with as many that give each older offer
-- the same, none gives an offer more; its cut names only keys and offers of the view, covers each offer, its room equals the lots taken,
-- and it is the nearest cut
pub record IsGreatestSweep (view : GroupView) (sweep : SweepEntry) : Type 0 where
  pub known : All (λ t. IsTrue (has_offer view.offers t.offer)) sweep.takes
  pub within : IsAdmissible view (lots_of sweep.takes)
  pub oldest_first : IsOldestFirst view (lots_of sweep.takes)
  pub taken : total view.offers (lots_of sweep.takes) ≡ sweep.lots
  pub greatest : (others : ℕ → ℕ) → IsAdmissible view others → total view.offers others ≤ sweep.lots
  pub oldest : (others : ℕ → ℕ) → IsGreatest view others
      → All (λ o. AgreeOnOlder view.offers o others (lots_of sweep.takes) → others o.number ≤ lots_of sweep.takes o.number) view.offers
  pub keys : All (λ k. IsTrue (has_room view.rooms k)) sweep.cut.keys
  pub offers : All (λ n. IsTrue (has_offer view.offers n)) sweep.cut.offers
  pub covers : Covers view sweep.cut
  pub room : room_of view sweep.cut ≡ sweep.lots
  pub nearest : IsNearestCut view sweep.cut

-- each committed sweep is such a sweep of its group's view, as the book was just before the commit
abbrev pub AreGreatestSweeps : Tables → List Entry → Type 0
AreGreatestSweeps reference history =
    (k : ℕ) (sweep : SweepEntry) → slice_get history k ≡ Some (Swept sweep) → IsGreatestSweep (group_view reference (take k history) sweep.group) sweep

-- an account's long position in an instrument is what it bought in trades, plus what claims and sweeps of buys moved to it, less what they
-- moved from it (lots moved back count as never moved); its short position is the same for sells. (Stated as sums on both sides, since a
-- difference of natural numbers would be truncated at 0.)
pub record ArePositionsSums (history : List Entry) : Type 0 where
  pub long : (account : AccountId) (symbol : Symbol)
      → long_of history account symbol + moved_out (reports_of history) (standing_of history) Buy account symbol
      ≡ traded (reports_of history) Buy account symbol + moved_into (reports_of history) (standing_of history) Buy account symbol
  pub short : (account : AccountId) (symbol : Symbol)
      → short_of history account symbol + moved_out (reports_of history) (standing_of history) Sell account symbol
      ≡ traded (reports_of history) Sell account symbol + moved_into (reports_of history) (standing_of history) Sell account symbol
