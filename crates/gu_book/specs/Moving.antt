-- Machinery: applying the takes of a sweep to the totals, one after another.
use Rattle.std.specs.Prelude.{◌≡◌, ℕ, ◌<◌, ◌≤◌, ◌++◌, List, [], ◌∷◌, map, sum_by, Some, IfSome}
use Rattle.std.specs.List.{AllByRecursion}
use Rattle.std.specs.Option.{option_map, option_map_or}
use Rattle.gu_terms.proofs.Lists.{Later}
use Rattle.gu_terms.specs.declared.account.AccountId.{AccountId}
use Rattle.gu_terms.specs.declared.entry.Entry.{Entry}
use Rattle.gu_terms.specs.declared.entry.SweepEntry.{SweepEntry}
use Rattle.gu_terms.specs.declared.group.Group.{Group}
use Rattle.gu_terms.specs.declared.limit_key.LimitKey.{LimitKey}
use Rattle.gu_terms.specs.declared.side.Side.{Side}
use Rattle.gu_terms.specs.declared.symbol.Symbol.{Symbol}
use Rattle.gu_terms.specs.declared.takes.Take.{Take}
use Rattle.gu_ref.specs.Tables.{Tables}
use Rattle.gu_limits.specs.Changes.{Charges, MayCharge, lots_under}
use Rattle.gu_limits.specs.Limits.{room_in}
use Rattle.gu_offers.specs.Changes.{changed, taken}
use Rattle.gu_offers.specs.Rows.{Row, left_in, row_at}
use Rattle.gu_positions.specs.Changes.{KeepsNumbers}
use Rattle.gu_positions.specs.Numbers.{IsRowOf}
use Rattle.gu_positions.specs.Rows.{Row as PositionRow, lots_in, lots_on}
use Rattle.gu_positions.specs.declared.row_no.RowNo.{RowNo}
use Rattle.gu_view.specs.View.{offer_of}
use Rattle.gu_view.specs.declared.view.ViewOffer.{ViewOffer as ShownOffer}
use Rattle.gu_rules.specs.Limits.{path_after}
use Rattle.gu_rules.specs.Sweeps.{part, parts}
use Rattle.gu_book.specs.Beside.{IsKept}
use Rattle.gu_book.specs.Deeds.{IsFound}
use Rattle.gu_book.specs.Effects.{HoldsMoved, SameEntries, UsesMore}
use Rattle.gu_book.specs.declared.deed.Moved.{Moved}
use Rattle.gu_book.specs.declared.totals.Totals.{Totals}
use Rattle.gu_book.specs.declared.totals.Transfer.{Transfer}

-- the view shows an offer, open in the totals, with the path that applies to it
pub record IsShownOpen (reference : Tables) (totals : Totals) (offers : List ShownOffer) (take : Take) : Type 0 where
  pub history : List Entry
  pub kept : IsKept reference history totals
  pub still_open : 0 < left_in totals.offers take.offer
  pub path : IfSome (row_at totals.offers take.offer) (λ row. option_map (λ (o : ShownOffer). o.path) (offer_of offers take.offer) ≡ Some (path_after reference row.offer))

-- an offer's number and the lots that move, as a take
abbrev pub moved_lots : Moved → Take
moved_lots moved = record { offer = moved.number; lots = moved.lots }

-- the take that a transfer carries out
abbrev pub taken_by : Transfer → Take
taken_by t = moved_lots t.moved

-- these rows are those of its report's account and of its own, for the report's instrument
pub record HasRows (rows : List PositionRow) (moved : Moved) (numbers : RowNo × RowNo) : Type 0 where
  pub from : IsRowOf rows moved.report.account moved.report.symbol numbers.0
  pub to : IsRowOf rows moved.account moved.report.symbol numbers.1

-- an account holds the lots that move
abbrev pub IsHeld : List PositionRow → Moved → AccountId → Type 0
IsHeld rows moved account = moved.lots ≤ lots_in rows moved.report.side account moved.report.symbol

-- lots may be claimed: the limits have room for them, and they are left and held
pub record MayClaim (totals : Totals) (moved : Moved) : Type 0 where
  pub keys : List LimitKey
  pub room : MayCharge totals.limits moved.group keys moved.lots moved.limits
  pub left : moved.lots ≤ left_in totals.offers moved.number
  pub there : IsHeld totals.positions moved moved.report.account

-- lots are claimed: they are charged to the limits and move from the account of the report to that of the offer
pub record ClaimsLots (old new : Totals) (moved : Moved) : Type 0 where
  pub entries : SameEntries old new
  pub offers : new.offers ≡ changed old.offers moved.number (taken moved.lots)
  pub limits : (keys : List LimitKey) → MayCharge old.limits moved.group keys moved.lots moved.limits → Charges old.limits new.limits moved.group keys moved.lots
  pub positions : HoldsMoved old.positions new.positions moved.report moved.report.account moved.account moved.lots
  pub stay : KeepsNumbers old.positions new.positions

-- what was looked up for a transfer is so, and its rows are made
pub record IsReady (reference : Tables) (totals : Totals) (t : Transfer) : Type 0 where
  pub found : IsFound reference totals t.moved
  pub rows : HasRows totals.positions t.moved t.rows

-- these transfers, each ready, carry out these takes
pub record AreReady (reference : Tables) (totals : Totals) (takes : List Take) (transfers : List Transfer) : Type 0 where
  pub each : AllByRecursion (IsReady reference totals) transfers
  pub takes_are : map taken_by transfers ≡ takes

-- the lots that takes charge to a key in a group
abbrev pub lots_used : Tables → List Row → List Take → Group → LimitKey → ℕ
lots_used reference rows takes group key =
    sum_by (λ (t : Take). option_map_or (λ (r : Row). lots_under r.offer.group (path_after reference r.offer) t.lots group key) (row_at rows t.offer) 0) takes

-- takes may be moved: offers ascend, each is open and has the lots left, and every room suffices for all
pub record MayTake (reference : Tables) (totals : Totals) (takes : List Take) : Type 0 where
  pub history : List Entry
  pub kept : IsKept reference history totals
  pub ascending : Later (λ (a b : Take). a.offer < b.offer) takes
  pub still_open : AllByRecursion (λ (t : Take). 0 < left_in totals.offers t.offer) takes
  pub left : AllByRecursion (λ (t : Take). t.lots ≤ left_in totals.offers t.offer) takes
  pub room : (group : Group) (key : LimitKey) → lots_used reference totals.offers takes group key ≤ room_in totals.limits group key

-- transfers may be carried out one after another: their takes may be moved, and each is ready
pub record MayMove (reference : Tables) (totals : Totals) (transfers : List Transfer) : Type 0 where
  pub may : MayTake reference totals (map taken_by transfers)
  pub ready : AllByRecursion (IsReady reference totals) transfers

-- one take was moved
pub record MovesOne (reference : Tables) (old new : Totals) (take : Take) : Type 0 where
  pub entries : SameEntries old new
  pub offers : new.offers ≡ changed old.offers take.offer (taken take.lots)
  pub limits : (row : Row) → row_at old.offers take.offer ≡ Some row → UsesMore reference old.limits new.limits row.offer take.lots
  pub stay : KeepsNumbers old.positions new.positions
  pub sums : (side : Side) (symbol : Symbol) → lots_on new.positions side symbol ≡ lots_on old.positions side symbol
  pub kept : (history : List Entry) (sweep : SweepEntry) → IsKept reference history old → IsKept reference (history ++ part sweep take ∷ []) new

-- takes were moved, one after another
pub record MovesAll (reference : Tables) (old new : Totals) (takes : List Take) : Type 0 where
  pub sums : (side : Side) (symbol : Symbol) → lots_on new.positions side symbol ≡ lots_on old.positions side symbol
  pub kept : (history : List Entry) (sweep : SweepEntry) → IsKept reference history old → IsKept reference (history ++ parts sweep takes) new
