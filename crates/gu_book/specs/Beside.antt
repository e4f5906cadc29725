-- Machinery: the totals that a book keeps, so that no answer reads its history.
use Rattle.std.specs.Prelude.{◌≡◌, ℕ, ◌*◌, ◌≤◌, ◌&&◌, Bool, true, false, zero, suc, nat_lt, List, length, Option, Some, None, is_some}
use Rattle.std.specs.List.{find, list_any}
use Rattle.std.specs.Option.{option_and_then, option_map, option_map_or}
use Rattle.gu_terms.specs.Same.{same_firm, same_id}
use Rattle.gu_terms.specs.declared.account.AccountId.{AccountId}
use Rattle.gu_terms.specs.declared.entry.Entry.{Entry}
use Rattle.gu_terms.specs.declared.firm.FirmId.{FirmId}
use Rattle.gu_terms.specs.declared.group.Group.{Group}
use Rattle.gu_terms.specs.declared.id.Id.{Id}
use Rattle.gu_terms.specs.declared.limit_key.LimitKey.{LimitKey}
use Rattle.gu_terms.specs.declared.side.Side.{Side}
use Rattle.gu_terms.specs.declared.symbol.Symbol.{Symbol}
use Rattle.gu_terms.specs.declared.refusal.Refusal.TheVariants.{MatchConflict}
use Rattle.gu_terms.specs.declared.reply.Done.TheVariants.{Reported}
use Rattle.gu_terms.specs.declared.reply.Reply.{Reply}
use Rattle.gu_terms.specs.declared.reply.Reply.TheVariants.{Accepted, Denied}
use Rattle.gu_ref.specs.Reference.{instrument_row}
use Rattle.gu_ref.specs.Tables.{Tables}
use Rattle.gu_ref.specs.declared.instruments.Instrument.{Instrument}
use Rattle.gu_limits.specs.Limits.{has_limit, limit_in, room_in, used_in}
use Rattle.gu_trades.specs.Counterparts.{standing_in}
use Rattle.gu_trades.specs.Reports.{report_by}
use Rattle.gu_trades.specs.declared.counterpart.Counterpart.{Counterpart}
use Rattle.gu_trades.specs.declared.counterpart.Counterpart.TheVariants.{Nobody, Waiting, Conflicting}
use Rattle.gu_trades.specs.declared.standing.Standing.{Standing}
use Rattle.gu_trades.specs.declared.terms.Terms.{Terms}
use Rattle.gu_offers.specs.Rows.{Row, row_at}
use Rattle.gu_positions.specs.Rows.{lots_in, lots_on}
use Rattle.gu_rules.specs.Answer.{State}
use Rattle.gu_rules.specs.Legal.{IsLegal}
use Rattle.gu_rules.specs.Limits.{limit_of, limit_set, path_after, use_of}
use Rattle.gu_rules.specs.Notices.{Register, register_of}
use Rattle.gu_rules.specs.Offers.{has_give_up, standing_of}
use Rattle.gu_rules.specs.Orderly.{IsOrderly}
use Rattle.gu_rules.specs.Positions.{held_of}
use Rattle.gu_rules.specs.Reports.{open_day, reports_of}
use Rattle.gu_notices.specs.Recipients.{AreRecipients}
use Rattle.gu_notices.specs.declared.firm_filter.FirmFilter.{FirmFilter}
use Rattle.gu_book.specs.Counted.{AreVersions}
use Rattle.gu_book.specs.declared.totals.GiveUpKey.{GiveUpKey}
use Rattle.gu_book.specs.declared.totals.Totals.{Totals}
use Rattle.gu_book.specs.declared.versions.Versions.{Versions}

-- the stored give-ups include one of this firm with this id
abbrev pub is_kept_give_up : List GiveUpKey → FirmId → Id → Bool
is_kept_give_up keys firm id = list_any (λ (k : GiveUpKey). same_firm k.firm firm && same_id k.id id) keys

-- the totals, as the state that answers depend on
abbrev pub state_in : Totals → State
state_in totals =
    record {
      today = totals.today;
      reports = totals.trades;
      offers = totals.offers;
      has_give_up = is_kept_give_up totals.give_ups.keys;
      room = room_in totals.limits;
    }

-- the answer to a report that passes all tests but the last, given its counterpart
abbrev pub answer_to_match : Counterpart → Reply
answer_to_match Nobody = Accepted (Reported false)
answer_to_match (Waiting terms) = Accepted (Reported true)
answer_to_match Conflicting = Denied MatchConflict

-- the terms of the waiting report, if the counterpart is one
abbrev pub waiting_of : Counterpart → Option Terms
waiting_of Nobody = None
waiting_of (Waiting terms) = Some terms
waiting_of Conflicting = None

-- the product group of the instrument that terms name
abbrev pub group_named_by : Tables → Terms → Option Group
group_named_by reference terms = option_map (λ (i : Instrument). i.group) (instrument_row reference terms.symbol)

-- the firm's report with this id as it is now, and the product group of its instrument
abbrev pub standing_given_up : Tables → Totals → FirmId → Id → Option (Standing × Group)
standing_given_up reference totals firm id =
    option_and_then (λ (s : Standing). option_map (λ group. (s, group)) (group_named_by reference s.terms))
    (option_map (standing_in totals.trades) (report_by totals.trades firm id))

-- these lots, or none if they are 0
abbrev pub some_lots : ℕ → Option ℕ
some_lots zero = None
some_lots (suc n) = Some (suc n)

-- the first key on the path of an offer that has less room than these lots
abbrev pub short_key : Tables → State → ℕ → ℕ → Option LimitKey
short_key reference state n lots =
    option_map_or (λ (row : Row). find (λ key. nat_lt (state.room row.offer.group key) lots) (path_after reference row.offer)) (row_at state.offers n) None

-- these are the totals of a history
pub record IsBeside (reference : Tables) (history : List Entry) (totals : Totals) : Type 0 where
  pub today : totals.today ≡ open_day history
  pub reports : totals.trades ≡ reports_of history
  pub offers : totals.offers ≡ standing_of history
  pub give_ups : (firm : FirmId) (id : Id) → is_kept_give_up totals.give_ups.keys firm id ≡ has_give_up history firm id
  pub set : (group : Group) (key : LimitKey) → has_limit totals.limits group key ≡ is_some (limit_set history group key)
  pub limits : (group : Group) (key : LimitKey) → limit_in totals.limits group key ≡ limit_of history group key
  pub uses : (group : Group) (key : LimitKey) → used_in totals.limits group key ≡ use_of reference history group key
  pub positions : (side : Side) (account : AccountId) (symbol : Symbol) → lots_in totals.positions side account symbol ≡ held_of history side account symbol
  pub sums : (side : Side) (symbol : Symbol) → lots_on totals.positions side symbol ≤ 2000000 * length history

-- the history is orderly, and these are its totals
pub record IsKept (reference : Tables) (history : List Entry) (totals : Totals) : Type 0 where
  pub orderly : IsOrderly history
  pub beside : IsBeside reference history totals

-- the history is legal, and these are its totals and versions
pub record IsKeptLegal (reference : Tables) (history : List Entry) (totals : Totals) (versions : Versions) : Type 0 where
  pub legal : IsLegal reference history
  pub kept : IsKept reference history totals
  pub counted : AreVersions history versions

-- the totals, as notices are made from them
abbrev pub register_kept : Tables → Totals → Register
register_kept reference totals =
    record { reference = reference; reports = totals.trades; offer = λ n. option_map (λ (r : Row). r.offer) (row_at totals.offers n) }

-- the same, with a set for each of the first entries that may hold every firm that it notifies
pub record IsKeptWhole (reference : Tables) (history : List Entry) (totals : Totals) (versions : Versions) (recipients : List FirmFilter) : Type 0 where
  pub entries : IsKeptLegal reference history totals versions
  pub told : AreRecipients (register_of (record { reference = reference; history = history })) history recipients
