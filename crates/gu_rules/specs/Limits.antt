-- Limits: what was set, what is used of it today, and the room left.
use Rattle.std.specs.Prelude.{ℕ, ◌-◌, ◌&&◌, ◌++◌, Bool, List, [], Option, Some, None, map, sum_by, unwrap_or, if◌then◌else◌}
use Rattle.std.specs.List.{filter_map, last_or}
use Rattle.std.specs.Option.{option_and_then, option_map}
use Rattle.gu_terms.specs.LimitKeys.{has_key, key_eq}
use Rattle.gu_terms.specs.declared.command.Command.TheVariants.{SetLimit}
use Rattle.gu_terms.specs.declared.entry.Entry.{Entry}
use Rattle.gu_terms.specs.declared.entry.Entry.TheVariants.{Asked}
use Rattle.gu_terms.specs.declared.group.Group.{Group}
use Rattle.gu_terms.specs.declared.limit_key.LimitKey.{LimitKey}
use Rattle.gu_terms.specs.declared.limit_key.LimitKey.TheVariants.{Exec, Agr, Acct, Carry, Guar}
use Rattle.gu_terms.specs.declared.limit_row.LimitRow.{LimitRow}
use Rattle.gu_terms.specs.declared.reply.Done.TheVariants.{LimitSet}
use Rattle.gu_terms.specs.declared.reply.Reply.TheVariants.{Accepted}
use Rattle.gu_terms.specs.Same.{same_group}
use Rattle.gu_terms.specs.declared.offer.Offer.{Offer}
use Rattle.gu_ref.specs.Reference.{agreement_between}
use Rattle.gu_ref.specs.Tables.{Tables}
use Rattle.gu_limits.specs.Paths.{path_of}
use Rattle.gu_offers.specs.Rows.{Row}
use Rattle.gu_rules.specs.BookState.{BookState}
use Rattle.gu_rules.specs.Offers.{standing_of}

-- the lots that an entry sets for a key in a group, if it sets any
abbrev pub limit_set_by : Group → LimitKey → Entry → Option ℕ
limit_set_by group key (Asked (SetLimit limit) (Accepted LimitSet)) = if same_group limit.group group && key_eq limit.key key then Some limit.lots else None
limit_set_by group key _ = None

-- the lots last set for a key in a group, if any were
abbrev pub limit_set : List Entry → Group → LimitKey → Option ℕ
limit_set history group key = last_or None (filter_map (limit_set_by group key) history)

-- a limit: the lots last set, or 0 if none were
abbrev pub limit_of : List Entry → Group → LimitKey → ℕ
limit_of history group key = unwrap_or (limit_set history group key) 0

-- the keys that apply to an offer: the path of the agreement between its firm and its account
abbrev pub path_after : Tables → Offer → List LimitKey
path_after reference offer = unwrap_or (option_and_then (path_of reference) (agreement_between reference offer.firm offer.account)) []

-- a key in a group applies to an offer
abbrev pub is_under : Tables → Group → LimitKey → Row → Bool
is_under reference group key row = same_group group row.offer.group && has_key (path_after reference row.offer) key

-- the lots used under a key in a group: those moved since the day was opened for the offers to which it applies
abbrev pub use_in : Tables → List Row → Group → LimitKey → ℕ
use_in reference rows group key = sum_by (λ (row : Row). if is_under reference group key row then row.today else 0) rows

-- the use of a limit
abbrev pub use_of : Tables → List Entry → Group → LimitKey → ℕ
use_of reference history group key = use_in reference (standing_of history) group key

-- the room left: 0 if the use is more than the limit
abbrev pub room_of : Tables → List Entry → Group → LimitKey → ℕ
room_of reference history group key = limit_of history group key - use_of reference history group key

-- a limit as it is now, if one was set
abbrev pub limit_row : Tables → List Entry → Group → LimitKey → Option LimitRow
limit_row reference history group key =
    option_map
    (λ limit. record { key = key; limit = limit; used = use_of reference history group key; room = limit - use_of reference history group key })
    (limit_set history group key)

-- all keys: executing firms, agreements, accounts, carrying firms, guarantors, each in the order of the reference, with guarantors in the
-- order of the firms
abbrev pub keys_in_order : Tables → List LimitKey
keys_in_order reference =
    map Exec reference.firms
    ++ map (λ a. Agr a.id) reference.agreements
    ++ map (λ a. Acct a.account) reference.accounts
    ++ map Carry reference.firms
    ++ map Guar reference.firms

-- the limits set in a group
abbrev pub limit_rows : BookState → Group → List LimitRow
limit_rows book group = filter_map (limit_row book.reference book.history group) (keys_in_order book.reference)
