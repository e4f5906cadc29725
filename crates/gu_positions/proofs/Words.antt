-- The words of the proofs: from the library, the crates below, and this crate's definitions.
pub use Rattle.std.proofs.Common.{Bool, List, None, Option, Some, [], ap, arith, cond, false, get_or, if◌then◌else◌, is_some, length, map, refl, slice_get, subst, suc, sym, true, unwrap_or, zero, ℕ, ◌&&◌, ◌++◌, ◌+◌, ◌-◌, ◌<◌, ◌^◌, ◌||◌, ◌∙◌, ◌∷◌, ◌≡◌, ◌≤◌}
pub use Rattle.std.specs.List.{AllByRecursion, find, list_any, sum_by}
unfoldable pub use Rattle.std.specs.List.{IsDistinct}
pub use Rattle.std.specs.Option.{option_map, option_map_or}
pub use Rattle.indexmap.proofs.CallerLemmas.{insert_entry-new, updates-with_value_at}
pub use Rattle.indexmap.specs.IndexMap.{IndexMap, IsUnique, Updates, get, insert_entry, set_value_at, values, with_value_at}
pub use Rattle.gu_positions.specs.Changes.{KeepsLots, empty_row, less_in, lots_at, lots_at_side, more_in, same_place, with_less, with_more}
pub use Rattle.gu_positions.specs.Holdings.{held, less, more, nothing_at}
pub use Rattle.gu_positions.specs.Kept.{IsKept, KeepsPlaces, place_of, row_of, rows_of, same_key}
pub use Rattle.gu_positions.specs.Numbers.{IsMade, IsRowOf, account_at, is_numbered, symbol_at}
pub use Rattle.gu_positions.specs.Rows.{Row, has_row, is_of, lots_in, lots_of, lots_on, open_interest_in, same_row}
pub use Rattle.gu_positions.specs.declared.holding.Holding.{Holding}
pub use Rattle.gu_positions.specs.declared.positions.Place.{Place}
pub use Rattle.gu_positions.specs.declared.positions.Positions.TheInside.{Inside}
pub use Rattle.gu_terms.proofs.SameNames.{same_account-own, same_account-true, same_symbol-own, same_symbol-true}
pub use Rattle.gu_terms.proofs.Standing.{found_key, lookup-standing, set_value_at-standing}
pub use Rattle.gu_terms.specs.Same.{same_account, same_side, same_symbol}
pub use Rattle.gu_terms.specs.Standing.{StandsAt}
pub use Rattle.gu_terms.specs.declared.account.AccountId.{AccountId}
pub use Rattle.gu_terms.specs.declared.side.Side.{Side}
pub use Rattle.gu_terms.specs.declared.side.Side.TheVariants.{Buy, Sell}
pub use Rattle.gu_terms.specs.declared.symbol.Symbol.{Symbol}
