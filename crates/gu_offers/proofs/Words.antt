-- The words of the proofs: from the library, the crates below, and this crate's definitions.
pub use Rattle.std.proofs.Common.{All, Bool, Err, IsOk, List, None, Ok, OnErr, OnOk, Option, Result, Some, [], add-one, ap, append_assoc, arith, cond, drop, false, filter, get_or, if◌then◌else◌, inl, inr, is_some, length, length-append, map, nat_lt, not, refl, rules, set, slice_get, slice_index_or, subst, suc, sym, take, true, unwrap_or, vec_capacity, vec_len, zero, ℕ, ◌&&◌, ◌*◌, ◌++◌, ◌+◌, ◌-◌, ◌<◌, ◌==◌, ◌∙◌, ◌∷◌, ◌≡◌, ◌≢◌, ◌≤◌, ◌⊎◌}
pub use Rattle.std.proofs.lemmas.List.{drop-append-le, length-drop, length-map, length-set, map-append, map-set, same_lists, take-append-le, take-map, take_all, take_more}
pub use Rattle.std.proofs.lemmas.List.Elements.{All-append, All-map, All-set, filter_map-append, recursion_from_All}
pub use Rattle.std.proofs.lemmas.Option.{slice_get-get_or, slice_get-map, slice_get_past}
pub use Rattle.std.specs.List.{AllByRecursion, filter_map, range_with_len, remove}
pub use Rattle.std.specs.Option.{option_map, option_map_or}
pub use Rattle.indexmap.specs.IndexMap.{IndexMap, Updates, get}
pub use Rattle.gu_offers.specs.Changes.{changed, closed, next_day, offered, reversed, taken, with_lines}
pub use Rattle.gu_offers.specs.Given.{GivenUp, IsWithin, forgotten, given_for, given_in, kept_for, report_in, row_of, without_today}
pub use Rattle.gu_offers.specs.Groups.{numbers_in}
pub use Rattle.gu_offers.specs.Kept.{IsKept, IsSoundAt, IsWritten, rows_of}
pub use Rattle.gu_offers.specs.Numbers.{IsAscending}
pub use Rattle.gu_offers.specs.Rows.{IsSound, Row, counted_of, counted_under, is_of_report, is_open, is_open_in, left_in, left_of, numbers_from, open_numbers, open_offer_at, row_at}
pub use Rattle.gu_offers.specs.declared.offers.Offers.TheInside.{Inside}
pub use Rattle.gu_terms.specs.Same.{same_firm, same_group, same_id}
pub use Rattle.gu_terms.specs.declared.firm.FirmId.{FirmId}
pub use Rattle.gu_terms.specs.declared.group.Group.{Group}
pub use Rattle.gu_terms.specs.declared.id.Id.{Id}
pub use Rattle.gu_terms.specs.declared.lines.Line.{Line}
pub use Rattle.gu_terms.specs.declared.offer.Offer.{Offer}
