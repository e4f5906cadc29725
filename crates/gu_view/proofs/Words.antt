-- The words of the proofs: from the library, the crates below, and this crate's definitions.
pub use Rattle.std.proofs.Common.{Bool, Err, List, None, Ok, Option, Result, Some, [], add-zero, ap, append-nil, append_assoc, arith, cond, drop, false, get_or, inl, inr, length, length-append, map, nat_le, nat_lt, not, one-add, refl, replicate, rules, set, slice_get, subst, suc, sym, take, true, zero, zero-add, ℕ, ◌&&◌, ◌++◌, ◌+◌, ◌-◌, ◌<◌, ◌==◌, ◌||◌, ◌∙◌, ◌∷◌, ◌≡◌, ◌≢◌, ◌≤◌}
pub use Rattle.std.proofs.Math.Bool.{or-false, or-true}
pub use Rattle.std.proofs.Math.ListN.{length-set}
pub use Rattle.std.proofs.lemmas.Bool.{and_from, and_left, and_parts, and_right, both_ways, cases_Bool, cases_eq, cases_lt, cases_order, cond-false, cond-true, eq-eqb, eqb-false, eqb-true, false_from_ne_true, false≢true, le-ltb, leb-false, lt-ltb, ltb-false, ltb-true, ne_eqb, not-false, not-true, not_from_false, not_from_true, or_cases, or_from, or_left, or_parts, or_right}
pub use Rattle.std.proofs.lemmas.Grind.{get_or-set_at, same_number_lists}
pub use Rattle.std.proofs.lemmas.List.{drop-append-le, drop_at, drop_more, flat_map_more, get_or-drop, get_or-map, get_or-set_other, get_or-take, get_or_append_left, get_or_default, get_or_read, length-drop, length-map, length-take, map_more, same_lists, set-get_or, take-append-le, take-replicate, take_all, take_more, take_more_set, take_rest}
pub use Rattle.std.proofs.lemmas.List.Elements.{All-filter, All-from_recursion, All-more, filter-append, filter_passes, recursion_from_All, same_from_all_zip}
pub use Rattle.std.proofs.lemmas.List.Folds.{Any-from_list_any, find-append, find_at, list_all_at, list_all_more, list_any-append, list_any_at, list_any_kept, list_any_more}
pub use Rattle.std.proofs.lemmas.List.Sums.{AllPass-from_list_all, list_all-from_AllPass, prefix_len_is, prefix_len_stops, sum-map, sum_by-cons, sum_by-le, sum_by_more}
pub use Rattle.std.proofs.lemmas.Option.{IfSome_then, get_or_from_slice_get, same_Some, slice_get-get_or, slice_get-map, slice_get_cases, slice_get_past, slice_get_read, slice_get_within}
pub use Rattle.std.proofs.lemmas.Slice.Eq.{bytes_eq-Decides, slice_eq-Decides}
pub use Rattle.std.specs.List.{AllByRecursion, AllWithin, flat_map, list_all, list_any, position_or_len, zip}
pub use Rattle.std.specs.Option.{IfSome, is_some, option_and_then, option_copied, option_map, option_map_or, option_or, unwrap_or}
pub use Rattle.std.specs.Prelude.{All, AllPairs, Any, IfOk, IsTrue, MatchOption, OnOk, filter, find, position, slice_range, sum, sum_by}
pub use Rattle.indexmap.specs.IndexMap.{get}
pub use Rattle.gu_terms.proofs.KeyLemmas.{eq, eq-Decides, eq_is, key_eq-from, key_eq-refl, key_eq-same, key_eq-sym}
pub use Rattle.gu_terms.proofs.Lists.{AllPairs-from_Later, Later, Later-from_AllPairs, along, along2, any_none, find_more, find_none, found_here, found_later, list_any-agree, list_any-flat_map, list_any-map, marked, none_any, none_found, part-le, position_or_len-agree, position_or_len-map, position_or_len-within, sum_by-add, sum_by-mono, sum_by-swap, sum_by-zeros, sum_by-zip, sum_by-zip-le}
pub use Rattle.gu_terms.specs.Cuts.{CutLists, has_number}
pub use Rattle.gu_terms.specs.LimitKeys.{has_key, key_eq}
pub use Rattle.gu_terms.specs.Paths.{ArePathKeys, path_through}
pub use Rattle.gu_terms.specs.Takes.{IsAscending, lots_of}
pub use Rattle.gu_terms.specs.declared.account.AccountId.{AccountId}
pub use Rattle.gu_terms.specs.declared.agreement.AgreementId.{AgreementId}
pub use Rattle.gu_terms.specs.declared.firm.FirmId.{FirmId}
pub use Rattle.gu_terms.specs.declared.limit_key.LimitKey.{LimitKey}
pub use Rattle.gu_terms.specs.declared.limit_key.LimitKey.TheVariants.{Acct, Agr, Carry, Exec, Guar}
pub use Rattle.gu_view.specs.Check.{IsRight, first_found, has_offer, has_older_rest, has_room, not_oldest_first, over_limit, over_offer, room_differs, uncovered, unknown_key, unknown_offer, unknown_take, unless, verdict, verdict_of_known}
pub use Rattle.gu_view.specs.Cut.{Covers, IsLeastCut, is_covered, room_of}
pub use Rattle.gu_view.specs.Keeping.{AreEnds, AreMentioned, AreStarts, IsGiven, IsIndexed, IsKeyed, lists_at, lists_from, places_with}
pub use Rattle.gu_view.specs.Making.{AreRooms, MakesView, bad_offer, has_other_path, in_order, is_bad, is_own, lots_given, numbered, path_differs, same_agreement, view_of}
pub use Rattle.gu_view.specs.Marks.{AreLots, AreMarks, IsMarked, split_of}
pub use Rattle.gu_view.specs.Nearest.{AreSame, IsConcise, IsHeldBy, IsNearestCut, IsTight, NeedsEach, held_at, holds, without_key, without_offer}
pub use Rattle.gu_view.specs.Paths.{behind, have_one_key, key_on, room_agrees, same_key, step_of}
pub use Rattle.gu_view.specs.Takes.{AgreeOnOlder, IsAdmissible, IsGreatest, IsOldestFirst, IsOldestGreatest, lots_under, lots_with, total}
pub use Rattle.gu_view.specs.View.{GoOnAlike, GroupView, IsNested, IsPath, IsView, firsts, keys_of, next_key, place_among, place_of, places_under}
pub use Rattle.gu_view.specs.declared.error.CutFault.TheVariants.{NotOldestFirst, OverLimit, OverOffer, RoomDiffers, Uncovered, Unknown}
pub use Rattle.gu_view.specs.declared.error.Unknown.TheVariants.{Key, Offer}
pub use Rattle.gu_view.specs.declared.view.Room.{Room}
pub use Rattle.gu_view.specs.declared.view.ViewOffer.{ViewOffer}
