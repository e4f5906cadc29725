-- The words of the proofs: from the library, the crates below, and this crate's definitions.
pub use Rattle.std.proofs.Common.{Bool, List, None, Option, Some, [], add-one, add-zero, ap, arith, below_more, cond, false, get_or, get_or-set_other, get_or-set_same, get_or-take, inl, inr, length, length-append, map, min, nat_lt, not, one-add, refl, replicate, set, slice_get, slice_index, subst, suc, sum, sym, take, true, vec_len, zero, zero-add, ℕ, ◌%◌, ◌&&◌, ◌*◌, ◌++◌, ◌+◌, ◌-◌, ◌/◌, ◌<◌, ◌==◌, ◌^◌, ◌||◌, ◌∙◌, ◌∷◌, ◌≡◌, ◌≢◌, ◌≤◌, ◌⊎◌}
pub use Rattle.std.proofs.Math.Bool.{and-false, and-not_self, and-true, or-false}
pub use Rattle.std.proofs.Math.ListN.{get_or-append, length-set}
pub use Rattle.std.proofs.lemmas.Bool.{and_from, and_parts, and_right, both_ways, cases_Bool, cases_eq, cases_lt, cases_order, cond-false, cond-true, cond_both, eq-eqb, eqb-false, eqb-true, false_from_ne_true, le-ltb, lt-ltb, ltb-false, ltb-true, ne_eqb, not-false, not-true, not_from_false, or_cases, or_left, or_right}
pub use Rattle.std.proofs.lemmas.List.{get_or-map, get_or_append_left, get_or_default, get_or_past, get_or_push, length-map, length-replicate, length-take-le, length_push, take_all, with_items_is}
pub use Rattle.std.proofs.lemmas.List.Elements.{All-filter, All-from_get_or, All-from_recursion, All-push, All-replicate, filter-append, filter_passes, recursion_from_All}
pub use Rattle.std.proofs.lemmas.List.Folds.{Any-from_list_any, list_any-append, list_any_at}
pub use Rattle.std.proofs.lemmas.List.Sums.{count_by-le-length, sum_by-cons, sum_by-le, sum_by-set, sum_by-take-le, sum_by_more}
pub use Rattle.std.proofs.lemmas.Option.{get_or_from_slice_get, slice_get-get_or, slice_get-map, slice_get_cases, slice_get_within}
pub use Rattle.std.specs.List.{AllByRecursion, Any, find, list_any, position_or_len}
pub use Rattle.std.specs.Option.{option_map}
pub use Rattle.std.specs.Prelude.{All, IfSome, IsTrue, sum_by, unwrap_or}
pub use Rattle.gu_flow.specs.CutArcs.{AreCut, AreKeysCut, AreNoOffersCut, AreOffersCut, IsCutBy, cuts_key, cuts_offers, leads_out}
pub use Rattle.gu_flow.specs.Ends.{IsCurrent, IsIndex, JoinsNodes, arc_at, capacities, far, is_tail, link_at, near, no_arc, no_link, other_end, residual_in, residual_out}
unfoldable pub use Rattle.gu_flow.specs.Ends.{last_before}
pub use Rattle.gu_flow.specs.Floors.{IsAlike, KeepsFloors, room_out}
pub use Rattle.gu_flow.specs.Flows.{IsClosed, IsFlow, IsShut, IsWithin, Pushes, inflow, outflow, value_of}
unfoldable pub use Rattle.gu_flow.specs.Flows.{places, sum_over}
pub use Rattle.gu_flow.specs.Layouts.{node_at, node_of, node_or_sink}
pub use Rattle.gu_flow.specs.Networks.{AreArcs, GoesBy, IsArcOf, IsOfferOf, capacity_of, no_offer, no_room, offer_at, room_at, way_of}
pub use Rattle.gu_flow.specs.OldestFlows.{IsOldestBefore, IsOldestFlow, got_before}
pub use Rattle.gu_flow.specs.Preflows.{AreSettled, IsPreflow, IsSurge}
pub use Rattle.gu_flow.specs.Proposals.{IsSound, ProposedSweep}
pub use Rattle.gu_flow.specs.Rounds.{AreFixed, AreMeasured, AreReady, AreSearches, AreUnderWay, CarriesMost, HasRooms, IsAllotment, IsBrought, IsClosedInside, IsFree, room_inside}
pub use Rattle.gu_flow.specs.Searches.{GoesOn, IsEntry, IsQueue, IsReady, IsSearch, IsSourceSearch, IsTree, KeepsReached, is_reached, level_at, mark_at, no_mark, reached_count, turns_left}
pub use Rattle.gu_flow.specs.Shares.{AreAllShares, AreSharesBefore, above_zero, agreement_lots, agreement_place, no_take, share_of, take_at}
pub use Rattle.gu_flow.specs.Ways.{HasRoom, IsAhead, IsDescent, IsDown, IsNarrow, IsStep, IsWhole, TakesEachOnce, stand}
pub use Rattle.gu_flow.specs.declared.allotment.Allotment.{Allotment}
pub use Rattle.gu_flow.specs.declared.network.Arc.{Arc}
pub use Rattle.gu_flow.specs.declared.searching.Mark.{Mark}
pub use Rattle.gu_flow.specs.declared.searching.Search.{Search}
pub use Rattle.gu_terms.proofs.KeyLemmas.{key_eq-from, key_eq-refl, key_eq-same}
pub use Rattle.gu_terms.proofs.Lists.{Later, Later-from_AllPairs, along, none_found, part-le, position_or_len-within, sum_by-add, sum_by-agree, sum_by-mono, sum_by-swap, sum_by-zeros}
pub use Rattle.gu_terms.specs.Cuts.{CutLists, has_number}
pub use Rattle.gu_terms.specs.LimitKeys.{has_key, key_eq}
pub use Rattle.gu_terms.specs.Takes.{IsAscending, lots_of}
pub use Rattle.gu_terms.specs.declared.agreement.AgreementId.{AgreementId}
pub use Rattle.gu_terms.specs.declared.limit_key.LimitKey.{LimitKey}
pub use Rattle.gu_terms.specs.declared.limit_key.LimitKey.TheVariants.{Acct, Agr, Carry, Exec, Guar}
pub use Rattle.gu_terms.specs.declared.takes.Take.{Take}
pub use Rattle.gu_view.proofs.HoldLemmas.{any_key, first_hit, held, hits_at, holds_by_key, misses_before, on_path, same_test}
pub use Rattle.gu_view.proofs.TakesLemmas.{key_at_place}
pub use Rattle.gu_view.specs.Check.{IsRight, has_offer, has_room}
pub use Rattle.gu_view.specs.Cut.{Covers, IsLeastCut, is_covered, room_of}
pub use Rattle.gu_view.specs.Nearest.{IsConcise, IsHeldBy, IsNearestCut, IsTight, held_at, holds}
pub use Rattle.gu_view.specs.Paths.{step_of}
pub use Rattle.gu_view.specs.Takes.{AgreeOnOlder, IsAdmissible, IsGreatest, IsOldestFirst, IsOldestGreatest, lots_under, lots_with, total}
pub use Rattle.gu_view.specs.View.{GroupView, IsNested, IsPath, IsView, next_key, place_of, places_under}
pub use Rattle.gu_view.specs.declared.view.Room.{Room}
pub use Rattle.gu_view.specs.declared.view.ViewOffer.{ViewOffer}
