-- The words of the proofs: from the library, the crates below, and this crate's definitions.
pub use Rattle.std.proofs.Common.{AllPairs, Bool, List, None, Option, Some, [], ap, append-nil, append_assoc, arith, cond, drop, false, filter, get_or, if◌then◌else◌, inl, inr, is_none, is_some, length, length-append, map, max, nat_le, nat_lt, not, refl, slice_get, slice_index_or, subst, suc, sum_by, sym, take, take-append-drop, true, unwrap_or, zero, ℕ, ◌&&◌, ◌*◌, ◌++◌, ◌+◌, ◌-◌, ◌<◌, ◌==◌, ◌||◌, ◌↔◌, ◌∙◌, ◌∷◌, ◌≡◌, ◌≢◌, ◌≤◌}
pub use Rattle.std.proofs.Math.Seq.{drop-length, take-add, take-append_seam}
pub use Rattle.std.proofs.lemmas.Bool.{and_left, and_right, cases_Bool, le-leb, le-ltb, leb-true, lt-ltb, ltb-false, ltb-true, or_from}
pub use Rattle.std.proofs.lemmas.Bool.Decides.{Decides-eqb, nat_tests}
pub use Rattle.std.proofs.lemmas.List.{drop-append-le, drop-take, get_or-drop, length-drop, length-map, length-take, map-append, reverse-append, take_all, take_more}
pub use Rattle.std.proofs.lemmas.List.Elements.{All-from_recursion, filter-append, filter_map-append, recursion_from_All}
pub use Rattle.std.proofs.lemmas.List.Folds.{find-append, list_any-append}
pub use Rattle.std.proofs.lemmas.List.Sums.{sum_by-append, sum_by-cons, sum_by-le-sum_by, sum_by-set, sum_by_push}
pub use Rattle.std.proofs.lemmas.Option.{get_or_from_slice_get, slice_get-get_or, slice_get_within}
pub use Rattle.std.specs.List.{AllByRecursion, after_last, cons_option, filter_map, find, last_or, list_any, prefix_len, suffix_len}
unfoldable pub use Rattle.std.specs.List.{IsDistinct}
pub use Rattle.std.specs.Option.{option_and_then, option_map, option_map_or, option_or, option_to_list}
pub use Rattle.std.specs.Prelude.{All, IsTrue, slice_set}
pub use Rattle.gu_limits.specs.Changes.{lots_under}
pub use Rattle.gu_limits.specs.Paths.{path_of}
pub use Rattle.gu_offers.proofs.Listed.{all-at, all-imply, numbers-append, numbers-ascend, numbers-within}
pub use Rattle.gu_offers.specs.Changes.{changed, closed, next_day, offered, reversed, taken, with_lines}
pub use Rattle.gu_offers.specs.Rows.{Row, counted_of, counted_under, is_of_report, is_open, is_open_in, left_in, left_of, numbers_from, open_count, open_numbers, open_offer_at, open_offers, row_at, today_in}
pub use Rattle.gu_positions.specs.Changes.{lots_at, lots_at_side}
pub use Rattle.gu_ref.specs.Listed.{account_in, agreement_for}
pub use Rattle.gu_ref.specs.Reference.{account_row, agreement_between, agreement_row, guarantor_of, is_firm, is_group}
pub use Rattle.gu_ref.specs.Rules.{IsSound}
pub use Rattle.gu_ref.specs.Tables.{Tables}
pub use Rattle.gu_ref.specs.declared.accounts.Account.{Account}
pub use Rattle.gu_rules.specs.Answer.{State, answer, answer_in, done_of, first_standing, given_up, group_of, has_unknown_account, is_known_key, lacks_agreement, limit_tests, lines_tests, refusal_in, report_tests, room_tests, state_of, tests_of}
pub use Rattle.gu_rules.specs.Legal.{IsAccepted, IsLegal, MayBeEntered, MayFollow, StandsLast, accepted_entry, accepts}
pub use Rattle.gu_rules.specs.Limits.{is_under, keys_in_order, limit_of, limit_row, limit_rows, limit_set, limit_set_by, path_after, room_of, use_in, use_of}
pub use Rattle.gu_rules.specs.Offers.{closes, gave_up, given_back_by, has_give_up, is_shut, lines_by, moved_of, offers_of, standing, standing_from, standing_of, taken_by}
pub use Rattle.gu_rules.specs.Orderly.{AreAgreed, AreFew, AreFound, AreOwn, AreWithin, IsBalanced, IsCovered, IsNamed, IsOrderly, IsShown, lots_traded}
pub use Rattle.gu_rules.specs.Positions.{LongIsShort, brought, held_in, held_of, is_from, is_on, moved_into, moved_out, report_after, traded}
pub use Rattle.gu_rules.specs.Reports.{Fits, entries_today, open_day, opened_day, report_on, reports_after, reports_of}
pub use Rattle.gu_rules.specs.Sweeps.{IsSweepOf, MaySweep, part, parts}
pub use Rattle.gu_rules.specs.Versions.{is_of_group, touches, touching, touching_after, version_of}
pub use Rattle.gu_rules.specs.Views.{group_view, offers_in, offers_shown, shown, shown_at}
pub use Rattle.gu_terms.proofs.KeyLemmas.{key_eq-refl, key_eq-same}
pub use Rattle.gu_terms.proofs.Lists.{Later, Later-from_AllPairs, along, along2, any_none, none_any, none_found, sum_by-add, sum_by-agree, sum_by-mono, sum_by-swap, sum_by-zeros}
pub use Rattle.gu_terms.proofs.SameNames.{same_account-true, same_account-turned, same_firm-own, same_firm-true, same_group-own, same_group-true, same_id-own, same_id-true, same_id-turned, same_symbol-own, same_symbol-true, same_symbol-turned}
pub use Rattle.gu_terms.proofs.SameValues.{both}
pub use Rattle.gu_terms.specs.LimitKeys.{has_key, key_eq}
pub use Rattle.gu_terms.specs.Lines.{lots_in_all}
pub use Rattle.gu_terms.specs.Same.{same_account, same_agreement, same_day, same_firm, same_group, same_id, same_side, same_symbol}
pub use Rattle.gu_terms.specs.Takes.{IsAscending, lots_of}
pub use Rattle.gu_terms.specs.declared.account.AccountId.{AccountId}
pub use Rattle.gu_terms.specs.declared.agreement.AgreementId.{AgreementId}
pub use Rattle.gu_terms.specs.declared.alloc_reject.AllocReject.{AllocReject}
pub use Rattle.gu_terms.specs.declared.command.Command.{Command}
pub use Rattle.gu_terms.specs.declared.command.Command.TheVariants.{Claim, GiveUp, OpenDay, Refuse, ReportSide, Reverse, SetLimit}
pub use Rattle.gu_terms.specs.declared.day.Day.{Day}
pub use Rattle.gu_terms.specs.declared.entry.Entry.{Entry}
pub use Rattle.gu_terms.specs.declared.entry.Entry.TheVariants.{Asked, Swept}
pub use Rattle.gu_terms.specs.declared.entry.SweepEntry.{SweepEntry}
pub use Rattle.gu_terms.specs.declared.firm.FirmId.{FirmId}
pub use Rattle.gu_terms.specs.declared.group.Group.{Group}
pub use Rattle.gu_terms.specs.declared.id.Id.{Id}
pub use Rattle.gu_terms.specs.declared.limit_key.LimitKey.{LimitKey}
pub use Rattle.gu_terms.specs.declared.lines.Line.{Line}
pub use Rattle.gu_terms.specs.declared.offer.Offer.{Offer}
pub use Rattle.gu_terms.specs.declared.refusal.Refusal.{Refusal}
pub use Rattle.gu_terms.specs.declared.refusal.Refusal.TheVariants.{DuplicateId, LimitReached, MatchConflict, NoAgreement, NoDay, NotMatched, NothingToReverse, OfferClosed, OfferOpen, TooManyLots, TooManyOffers, UnknownAccount, UnknownKey, UnknownOffer, UnknownTrade}
pub use Rattle.gu_terms.specs.declared.reply.Done.{Done}
pub use Rattle.gu_terms.specs.declared.reply.Done.TheVariants.{Claimed, LimitSet, Offered, Opened, Refused, Reversed}
pub use Rattle.gu_terms.specs.declared.reply.Reply.{Reply}
pub use Rattle.gu_terms.specs.declared.reply.Reply.TheVariants.{Accepted, Denied}
pub use Rattle.gu_terms.specs.declared.report.Report.{Report}
pub use Rattle.gu_terms.specs.declared.side.Side.{Side}
pub use Rattle.gu_terms.specs.declared.side.Side.TheVariants.{Buy, Sell}
pub use Rattle.gu_terms.specs.declared.symbol.Symbol.{Symbol}
pub use Rattle.gu_terms.specs.declared.takes.Take.{Take}
pub use Rattle.gu_trades.specs.Matching.{conflicts, is_of_trade, is_other_side}
pub use Rattle.gu_trades.specs.Reports.{has_report, is_by, made_on, report_by, with_match}
pub use Rattle.gu_view.specs.View.{GoOnAlike, GroupView, IsNested, IsPath, keys_of, next_key, offer_of}
pub use Rattle.gu_view.specs.declared.view.ViewOffer.{ViewOffer}
