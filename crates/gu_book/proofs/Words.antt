-- The words of the proofs: from the library, the crates below, and this crate's definitions.
pub use Rattle.std.proofs.Common.{Bool, Err, IfOk, IfSome, List, None, Ok, Option, Result, Some, [], add-one, ap, append-nil, append_assoc, arith, cond, drop, false, get_or, if◌then◌else◌, inl, inr, is_none, is_some, length, length-append, map, max, nat_lt, not, refl, rules, slice_get, slice_index_or, subst, suc, sym, take, take-append-drop, true, unwrap_or, zero, ℕ, ◌&&◌, ◌*◌, ◌++◌, ◌+◌, ◌-◌, ◌<◌, ◌==◌, ◌^◌, ◌||◌, ◌∙◌, ◌∷◌, ◌≡◌, ◌≤◌}
pub use Rattle.std.proofs.lemmas.Bool.{cases_Bool}
pub use Rattle.std.proofs.lemmas.List.{append_cancel_left, drop_more, get_or_default, map-append, take_all, take_more}
pub use Rattle.std.proofs.lemmas.List.Elements.{All-from_recursion, All-more, filter_map-append, recursion_from_All}
pub use Rattle.std.proofs.lemmas.List.Sums.{sum_by-cons, sum_by-take-le}
pub use Rattle.std.proofs.lemmas.Option.{none-some, slice_get-get_or}
pub use Rattle.std.proofs.lemmas.Result.{IfOk-weaker, on_ok_weaker}
pub use Rattle.std.specs.List.{AllByRecursion, IsDistinct, cons_option, filter_map, find, list_any}
pub use Rattle.std.specs.Option.{option_and_then, option_copied, option_map, option_map_or, option_to_list}
pub use Rattle.std.specs.Prelude.{All}
pub use Rattle.gu_book.specs.Accepted.{MayDo, MayTakeIn, TakesIn}
pub use Rattle.gu_book.specs.Beside.{IsBeside, IsKept, IsKeptLegal, IsKeptWhole, answer_to_match, group_named_by, is_kept_give_up, register_kept, short_key, some_lots, standing_given_up, state_in, waiting_of}
pub use Rattle.gu_book.specs.Commits.{IsCurrent, IsForeign, sweep_of}
pub use Rattle.gu_book.specs.Counted.{AreVersions, IsCountAt, is_touched, own_in, version_in}
pub use Rattle.gu_book.specs.Current.{HasRooms, ShowsAll}
pub use Rattle.gu_book.specs.Deeds.{Claims, Deed, GivesUp, IsDeedOf, IsFound, MakesReport, MovesLots, Opens, Refuses, Reports, Reverses, SetsLimit, claim_of, done_by, reply_by, reversal_of, touched_by}
pub use Rattle.gu_book.specs.Effects.{HoldsMore, HoldsMoved, SameAnswers, SameEntries, UsesLess, UsesMore, UsesNothing, lots_of_reports, made_a_trade}
pub use Rattle.gu_book.specs.Informing.{HoldsInformed}
pub use Rattle.gu_book.specs.Moving.{AreReady, ClaimsLots, HasRows, IsHeld, IsReady, IsShownOpen, MayClaim, MayMove, MayTake, MovesAll, MovesOne, lots_used, taken_by}
pub use Rattle.gu_book.specs.Shown.{rooms_in, view_in}
pub use Rattle.gu_book.specs.declared.totals.GiveUpKey.{GiveUpKey}
pub use Rattle.gu_book.specs.declared.totals.Totals.{Totals}
pub use Rattle.gu_book.specs.declared.totals.Transfer.{Transfer}
pub use Rattle.gu_book.specs.declared.versions.Versions.{Versions}
pub use Rattle.gu_limits.specs.Changes.{Charges, MayCharge, MayReturn, Returns, SameLimits, Sets, lots_under}
pub use Rattle.gu_limits.specs.Limits.{AreLimitsOf, GroupLimit, has_limit, limit_in, number_in, room_in, row_in, same_place, used_in}
pub use Rattle.gu_notices.proofs.RecipientLemmas.{few_sides, grows-self, recipients-at, recipients-later, recipients-longer}
pub use Rattle.gu_notices.specs.Recipients.{AreRecipients, Covers, Grows, Holds}
pub use Rattle.gu_notices.specs.declared.firm_filter.FirmFilter.{FirmFilter}
pub use Rattle.gu_offers.specs.Changes.{changed, closed, next_day, offered, reversed, taken, with_lines}
pub use Rattle.gu_offers.specs.Rows.{IsSound, Row, counted_of, counted_under, is_of_report, left_in, left_of, open_numbers, open_offer_at, row_at, today_in}
pub use Rattle.gu_positions.specs.Changes.{KeepsLots, KeepsNumbers, lots_at}
pub use Rattle.gu_positions.specs.Rows.{is_of, lots_in, lots_on, open_interest_in, same_row}
pub use Rattle.gu_ref.specs.Reference.{account_row, agreement_between, is_group, is_instrument}
pub use Rattle.gu_ref.specs.Tables.{Tables}
pub use Rattle.gu_rules.proofs.AcceptedCommands.{fits-in, giving_up, is-accepted, names-are, opening, setting}
pub use Rattle.gu_rules.proofs.AgreementPaths.{accounts-known, path_after-once}
pub use Rattle.gu_rules.proofs.ChangedPositions.{held_in-closed, held_in-has, held_in-moved, held_in-next_day, held_in-reversed, held_in-taken, held_in-with_lines}
pub use Rattle.gu_rules.proofs.ChangedSums.{moved_out-le-traded, today-le-use_in, use_in-closed, use_in-next_day, use_in-reversed, use_in-taken, use_in-with_lines}
pub use Rattle.gu_rules.proofs.Facts.{IsThere, MayBeClaimed, MayBeReversed, claimable, open-there, refusable, reversible, row_at-other, today-is}
pub use Rattle.gu_rules.proofs.Growing.{last-given, legal_push, reports_of-push, stands_last}
pub use Rattle.gu_rules.proofs.InOrder.{in_order, nothing-orderly, whole}
pub use Rattle.gu_rules.proofs.OrderlyLemmas.{all-at, all-changed, few-kept, orderly-idle, orderly-lines, orderly-opened, orderly-refused, orderly-taken, orderly-taken_back, reports_of-kept, today-le-moved}
pub use Rattle.gu_rules.proofs.Passing.{room_first, standing_after, standing_in, standing_none}
pub use Rattle.gu_rules.proofs.Quiet.{IsQuiet, denied-lines, denied-quiet, has_give_up-kept, has_give_up-push, limit_set-kept, open_day-kept, unreported}
pub use Rattle.gu_rules.proofs.Spoken.{denied-idle, either-true, refused, refused-others, refused-own, taken_back, taken_back-others, taken_back-own}
pub use Rattle.gu_rules.proofs.StandingLemmas.{IsIdle, either-false, length-standing_from, offers_of-push}
pub use Rattle.gu_rules.proofs.Stepping.{standing_of-idle, standing_of-lines, standing_of-one, standing_of-opened}
pub use Rattle.gu_rules.proofs.Takers.{TakesOne, claim-takes, claimed, part-takes, sweep-takes, takes-others, takes-own}
pub use Rattle.gu_rules.specs.Answer.{State, answer, answer_in, claim_tests, done_of, first_standing, given_up, group_of, has_unknown_account, is_other_day, lacks_agreement, lines_tests, offer_tests, refusal_in, reverse_tests, room_tests, state_of, tests_of_lines}
pub use Rattle.gu_rules.specs.BookState.{BookState}
pub use Rattle.gu_rules.specs.Legal.{IsAccepted, IsLegal, StandsLast, accepts}
pub use Rattle.gu_rules.specs.Limits.{is_under, keys_in_order, limit_of, limit_row, limit_rows, limit_set, limit_set_by, path_after, room_of, use_in, use_of}
pub use Rattle.gu_rules.specs.Notices.{IsStretch, IsStretchOf, Register, notices_of, register_of, told_by, told_from, told_to}
pub use Rattle.gu_rules.specs.Offers.{gave_up, has_give_up, lines_by, offers_of, standing_from, standing_of}
pub use Rattle.gu_rules.specs.Orderly.{AreFound, AreWithin, IsShown}
pub use Rattle.gu_rules.specs.Positions.{LongIsShort, held_in, held_of, moved_into, moved_out, open_interest_of, report_after, row_of_lots, traded}
pub use Rattle.gu_rules.specs.Reports.{Fits, open_day, opened_day, report_on, reports_of}
pub use Rattle.gu_rules.specs.Sweeps.{IsSweepOf, MaySweep, part, parts}
pub use Rattle.gu_rules.specs.Versions.{is_of_group, offer_at, touches, version_of}
pub use Rattle.gu_rules.specs.Views.{group_view, offers_in, offers_shown, shown, shown_at}
pub use Rattle.gu_terms.proofs.Lists.{Later-from_AllPairs, along, along2, every, sum_by-agree}
pub use Rattle.gu_terms.proofs.SameNames.{same_account-own, same_account-turned, same_group-own, same_group-true, same_symbol-own, same_symbol-turned}
pub use Rattle.gu_terms.specs.Histories.{entry_at, lots_swept, swept_by}
pub use Rattle.gu_terms.specs.Same.{same_account, same_firm, same_group, same_id}
pub use Rattle.gu_terms.specs.Takes.{IsAscending, lots_of}
pub use Rattle.gu_terms.specs.declared.account.AccountId.{AccountId}
pub use Rattle.gu_terms.specs.declared.command.Command.{Command}
pub use Rattle.gu_terms.specs.declared.command.Command.TheVariants.{GiveUp, OpenDay, Refuse, ReportSide, SetLimit}
pub use Rattle.gu_terms.specs.declared.entry.Entry.{Entry}
pub use Rattle.gu_terms.specs.declared.entry.Entry.TheVariants.{Asked, Swept}
pub use Rattle.gu_terms.specs.declared.entry.SweepEntry.{SweepEntry}
pub use Rattle.gu_terms.specs.declared.firm.FirmId.{FirmId}
pub use Rattle.gu_terms.specs.declared.group.Group.{Group}
pub use Rattle.gu_terms.specs.declared.id.Id.{Id}
pub use Rattle.gu_terms.specs.declared.limit_key.LimitKey.{LimitKey}
pub use Rattle.gu_terms.specs.declared.lines.Line.{Line}
pub use Rattle.gu_terms.specs.declared.offer.Offer.{Offer}
pub use Rattle.gu_terms.specs.declared.refusal.Refusal.{Refusal}
pub use Rattle.gu_terms.specs.declared.refusal.Refusal.TheVariants.{LimitReached, MatchConflict, OfferClosed}
pub use Rattle.gu_terms.specs.declared.reply.Done.TheVariants.{Claimed, Offered, Reported, Reversed}
pub use Rattle.gu_terms.specs.declared.reply.Reply.TheVariants.{Accepted, Denied}
pub use Rattle.gu_terms.specs.declared.report.Report.{Report}
pub use Rattle.gu_terms.specs.declared.side.Side.{Side}
pub use Rattle.gu_terms.specs.declared.side.Side.TheVariants.{Buy, Sell}
pub use Rattle.gu_terms.specs.declared.symbol.Symbol.{Symbol}
pub use Rattle.gu_terms.specs.declared.takes.Take.{Take}
pub use Rattle.gu_trades.specs.Counterparts.{counterpart_of}
pub use Rattle.gu_trades.specs.Matching.{conflicts, have_other_sides, is_of_trade, is_other_side, is_waiting}
pub use Rattle.gu_trades.specs.Reports.{has_report, made_on, report_by, with_match}
pub use Rattle.gu_trades.specs.Terms.{terms_of}
pub use Rattle.gu_trades.specs.declared.terms.Terms.{Terms}
pub use Rattle.gu_view.specs.View.{GroupView, IsView, keys_of, offer_of}
pub use Rattle.gu_view.specs.declared.view.Room.{Room}
pub use Rattle.gu_view.specs.declared.view.ViewOffer.{ViewOffer}
