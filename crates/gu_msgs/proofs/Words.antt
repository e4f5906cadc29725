-- The words of the proofs: from the library, the crates below, and this crate's definitions.
pub use Rattle.std.proofs.Common.{Bool, Err, FitsSigned, IsTrue, List, MatchOption, MatchResult, None, Ok, Option, Result, Some, [], add-one, ap, append_assoc, arith, codes, cond, drop, eq-eqb, eqb-true, false, get_or, if◌then◌else◌, inl, inr, is_some, length, map, nat_le, nat_lt, not, pos, refl, rules, set, slice_get, slice_index, subst, suc, sum, sym, take, true, w16, zero, ℕ, ℤ, ◌%◌, ◌&&◌, ◌*◌, ◌++◌, ◌+◌, ◌-◌, ◌/◌, ◌<◌, ◌==◌, ◌^◌, ◌↔◌, ◌∙◌, ◌∷◌, ◌≡◌, ◌≢◌, ◌≤◌, ◌⊎◌}
pub use Rattle.std.proofs.Math.Nat.{mul-div_cancel, pow-le-pow_right, pow-succ'}
pub use Rattle.std.proofs.lemmas.Bool.{and_parts, cases_Bool, cases_eq, cases_order, le-leb, le-ltb, leb-true, lt-ltb, ltb-true, ne_eqb, not-true}
pub use Rattle.std.proofs.lemmas.Int.{ints, to_z-of_z}
pub use Rattle.std.proofs.lemmas.Int.Digits.{digits_more, digits_value-lt, digits_value_more}
pub use Rattle.std.proofs.lemmas.List.{append-nil, at_drop_more, drop-append-le, drop-drop, drop-take, drop_at, get_or-set_other, get_or-set_same, length-append, length-drop, length-take, length-take-le, take-append-drop, take_all, take_at}
pub use Rattle.std.proofs.lemmas.List.Folds.{list_all-append, list_any_at, list_any_none}
pub use Rattle.std.proofs.lemmas.List.Sums.{AllPass-from_list_all, list_all-from_AllPass, sum-map}
pub use Rattle.std.proofs.lemmas.Result.{err_from_is_err_and}
pub use Rattle.std.specs.Char.{digit_value}
pub use Rattle.std.specs.List.{All, AllByRecursion, filter_map, flat_map, list_all, list_any}
pub use Rattle.std.specs.Option.{option_map, option_map_or, option_or}
pub use Rattle.std.specs.Prelude.{int_lt, negsuc, unsigned_abs, ◌<ℤ◌, ◌≤ℤ◌}
pub use Rattle.std.specs.Str.Parse.{AllDigits, digits_value}
pub use Rattle.gu_fix.specs.Encoding.{begins_with_type, field_text, fields_text, has_soh, is_body_tag, is_empty, message_of}
unfoldable pub use Rattle.gu_fix.specs.Encoding.{fault_of}
pub use Rattle.gu_fix.specs.TagValue.{TagValue, tag_value}
pub use Rattle.gu_fix.specs.declared.tag.TheConstants.{MSG_TYPE}
pub use Rattle.gu_msgs.specs.Agreement.{AddsUp, Agrees, AreLots, Differs, Disagrees, EndsRight, HasQuantities, number_at}
pub use Rattle.gu_msgs.specs.Faults.{IsFaultOf, IsFaultless, IsFirstFault, IsTypedFault, untyped_fault}
pub use Rattle.gu_msgs.specs.Groups.{entries_begun, entries_by, entries_of, group_of, up_to}
pub use Rattle.gu_msgs.specs.Items.{AreSound, IsFirstAtFault, IsItemAtFault, IsSoundItem, Item, item_of, items_of, message_items, row_items}
pub use Rattle.gu_msgs.specs.Kinds.{IsAtFault, IsFormatted, IsNumber, IsNumberWithin, IsSound, IsYesOrNo}
pub use Rattle.gu_msgs.specs.Messages.{AreAllocs, GivesDay, IsAlloc, IsFlag, IsInstruction, IsLogon, IsOfType, IsReport, IsReportAck, IsRequest, IsResendRequest, IsSequenceReset, IsSide, IsUnread, Says, side_number}
pub use Rattle.gu_msgs.specs.MsgTypes.{code_of, is_type_byte, is_type_text}
pub use Rattle.gu_msgs.specs.Outlines.{AreJudged, CountsEntries, HasOneEntry, IsRefusedOf, IsShaped, IsTypedRefusal, MayMean, Outlined, ReadsEntriesOrMemory, ReadsEntry, ReadsTo, ReadsToOrMemory, entries_at, entry_rows_at, row, tag_at, value_at}
pub use Rattle.gu_msgs.specs.Rows.{is_listed, is_required, kind_of, tag_of}
pub use Rattle.gu_msgs.specs.Shape.{StandsAgain, StandsAgainFirst, count_fault, counted_fault, entries_fault, fault_at, group_fault, groups_fault, is_second, missing, repeated, repeated_after, shape_fault, tags_fault}
pub use Rattle.gu_msgs.specs.Standings.{AreDistinct, AreStandings, IsRowOf, IsStanding, IsTable, Notes, fields_after, row_at, value_numbered}
pub use Rattle.gu_msgs.specs.Tables.{outer_rows}
unfoldable pub use Rattle.gu_msgs.specs.Tables.{body_rows, entry_rows, header_rows}
pub use Rattle.gu_msgs.specs.Values.{Holds, MayHold, behind, first_value, is_numeral, only_value, stands}
pub use Rattle.gu_msgs.specs.declared.fault.Fault.{Fault}
pub use Rattle.gu_msgs.specs.declared.inbound.Inbound.{Inbound}
pub use Rattle.gu_msgs.specs.declared.msg_type.MsgType.{MsgType}
pub use Rattle.gu_msgs.specs.declared.msg_type.MsgType.TheVariants.{AllocationInstruction, AllocationReportAck, Heartbeat, Logon, Logout, Reject, RequestForPositions, ResendRequest, SequenceReset, TestRequest, TradeCaptureReport}
pub use Rattle.gu_msgs.specs.declared.reject_reason.SessionRejectReason.{SessionRejectReason}
pub use Rattle.gu_msgs.specs.declared.reject_reason.SessionRejectReason.TheVariants.{IncorrectDataFormat, IncorrectNumInGroupCount, InvalidMsgType, RequiredTagMissing, TagAppearsMoreThanOnce, ValueIsIncorrect}
pub use Rattle.gu_msgs.specs.declared.row.Kind.{Kind}
pub use Rattle.gu_msgs.specs.declared.row.Kind.TheVariants.{Id, Lots, Name, Number, Text}
pub use Rattle.gu_msgs.specs.declared.row.Row.{Row}
pub use Rattle.gu_msgs.specs.declared.row.Row.TheVariants.{Optional, Required}
pub use Rattle.gu_msgs.specs.declared.tags.TheConstants.{ACCOUNT, ALLOC_ACCOUNT, ALLOC_ID, ALLOC_QTY, ALLOC_REPORT_ID, BEGIN_SEQ_NO, END_SEQ_NO, EXEC_ID, GAP_FILL_FLAG, HEART_BT_INT, MSG_SEQ_NUM, NEW_SEQ_NO, NO_ALLOCS, NO_EXECS, NO_SIDES, POSS_DUP_FLAG, QUANTITY, REF_MSG_TYPE, REF_SEQ_NUM, REF_TAG_ID, RESET_SEQ_NUM_FLAG, SENDER_COMP_ID, SESSION_REJECT_REASON, SIDE, TARGET_COMP_ID, TRADE_DATE, TRADE_REPORT_ID, TRD_MATCH_ID}
pub use Rattle.gu_terms.specs.Days.{IsDay, IsDayText, WritesDay, day_of, month_of, year_of}
pub use Rattle.gu_terms.specs.Lines.{lots_in_all}
pub use Rattle.gu_terms.specs.NumberText.{IsNumberText, Means, MeansLots, MeansPrice, fraction_digits, whole_digits, with_sign}
pub use Rattle.gu_terms.specs.declared.day.Day.{Day}
pub use Rattle.gu_terms.specs.declared.lines.Line.{Line}
pub use Rattle.gu_terms.specs.declared.side.Side.{Side}
pub use Rattle.gu_terms.specs.declared.side.Side.TheVariants.{Buy, Sell}
pub use Rattle.jiff_core.specs.Calendar.{IsBetween, IsDate, day_count, days_in_month}
unfoldable pub use Rattle.jiff_core.specs.Calendar.{days_from_civil}
