-- The words of the proofs: from the library, the crates below, and this crate's definitions.
pub use Rattle.std.proofs.Common.{Bool, Err, List, None, Ok, Option, Result, Some, Vec, [], add-one, ap, append_assoc, arith, codes, cond, drop, false, filter, filter_map, find, get_or, inl, inr, is_some, length, map, max, min, nat_le, nat_lt, not, option_and_then, refl, rules, slice_get, subst, suc, sym, take, true, zero, ℕ, ◌&&◌, ◌++◌, ◌+◌, ◌-◌, ◌/◌, ◌<◌, ◌==◌, ◌^◌, ◌||◌, ◌∙◌, ◌∷◌, ◌≡◌, ◌≤◌, ◌⊎◌}
pub use Rattle.std.proofs.lemmas.List.{append-nil, drop-append-le, drop-drop, length-append, length-drop, map-append, map_more, take-append-drop, take_all}
pub use Rattle.std.proofs.lemmas.List.Elements.{filter-append, filter_map-append}
pub use Rattle.std.specs.List.{AllByRecursion, cons_option, flat_map, list_any}
pub use Rattle.std.specs.Option.{option_copied, option_map_or, option_to_list}
pub use Rattle.std.specs.Prelude.{IfOk, IfSome, OnErr, if◌then◌else◌}
pub use Rattle.std.specs.declared.alloc.Global.{Global}
pub use Rattle.circular_buffer.specs.Buffer.{Buffer, buffer, keep_last}
pub use Rattle.gu_msgs.specs.Written.{outbound_of}
pub use Rattle.gu_msgs.specs.declared.inbound.ResendRequest.{ResendRequest}
pub use Rattle.gu_msgs.specs.declared.outbound.Body.{Body}
pub use Rattle.gu_msgs.specs.declared.outbound.Outbound.{Outbound}
pub use Rattle.gu_session.specs.AnswerRules.{answer_messages, asked_by, message_course, on_answer, on_notice}
pub use Rattle.gu_session.specs.Appending.{FollowText, FollowsText}
pub use Rattle.gu_session.specs.Applications.{application_of}
pub use Rattle.gu_session.specs.Ascending.{AreBelow, AreFrom, AreWithin}
pub use Rattle.gu_session.specs.Encoded.{AreOutputs, Closes, Hands, Response, Sends}
pub use Rattle.gu_session.specs.Following.{Follows, FollowsOnto, at_expected, firm_of, one_message, one_message_course, request_course}
pub use Rattle.gu_session.specs.Given.{asked_in, end_outputs, handed_outputs}
pub use Rattle.gu_session.specs.Laws.{ClosedForGood, Covers, HasLongestRuns, IsAmong, IsOnceMore, KeepsTheLastSent, NumbersGoUpByOne, OneStep, ResendsWhatWasSent, ServesWhatIsAsked, WasSent}
pub use Rattle.gu_session.specs.Orders.{AreNext, AscendsFrom, CloseIsLast, EndsLast, ExpectedNeverFalls, HandsOutInOrder, IsAnswered, IsSilent, NothingBeforeTheLogon, OneAnswer, ReferencesGoUp}
pub use Rattle.gu_session.specs.Outputs.{StepsOnto, bytes_in, handed_in, is_close}
pub use Rattle.gu_session.specs.Plans.{answers, hands, leaves, quiet, repeats, says}
pub use Rattle.gu_session.specs.Readiness.{IsReady, IsSoundState, seen, sent_with}
pub use Rattle.gu_session.specs.Resending.{again, behind_last, gap, gap_fill, resent, sent_within, with_gaps}
pub use Rattle.gu_session.specs.Runs.{CountsFrom, Runs, handed_reference, if_again, new_message, repeated_message}
pub use Rattle.gu_session.specs.Sending.{behind, closed, ending_of, given_by, is_over, kept_after, new_of, numbered, repeats_of, sent_by, sent_in, unanswered}
pub use Rattle.gu_session.specs.Sound.{HasRoom, IsSound, extended}
pub use Rattle.gu_session.specs.States.{SessionState, new_session}
pub use Rattle.gu_session.specs.Steps.{IsCourse, Steps, StepsOpen, StepsWith, at_frame, frame_course, on_close, responses_of, session_after}
pub use Rattle.gu_session.specs.declared.heard.Heard.{Heard}
pub use Rattle.gu_session.specs.declared.input.Input.{Input}
pub use Rattle.gu_session.specs.declared.logged_on.LoggedOn.{LoggedOn}
pub use Rattle.gu_session.specs.declared.logged_on.Waiting.{Waiting}
pub use Rattle.gu_session.specs.declared.output.Output.{Output}
pub use Rattle.gu_session.specs.declared.plan.Course.{Course}
pub use Rattle.gu_session.specs.declared.plan.Course.TheVariants.{Go, Leave, Stay}
pub use Rattle.gu_session.specs.declared.plan.Handed.{Handed}
pub use Rattle.gu_session.specs.declared.plan.Plan.{Plan}
pub use Rattle.gu_session.specs.declared.sent_ring.Sent.{Sent}
pub use Rattle.gu_terms.specs.declared.firm.FirmId.{FirmId}
