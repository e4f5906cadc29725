-- The words of the proofs: from the library, the crates below, and this crate's definitions.
pub use Rattle.std.proofs.Common.{Bool, Err, IsTrue, List, None, Ok, Option, Result, Some, [], ap, append-nil, append_assoc, arith, cond, drop, false, filter, get_or, if◌then◌else◌, inl, inr, length, length-append, map, nat_le, nat_lt, not, refl, replicate, rules, slice_get, subst, suc, sym, take, true, unwrap_or, zero, ℕ, ◌&&◌, ◌*◌, ◌++◌, ◌+◌, ◌-◌, ◌<◌, ◌==◌, ◌^◌, ◌||◌, ◌∙◌, ◌∷◌, ◌≡◌, ◌≢◌, ◌≤◌, ◌⊎◌}
pub use Rattle.std.proofs.lemmas.List.{length-map, length-take, take-append-drop, take-take, take_more}
pub use Rattle.std.proofs.lemmas.List.Elements.{All-from_recursion, All-nil, recursion_from_All}
pub use Rattle.std.specs.List.{AllByRecursion, cons_option, filter_map, flat_map, list_all}
pub use Rattle.std.specs.Option.{option_and_then, option_copied, option_map, option_map_or, option_or}
pub use Rattle.std.specs.Prelude.{IsErrAnd, IsErrOf, IsSome, MatchOption, OnOk, slice_index_or, slice_set}
pub use Rattle.std.specs.Str.Lines.{lines, strip_carriage_return}
pub use Rattle.gu_ref.specs.Reference.{account_row, agreement_row, guarantor_of, is_group}
pub use Rattle.gu_rules.specs.Views.{group_view, offers_shown, shown_at}
pub use Rattle.gu_script.specs.Journals.{IsWritableEntry, command_said, days_apart, entry_rows, entry_said, journal_text, open_after, rows_after, rows_apart, said_after}
pub use Rattle.gu_script.specs.Replaying.{HasLineText, HasText, IsTextOfLines, SayAll, line_text, looked, step_text, steps_of, sweep_text, sweeper}
pub use Rattle.gu_script.specs.ScriptPieces.{AnswersEnd, AnswersEnded, AnswersPiece, Ended, Gives, Place, StopsInPiece, TakesPiece, whole_line}
pub use Rattle.gu_script.specs.ScriptSteps.{AnswersLine, AnswersLines, AnswersSaid, AnswersStep, Proposes, ShowsFor}
pub use Rattle.gu_script.specs.declared.error.ScriptError.TheVariants.{BadLine, Memory, Read, Write}
pub use Rattle.gu_streams.proofs.Writing.{error_passed, on_err_from, on_ok_then, wrote_all, wrote_then}
pub use Rattle.gu_streams.specs.Written.{WrotePart}
pub use Rattle.gu_terms.specs.declared.day.Day.{Day}
pub use Rattle.gu_terms.specs.declared.entry.Entry.{Entry}
pub use Rattle.gu_terms.specs.declared.entry.Entry.TheVariants.{Asked, Swept}
pub use Rattle.gu_terms.specs.declared.entry.SweepEntry.{SweepEntry}
pub use Rattle.gu_terms.specs.declared.group.Group.{Group}
pub use Rattle.gu_text.specs.LineFeeds.{HasNoLineFeed, IsParted, IsTooLong, LeavesOpen, ended_lines}
pub use Rattle.gu_text.specs.Lines.{is_silent, longest_line}
pub use Rattle.gu_text.specs.Outcomes.{outcome_text}
pub use Rattle.gu_text.specs.Scripts.{IsBad, Says}
pub use Rattle.gu_text.specs.declared.script_line.Line.{Line}
pub use Rattle.gu_view.specs.View.{GroupView, IsNested, IsView, firsts, keys_of}
pub use Rattle.gu_view.specs.declared.view.ViewOffer.{ViewOffer}
pub use Rattle.gu_world.specs.Runs.{Course, GoesOn, IsReached, IsRun}
pub use Rattle.gu_world.specs.Steps.{LeadsTo, Look, ProposesOn, ShowsProposed, State, committed_for, committed_on, is_full, is_overtaken, look_of, next_receipt, outcome_of, seen_history, start, with_entry, with_look, with_proposal}
pub use Rattle.gu_world.specs.declared.outcome.Outcome.{Outcome}
pub use Rattle.gu_world.specs.declared.step.Step.TheVariants.{Commit, Enter, Propose, See}
