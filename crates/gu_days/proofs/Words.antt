-- The words of the proofs: from the library, the crates below, and this crate's definitions.
pub use Rattle.std.proofs.Common.{Bool, Err, IsTrue, List, None, Option, Some, [], ap, append-nil, append_assoc, arith, cond, drop, false, get_or-set_same, if◌then◌else◌, inl, inr, is_some, length, length-append, length-set, map, nat_le, nat_lt, not, refl, reverse, slice_get, subst, suc, sum_by, sym, take, take-append-drop, take_all, true, zero, ℕ, ◌++◌, ◌+◌, ◌-◌, ◌<◌, ◌||◌, ◌∙◌, ◌∷◌, ◌≡◌}
pub use Rattle.std.specs.Option.{option_map, option_map_or, option_or, option_to_list, unwrap_or}
pub use Rattle.std.specs.Str.Lines.{lines}
pub use Rattle.gu_days.specs.PlayedBack.{ArePlayedBack, IsPlayedBack, IsSameSweep, played}
pub use Rattle.gu_ref.specs.Tables.{Tables}
pub use Rattle.gu_rules.specs.Answer.{State, answer, answer_in, state_of}
pub use Rattle.gu_rules.specs.Legal.{IsLegal, MayFollow}
pub use Rattle.gu_rules.specs.Reports.{entries_today, open_day, opened_day, report_on, reports_after, reports_of}
pub use Rattle.gu_rules.specs.Versions.{is_of_group, touches, touching_after, version_of}
pub use Rattle.gu_rules.specs.Views.{group_view, offers_in, offers_shown}
pub use Rattle.gu_script.specs.Journals.{command_said, days_apart, entry_said, journal_text, open_after, said_after}
pub use Rattle.gu_script.specs.Replaying.{HasLineText, HasText, IsTextOfLines, SayAll, sweeper}
pub use Rattle.gu_terms.specs.declared.command.Command.{Command}
pub use Rattle.gu_terms.specs.declared.day.Day.{Day}
pub use Rattle.gu_terms.specs.declared.entry.Entry.{Entry}
pub use Rattle.gu_terms.specs.declared.entry.Entry.TheVariants.{Asked, Swept}
pub use Rattle.gu_terms.specs.declared.entry.SweepEntry.{SweepEntry}
pub use Rattle.gu_terms.specs.declared.group.Group.{Group}
pub use Rattle.gu_view.specs.View.{GroupView, keys_of}
pub use Rattle.gu_world.specs.Runs.{Course, IsRun, beginning}
