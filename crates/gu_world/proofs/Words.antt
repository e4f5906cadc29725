-- The words of the proofs: from the library, the crates below, and this crate's definitions.
pub use Rattle.std.proofs.Common.{Bool, Err, List, None, Ok, Option, Result, Some, [], ap, append-nil, append_assoc, arith, cond, drop, false, get_or, if◌then◌else◌, inl, inr, is_some, length, length-append, map, nat_lt, refl, replicate, subst, suc, sym, take, take-append-drop, true, zero, ℕ, ◌++◌, ◌+◌, ◌-◌, ◌<◌, ◌↔◌, ◌∙◌, ◌∷◌, ◌≡◌, ◌≢◌, ◌≤◌, ◌⊎◌}
pub use Rattle.std.proofs.lemmas.Bool.{cases_Bool, leb-false, ltb-true}
pub use Rattle.std.proofs.lemmas.Bool.Decides.{nat_tests}
pub use Rattle.std.proofs.lemmas.List.{drop_more, length-set, length-take, length-take-le, map-append, map-set, take-append-le, take_all, take_more}
pub use Rattle.std.proofs.lemmas.List.Elements.{All-from_recursion, All-push, filter_map-append}
pub use Rattle.std.proofs.lemmas.Option.{get_or_from_slice_get, slice_get-get_or, slice_get_within}
pub use Rattle.std.specs.List.{AllByRecursion, find}
pub use Rattle.std.specs.Option.{option_and_then, option_map, option_map_or, option_to_list}
pub use Rattle.std.specs.Prelude.{All, IfOk, IsSome, nat_le, slice_get, slice_index_or, slice_set}
pub use Rattle.gu_book.specs.Commits.{IsCurrent, IsForeign, IsStale, Refuses, sweep_of}
pub use Rattle.gu_ref.specs.Reference.{is_group}
pub use Rattle.gu_ref.specs.Tables.{Tables}
pub use Rattle.gu_rules.proofs.EqualViews.{equal_views}
pub use Rattle.gu_rules.proofs.VersionLemmas.{touching_after-append, version-le}
pub use Rattle.gu_rules.specs.BookState.{BookState}
pub use Rattle.gu_rules.specs.Legal.{IsLegal, MayBeEntered, MayFollow}
pub use Rattle.gu_rules.specs.Versions.{is_of_group, touches, touching, touching_after, version_of}
pub use Rattle.gu_rules.specs.Views.{group_view}
pub use Rattle.gu_terms.specs.declared.entry.Entry.{Entry}
pub use Rattle.gu_terms.specs.declared.entry.Entry.TheVariants.{Asked, Swept}
pub use Rattle.gu_terms.specs.declared.entry.SweepEntry.{SweepEntry}
pub use Rattle.gu_terms.specs.declared.group.Group.{Group}
pub use Rattle.gu_terms.specs.declared.receipt.Receipt.{Receipt}
pub use Rattle.gu_view.specs.View.{GroupView, IsNested}
pub use Rattle.gu_world.specs.Blame.{IsBlamedFor, ends_stale, first_after, is_stale, own_of}
pub use Rattle.gu_world.specs.Looks.{AreTrue, Grows, IsKeptCourse, IsTrueLook, look_by, look_in, looks_in, state_in, view_in, view_proposed, view_ready}
pub use Rattle.gu_world.specs.Outcomes.{AreNumbered, IsNumbered, kept_of, outcome_in}
pub use Rattle.gu_world.specs.Runs.{Course, GoesOn, IsBlamedAt, IsCulprit, IsRun, IsRunOf, beginning, blamed, receipt_of, receipts_in}
pub use Rattle.gu_world.specs.Series.{IsShort, all_outcomes, outcomes_of}
pub use Rattle.gu_world.specs.Steps.{LeadsTo, Look, ProposesOn, ShowsProposed, State, committed_for, committed_on, first_touch_above, is_full, is_overtaken, look_of, looked, next_receipt, outcome_of, seen_history, start, view_seen, with_entry, with_look, with_proposal}
pub use Rattle.gu_world.specs.declared.held.Held.{Held}
pub use Rattle.gu_world.specs.declared.held.Work.{Work}
pub use Rattle.gu_world.specs.declared.held.Work.TheVariants.{Looking, Ready}
pub use Rattle.gu_world.specs.declared.outcome.Outcome.{Outcome}
pub use Rattle.gu_world.specs.declared.outcome.Outcome.TheVariants.{Foreign, Full, NoGroup, Nothing, Proposed, Seen, Stale}
pub use Rattle.gu_world.specs.declared.outcomes.KeptOutcome.{KeptOutcome}
pub use Rattle.gu_world.specs.declared.step.Step.{Step}
pub use Rattle.gu_world.specs.declared.step.Step.TheVariants.{Commit, Enter, Propose, See}
