-- The words of the proofs: from the library, the crates below, and this crate's definitions.
pub use Rattle.std.proofs.Common.{All, Bool, Bor, Err, IfErr, IfOk, IfSome, List, None, Ok, OnOk, Option, Result, Some, [], add-one, ap, append-nil, append_assoc, arith, drop, false, get_or, inl, inr, length, length-append, length-set, refl, rules, set, subst, suc, sym, take, take-append-drop, true, true≢false, vec_len, zero, ℕ, ⊎_elim, ◌++◌, ◌+◌, ◌-◌, ◌<◌, ◌==◌, ◌||◌, ◌∙◌, ◌∷◌, ◌≡◌, ◌≢◌, ◌≤◌, ◌⊎◌}
pub use Rattle.std.proofs.Math.Seq.{take-add, take-append_seam}
pub use Rattle.std.proofs.lemmas.List.{get_or-drop, length-drop, map-id, take-append-le, take_all}
pub use Rattle.std.proofs.lemmas.Option.{get_or_from_slice_get, slice_get-get_or, slice_get_read, slice_get_within}
pub use Rattle.std.proofs.lemmas.Result.{err_from_is_err_and}
pub use Rattle.std.specs.List.{flat_map, list_any}
pub use Rattle.std.specs.Prelude.{slice_get, sum_by, vec_capacity}
pub use Rattle.gu_book.specs.Commits.{Refuses, sweep_of}
pub use Rattle.gu_desk.specs.Audits.{AreReceiptsOf, AreSound, IsFaultOf, IsFirstFault, IsNumber, IsReceiptOf, has_receipt}
pub use Rattle.gu_desk.specs.Holds.{Enters, Looks, Sees}
pub use Rattle.gu_desk.specs.KeptReceipts.{receipts_in}
pub use Rattle.gu_desk.specs.Marks.{AreMarks}
pub use Rattle.gu_desk.specs.Seats.{IsNew, SeatState}
pub use Rattle.gu_desk.specs.Sweeps.{IsSweepRefused}
pub use Rattle.gu_desk.specs.declared.error.SweepError.{SweepError}
pub use Rattle.gu_rules.specs.BookState.{BookState}
pub use Rattle.gu_rules.specs.Views.{group_view}
pub use Rattle.gu_terms.specs.Histories.{entry_at, lots_swept, swept_by}
pub use Rattle.gu_terms.specs.declared.entry.Entry.{Entry}
pub use Rattle.gu_terms.specs.declared.entry.Entry.TheVariants.{Asked, Swept}
pub use Rattle.gu_terms.specs.declared.receipt.Receipt.{Receipt}
pub use Rattle.gu_view.specs.View.{GroupView}
