-- The words of the proofs: from the library, the crates below, and this crate's definitions.
pub use Rattle.std.proofs.Common.{Err, IfSome, List, None, Ok, Option, Result, Some, [], ap, append-nil, append_assoc, arith, drop, false, get_or, inl, inr, length, length-append, max, nat_lt, not, refl, subst, suc, sym, take, true, unwrap_or, zero, ℕ, ◌%◌, ◌*◌, ◌++◌, ◌+◌, ◌-◌, ◌<◌, ◌==◌, ◌^◌, ◌∙◌, ◌∷◌, ◌≡◌, ◌≤◌}
pub use Rattle.std.proofs.lemmas.Bool.{cases_Bool, ltb-false, ltb-true}
pub use Rattle.std.specs.List.{AllByRecursion, flat_map, fold, range_with_len}
pub use Rattle.std.specs.Prelude.{nat_le, slice_get, ◌&&◌}
pub use Rattle.gu_notices.specs.Filters.{Keeps, has_place, may_hold, next_place, place_of}
pub use Rattle.gu_notices.specs.Recipients.{AreRecipients, Covers, CoversCarrier, CoversEach, Grows, Holds}
pub use Rattle.gu_notices.specs.Registers.{carrier_in, register_in}
pub use Rattle.gu_notices.specs.Telling.{IsTold, told_at_places}
pub use Rattle.gu_rules.specs.Notices.{Register, Told, offer_notice, to_both, to_carrier, told_by, told_from, told_of_event, told_of_line, told_of_take, told_of_trade, told_on, told_to}
pub use Rattle.gu_terms.specs.declared.entry.Entry.{Entry}
