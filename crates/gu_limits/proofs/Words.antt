-- The words of the proofs: from the library, the crates below, and this crate's definitions.
pub use Rattle.std.proofs.Common.{Bool, List, None, Option, Some, [], add-one, ap, arith, cond, eq-eqb, false, get_or, inl, inr, is_some, length, map, nat_lt, not, position, refl, rules, set, slice_get, slice_index, subst, suc, sym, take, true, zero, ℕ, ◌&&◌, ◌++◌, ◌+◌, ◌-◌, ◌<◌, ◌==◌, ◌||◌, ◌∙◌, ◌∷◌, ◌≡◌, ◌≢◌, ◌≤◌, ◌⊎◌}
pub use Rattle.std.proofs.lemmas.Bool.{cases_Bool, eqb-true, false_from_ne_true, le-ltb, lt-ltb, ltb-false, ltb-true}
pub use Rattle.std.proofs.lemmas.List.{get_or-set_other, get_or-set_same, length-map, map-append, take_all, take_more}
pub use Rattle.std.proofs.lemmas.List.Folds.{find-append, find_at, list_any-append}
pub use Rattle.std.specs.List.{All, AllByRecursion, find, list_all, position_or_len}
unfoldable pub use Rattle.std.specs.List.{IsDistinct}
pub use Rattle.std.specs.Map.{keys_of, lookup, set_value, values_of}
pub use Rattle.std.specs.Option.{option_and_then, option_map, option_map_or, option_or}
pub use Rattle.indexmap.specs.IndexMap.{insert_entry, set_value_at}
pub use Rattle.gu_limits.specs.Changes.{Charges, MayCharge, MayReturn, Returns, SameLimits, SameUses, Sets, limits_after_charge, limits_after_return, limits_after_setting, limits_of_new_day, lots_under}
pub use Rattle.gu_limits.specs.Kept.{IsWithin, limit_on, set_to, unused, used_on}
pub use Rattle.gu_limits.specs.Limits.{AreLimitsOf, GroupLimit, has_limit, is_of, limit_and_use, limit_for, limit_in, number_in, room_in, same_limit, same_place, used_in}
pub use Rattle.gu_limits.specs.declared.table.GroupKey.{GroupKey}
pub use Rattle.gu_limits.specs.declared.table.KeptLimit.{KeptLimit}
pub use Rattle.gu_terms.proofs.KeyLemmas.{eq_is, key_eq-refl, key_eq-same, key_eq-sym}
pub use Rattle.gu_terms.proofs.SameNames.{same_account-true, same_firm-true, same_group-own, same_group-true}
pub use Rattle.gu_terms.specs.LimitKeys.{has_key, key_eq}
pub use Rattle.gu_terms.specs.Same.{same_account, same_agreement, same_firm, same_group}
pub use Rattle.gu_terms.specs.declared.agreement.AgreementId.{AgreementId}
pub use Rattle.gu_terms.specs.declared.group.Group.{Group}
pub use Rattle.gu_terms.specs.declared.limit_key.LimitKey.{LimitKey}
