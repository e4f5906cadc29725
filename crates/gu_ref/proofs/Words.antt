-- The words of the proofs: from the library, the crates below, and this crate's definitions.
pub use Rattle.std.proofs.Common.{Bool, Err, List, None, Ok, OnErr, OnOk, Option, Result, Some, [], ap, arith, codes, cond, false, if◌then◌else◌, inl, inr, is_some, length, length-append, map, nat_le, not, refl, rules, slice_get, slice_index_or, subst, suc, sym, take, true, zero, ℕ, ◌&&◌, ◌++◌, ◌+◌, ◌<◌, ◌||◌, ◌∙◌, ◌∷◌, ◌≡◌, ◌≢◌, ◌≤◌, ◌⊎◌}
pub use Rattle.std.proofs.lemmas.List.{append-nil, length-map, map-append, take-append-le}
pub use Rattle.std.specs.List.{All, AllByRecursion, AllPass, cons_option, filter_map, find, list_all, list_any}
unfoldable pub use Rattle.std.specs.List.{IsDistinct}
pub use Rattle.std.specs.Map.{keys_of, lookup, values_of}
pub use Rattle.std.specs.Option.{option_map}
pub use Rattle.std.specs.Result.{IfErr, IsErrAnd, is_ok}
pub use Rattle.csv.specs.Reading.{AreRecords, ExplainsRead, ReadRecord, Ready, default_config, error_kind, is_flexible, is_io, reader_config, reader_state, reader_trim, source_of, stops_reader, strip_bom}
unfoldable pub use Rattle.csv.specs.Reading.{Reached}
pub use Rattle.csv.specs.Records.{fields_of}
unfoldable pub use Rattle.csv.specs.Records.{field_at}
pub use Rattle.indexmap.specs.IndexMap.{IndexMap, get, insert_entry, keys, values}
pub use Rattle.gu_ref.specs.Accepted.{is_full, is_known, is_own, is_twice, record_fault, row_fault}
pub use Rattle.gu_ref.specs.File.{AreAccepted, IsFirstFault, IsReadFrom, Refuses, fault_at}
pub use Rattle.gu_ref.specs.Growth.{Passes, outcome_of, row_count, with_record, with_row, with_said}
pub use Rattle.gu_ref.specs.Kept.{IsGuaranteed, IsKept, pair_of}
pub use Rattle.gu_ref.specs.Listed.{agreement_for, agreement_in, guarantor_for, has_firm, is_between, is_guarantor_in}
pub use Rattle.gu_ref.specs.Made.{reference_of, tables_of}
pub use Rattle.gu_ref.specs.Rows.{has_names, name_in, row_of, row_of_names, row_of_one, row_of_three, row_of_two}
pub use Rattle.gu_ref.specs.Tables.{Tables}
pub use Rattle.gu_ref.specs.declared.agreements.Agreement.{Agreement}
pub use Rattle.gu_ref.specs.declared.guarantors.Guarantor.{Guarantor}
pub use Rattle.gu_ref.specs.declared.row.Row.{Row}
pub use Rattle.gu_terms.proofs.Found.{by_name, by_names, distinct-push, found_by_own_name, is_some-find}
pub use Rattle.gu_terms.specs.Same.{same_account, same_agreement, same_firm, same_group, same_symbol}
pub use Rattle.gu_terms.specs.declared.firm.FirmId.{FirmId}
