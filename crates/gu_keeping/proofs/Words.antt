-- The words of the proofs: from the library, the crates below, and this crate's definitions.
pub use Rattle.std.proofs.Common.{Bool, Err, IsTrue, List, None, Ok, OnOk, Option, Result, Some, [], ap, append-nil, append_assoc, arith, drop, false, get_or, if◌then◌else◌, inl, inr, length, length-append, map, nat_le, refl, slice_index, subst, suc, sym, take, take-append-drop, true, zero, ℕ, ⊎_elim, ◌%◌, ◌&&◌, ◌*◌, ◌++◌, ◌+◌, ◌-◌, ◌/◌, ◌<◌, ◌==◌, ◌^◌, ◌||◌, ◌∙◌, ◌∷◌, ◌≡◌, ◌≢◌, ◌≤◌, ◌⊎◌}
pub use Rattle.std.proofs.lemmas.Fmt.{decimal_nonempty, digits_decimal, digits_value-decimal, length-decimal-le}
pub use Rattle.std.proofs.lemmas.Grind.{flat_map-append}
pub use Rattle.std.proofs.lemmas.List.{drop-append-le, drop_all, take-append-le, take-take, take_all, take_at, take_more}
pub use Rattle.std.specs.Fmt.{decimal}
pub use Rattle.std.specs.List.{AllByRecursion, flat_map}
pub use Rattle.std.specs.Prelude.{MatchOption, codes, not, slice_get}
pub use Rattle.std.specs.Str.Lines.{lines, strip_carriage_return}
pub use Rattle.std.specs.Str.Parse.{AllDigits, digits_value}
pub use Rattle.gu_desk.specs.declared.origin.Origin.{Origin}
pub use Rattle.gu_journal.specs.Text.{IsWholeLines, ends_line, whole_lines}
pub use Rattle.gu_keeping.specs.Batches.{AreEntryRows, AreOriginRows, AreRows, IsBatchText, IsOriginRow, digest_row, message_words}
pub use Rattle.gu_keeping.specs.Chains.{IsChainOf, IsCutTo, chain_after, chain_after_all, empty_chain, open_from, shown_after, shown_text}
pub use Rattle.gu_keeping.specs.Digests.{AgreeTo, chain_to, digest_line, entries_between, is_digest_line}
pub use Rattle.gu_keeping.specs.Keeping.{AreBatches, IfStopped, IsNextBatch, IsOpening, Writes, kept_entries, unknown_origins}
pub use Rattle.gu_keeping.specs.Making.{AddsEntry, AddsToLink, IsBatchOf, IsLinkOf}
pub use Rattle.gu_keeping.specs.declared.chain.Chain.{Chain}
pub use Rattle.gu_script.specs.Journals.{IsWritableEntry, command_said, days_apart, entry_rows, entry_said, open_after, rows_apart, said_after}
pub use Rattle.gu_terms.specs.declared.day.Day.{Day}
pub use Rattle.gu_terms.specs.declared.entry.Entry.{Entry}
pub use Rattle.gu_text.proofs.LineFeedLaws.{ended_lines-alone, ended_lines-parted, leaves_after, leaves_all, leaves_on, leaves_with, lines-left, lines-parted}
pub use Rattle.gu_text.specs.LineFeeds.{HasNoLineFeed, IsParted, LeavesOpen, ended_lines}
pub use Rattle.gu_text.specs.ReadBack.{AreWords, IsWord, is_word_byte, joined}
pub use Rattle.gu_text.specs.Texts.{last_word, line_of, word}
pub use Rattle.gu_text.specs.declared.script_line.Line.{Line}
pub use Rattle.sha2.specs.Sha256.{final_hash, initial_hash_256}
unfoldable pub use Rattle.sha2.specs.Sha256.{digest_bytes, sha256}
