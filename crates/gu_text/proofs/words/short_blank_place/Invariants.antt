use Rattle.std.proofs.Common.{◌≡◌, ◌<◌, ℕ, false, slice_index_or}
use Rattle.gu_text.specs.Words.{is_blank}
use Rattle.gu_text.proofs.words.short_blank_place.Given as goal

abbrev pub invariant-loop-place : goal.invariant-loop-place
invariant-loop-place l = (k : ℕ) → k < l.place → is_blank (slice_index_or l.text k 0) ≡ false
