use Rattle.std.proofs.Common.{◌≡◌, ◌-◌, ◌<◌, ℕ, false, slice_index_or}
use Rattle.gu_text.specs.Words.{is_blank}
use Rattle.gu_text.proofs.words.long_blank_place.Given as goal

abbrev pub invariant-eights : goal.invariant-eights
invariant-eights l = (k : ℕ) → k < l.place → is_blank (slice_index_or l.text k 0) ≡ false

abbrev pub decreases-eights : goal.decreases-eights
decreases-eights l = l.last - l.place
