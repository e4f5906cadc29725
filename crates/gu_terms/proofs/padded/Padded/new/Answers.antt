use Rattle.std.proofs.Common.{◌≡◌, ℕ, ◌-◌, ◌≤◌, ◌++◌, List, length, drop, arith, length-append}
use Rattle.std.proofs.lemmas.List.{drop-replicate, length-replicate}
use Rattle.std.proofs.Math.Seq.{drop-append_seam}
use Rattle.std.specs.Prelude.{replicate}
use Rattle.gu_terms.specs.Padded.{IsPadded}
use Rattle.gu_terms.proofs.padded.Padded.new.Goals as goal

-- a text that fits, written over leading zeros
text_over_zeros : (size : ℕ) (text copied : List ℕ) → copied ≡ text → length text ≤ size
    → IsPadded size (copied ++ drop (length text) (replicate size 0)) (length text)
text_over_zeros size text copied same fits = rw (same, drop-replicate {X = ℕ} (length text) size 0) (record {
  size_is = omega (arith, length-append text (replicate (size - length text) 0), length-replicate {A = ℕ} (size - length text) 0);
  within = fits;
  zeros = drop-append_seam text (replicate (size - length text) 0);
})

pub invariant_of-result : goal.invariant_of-result
invariant_of-result c c' =
    text_over_zeros c.row.N c'.args.text.now c'.copy_from_slice.new.self c'.copy_from_slice.ensures.after c'.requires.fits
