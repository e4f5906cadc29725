-- An error of a counted reader stops the reading.
use Rattle.std.proofs.Common.{◌≡◌, ◌-◌, Bool, true, false, ◌&&◌, ◌||◌, not, Result, refl, ap, ◌∙◌, inl, inr, arith}
use Rattle.std.specs.Result.{is_err}
use Rattle.std.proofs.lemmas.Bool.{eq-eqb, eqb-true}
use Rattle.std.proofs.Math.Bool.{or-true}
use Rattle.gu_streams.specs.declared.counted_reads.CountedReads.{CountedReads}
use Rattle.gu_streams.specs.Reads.{reads_left, has_failed, is_spent, HasStopped}

-- either the reader failed, or no reads were left, and none are afterwards
pub an_error_stops : {R T E : Type 0} (old new : CountedReads R) (read : Result T E) → is_err read ≡ true
    → reads_left new ≡ reads_left old - 1 → has_failed new ≡ (has_failed old || is_err read && not (is_spent old)) → HasStopped new
an_error_stops old new read error counted failed = at (is_spent old) refl
  where
    at : (b : Bool) → is_spent old ≡ b → HasStopped new
    at true e = inr (eq-eqb (reads_left new) 0 (omega (arith, counted, eqb-true (reads_left old) 0 e)))
    at false e = inl (failed ∙ ap (λ b. has_failed old || b && not (is_spent old)) error ∙ ap (λ b. has_failed old || true && not b) e ∙ or-true (has_failed old))
