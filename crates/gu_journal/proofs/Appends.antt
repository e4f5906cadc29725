-- Room is made for a batch, and then the batch is written.
use Rattle.std.proofs.Common.{◌≡◌, inl, inr, ⊎_elim, ℕ, ◌^◌, ◌≤◌, List, [], length, Option, Some, Result, Ok, Err, IfOk, IfErr, refl, sym, ◌∙◌, ap, subst, arith, append-nil}
use Rattle.gu_journal.specs.Crashes.{LeavesOnly}
use Rattle.gu_journal.specs.Log.{Finds, found_since}
use Rattle.gu_journal.specs.Sink.{HasBegun, HasReason, no_refusals}
use Rattle.gu_journal.specs.Text.{found}
use Rattle.gu_journal.specs.declared.sink.SinkError.{SinkError}
use Rattle.gu_journal.specs.declared.stopped.Stopped.{Stopped}
use Rattle.gu_journal.proofs.Moments.{then_too, weaker}

pub ok_implies : {T E : Type 0} (P Q : T → Type 0) (result : Result T E) → IfOk result P → ((x : T) → P x → Q x) → IfOk result Q
ok_implies P Q (Ok x) is implies = implies x is
ok_implies P Q (Err e) is implies = is

pub err_implies : {T E : Type 0} (P Q : E → Type 0) (result : Result T E) → IfErr result P → ((e : E) → P e → Q e) → IfErr result Q
err_implies P Q (Ok x) is implies = is
err_implies P Q (Err e) is implies = implies e is

pub ok_both : {T E : Type 0} (P Q : T → Type 0) (result : Result T E) → IfOk result P → IfOk result Q → IfOk result (λ x. P x × Q x)
ok_both P Q (Ok x) p q = (p, q)
ok_both P Q (Err e) p q = p

pub err_both : {T E : Type 0} (P Q : E → Type 0) (result : Result T E) → IfErr result P → IfErr result Q → IfErr result (λ e. P e × Q e)
err_both P Q (Ok x) p q = p
err_both P Q (Err e) p q = (p, q)

-- before the batch is started
pub none_begun : (kept batch : List ℕ) (c : List ℕ) → Finds kept c → HasBegun kept batch (found c)
none_begun kept batch c finds = record { lines = []; rest = batch; batch_is = refl; whole = refl; outcome_is = finds ∙ ap (λ (l : List ℕ). Some l) (sym (append-nil kept)) }

module _ {D : Type 0} (moment : D → ℕ) (left_since : D → ℕ → List ℕ → Type 0) where
  -- what is found, given what is left
  pub as_found : (old new : D) (P : Option (List ℕ) → Type 0) → LeavesOnly moment left_since old new (λ c. P (found c)) → LeavesOnly moment (found_since left_since) old new P
  as_found old new P run = record {
    later = run.later;
    each = λ outcome left. subst P (sym left.2) (run.each left.0 left.1);
    before = λ t outcome le left. ⊎_elim (λ was. inl (left.0, was, left.2)) (λ p. inr (subst P (sym left.2) p)) (run.before t left.0 le left.1);
  }

  pub begun_after : (old mid new : D) (kept kept' batch : List ℕ) → kept' ≡ kept → LeavesOnly moment left_since old mid (Finds kept)
      → LeavesOnly moment left_since mid new (λ c. HasBegun kept' batch (found c)) → LeavesOnly moment (found_since left_since) old new (HasBegun kept batch)
  begun_after old mid new kept kept' batch same first second =
      let P : List ℕ → Type 0 = λ c. HasBegun kept batch (found c) in
      as_found old new (HasBegun kept batch)
      (then_too moment left_since old mid new P (weaker moment left_since old mid (Finds kept) P first (none_begun kept batch))
      (weaker moment left_since mid new (λ c. HasBegun kept' batch (found c)) P second (λ c is. subst (λ (l : List ℕ). HasBegun l batch (found c)) same is)))

  pub begun_none : (old new : D) (kept batch : List ℕ) → LeavesOnly moment left_since old new (Finds kept) → LeavesOnly moment (found_since left_since) old new (HasBegun kept batch)
  begun_none old new kept batch run =
      as_found old new (HasBegun kept batch) (weaker moment left_since old new (Finds kept) (λ c. HasBegun kept batch (found c)) run (none_begun kept batch))

-- a reason that came later
pub later_reason : {D : Type 0} (failures shortages : D → ℕ) (kept kept' : List ℕ) (old mid : D) (stopped : Stopped D SinkError) → kept' ≡ kept → failures old ≤ failures mid → shortages old ≤ shortages mid
    → HasReason failures no_refusals shortages kept' mid stopped → HasReason failures no_refusals shortages kept old stopped
later_reason failures shortages kept kept' old mid stopped same fewer less reason = record {
  failed = λ is. omega (arith, fewer, reason.failed is);
  full = λ is. ⊎_elim (λ short. inl (omega (arith, less, short))) (λ long. inr (subst (λ (l : List ℕ). 2 ^ 63 ≤ length l) same long)) (reason.full is);
  fenced = λ is. reason.fenced is;
}
