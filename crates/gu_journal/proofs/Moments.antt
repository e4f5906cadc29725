-- Sequences of calls.
use Rattle.std.proofs.Common.{inl, inr, ⊎_elim, ℕ, arith}
use Rattle.gu_journal.specs.Crashes.{Elapses, LeavesOnly}

module _ {D X : Type 0} (moment : D → ℕ) (left_since : D → ℕ → X → Type 0) where
  -- before the first call
  pub started : (old : D) (P : X → Type 0) → ((c : X) → left_since old (moment old) c → P c) → LeavesOnly moment left_since old old P
  started old P here = record { later = omega arith; each = here; before = λ t c le left. inl left }

  -- one more call, after which a crash leaves something with property P
  pub goes_on : (old mid new : D) (P may_leave : X → Type 0) → LeavesOnly moment left_since old mid P → Elapses moment left_since mid new may_leave
      → ((c : X) → may_leave c → P c) → LeavesOnly moment left_since old new P
  goes_on old mid new P may_leave so_far time here = record {
    later = omega (arith, so_far.later, time.later);
    each = λ c left. ⊎_elim (so_far.each c) (here c) (time.nothing_else (moment old) c so_far.later left);
    before = λ t c le left. ⊎_elim (so_far.before t c le) (λ now. inr (here c now)) (time.nothing_else t c (omega (arith, le, so_far.later)) left);
  }

  -- more calls
  pub then_too : (old mid new : D) (P : X → Type 0) → LeavesOnly moment left_since old mid P → LeavesOnly moment left_since mid new P → LeavesOnly moment left_since old new P
  then_too old mid new P first second = record {
    later = omega (arith, first.later, second.later);
    each = λ c left. ⊎_elim (first.each c) (λ p. p) (second.before (moment old) c first.later left);
    before = λ t c le left. ⊎_elim (first.before t c le) (λ p. inr p) (second.before t c (omega (arith, le, first.later)) left);
  }

  -- property P implies Q
  pub weaker : (old new : D) (P Q : X → Type 0) → LeavesOnly moment left_since old new P → ((c : X) → P c → Q c) → LeavesOnly moment left_since old new Q
  weaker old new P Q run implies = record {
    later = run.later;
    each = λ c left. implies c (run.each c left);
    before = λ t c le left. ⊎_elim (λ l. inl l) (λ p. inr (implies c p)) (run.before t c le left);
  }
