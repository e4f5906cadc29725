-- Texts written to a sink, one after another.
use Rattle.gu_keeping.proofs.Words.{◌≡◌, ◌++◌, ◌∷◌, [], ◌∙◌, ◌||◌, ◌==◌, inl, inr, ⊎_elim, ℕ, Bool, true, false, List, Option, Some, refl, sym, ap, subst, append_assoc, arith, if◌then◌else◌, IsWholeLines, ends_line, whole_lines, Writes}
use Rattle.gu_journal.specs.Crashes.{LeavesOnly}
use Rattle.gu_journal.specs.Sink.{HasBegun}
use Rattle.gu_keeping.proofs.Cuts.{rest_whole}

-- ---- whole lines

or_left : (b c : Bool) → b ≡ true → (b || c) ≡ true
or_left true c is = refl
or_left false c is = absurd (cc)

or_right : (b c d : Bool) → (b || c) ≡ true → (c ≡ true → d ≡ true) → (b || d) ≡ true
or_right true c d is later = refl
or_right false c d is later = later is

ends_append : (xs ys : List ℕ) → ends_line xs ≡ true → ends_line (xs ++ ys) ≡ true
ends_append [] ys ends = absurd (cc)
ends_append (x ∷ xs) ys ends = or_right (x == 10) (ends_line xs) (ends_line (xs ++ ys)) ends (ends_append xs ys)

pub whole_append : (xs ys : List ℕ) → IsWholeLines xs → IsWholeLines ys → IsWholeLines (xs ++ ys)
whole_append [] ys first second = second
whole_append (x ∷ xs) ys first second =
    let parts = rest_whole x xs first in
    let ends : ends_line (x ∷ (xs ++ ys)) ≡ true = ends_append (x ∷ xs) ys parts.0 in
    ap (λ (t : Bool). if t then x ∷ whole_lines (xs ++ ys) else []) ends ∙ ap (λ (l : List ℕ). x ∷ l) (whole_append xs ys parts.1 second)

-- ---- prefixes

pub begun_more : (kept text more : List ℕ) (outcome : Option (List ℕ)) → HasBegun kept text outcome → HasBegun kept (text ++ more) outcome
begun_more kept text more outcome begun = record {
  lines = begun.lines;
  rest = begun.rest ++ more;
  batch_is = ap (λ (t : List ℕ). t ++ more) begun.batch_is ∙ append_assoc begun.lines begun.rest more;
  whole = begun.whole;
  outcome_is = begun.outcome_is;
}

pub begun_later : (kept text more : List ℕ) (outcome : Option (List ℕ)) → IsWholeLines text → HasBegun (kept ++ text) more outcome → HasBegun kept (text ++ more) outcome
begun_later kept text more outcome whole begun = record {
  lines = text ++ begun.lines;
  rest = begun.rest;
  batch_is = ap (λ (t : List ℕ). text ++ t) begun.batch_is ∙ sym (append_assoc text begun.lines begun.rest);
  whole = whole_append text begun.lines whole begun.whole;
  outcome_is = begun.outcome_is ∙ ap (λ (t : List ℕ). Some t) (append_assoc kept text begun.lines);
}

-- ---- one text after another

module _ {P : Type 0} (is_honest : P → Type 0) (moment : P → ℕ) (left_since : P → ℕ → Option (List ℕ) → Type 0) where
  weaker : (old new : P) (A B : Option (List ℕ) → Type 0) → LeavesOnly moment left_since old new A → ((c : Option (List ℕ)) → A c → B c) → LeavesOnly moment left_since old new B
  weaker old new A B run implies = record {
    later = run.later;
    each = λ c left. implies c (run.each c left);
    before = λ t c le left. ⊎_elim (λ l. inl l) (λ p. inr (implies c p)) (run.before t c le left);
  }

  then_too : (old mid new : P) (A : Option (List ℕ) → Type 0) → LeavesOnly moment left_since old mid A → LeavesOnly moment left_since mid new A → LeavesOnly moment left_since old new A
  then_too old mid new A first second = record {
    later = omega (arith, first.later, second.later);
    each = λ c left. ⊎_elim (first.each c) (λ p. p) (second.before (moment old) c first.later left);
    before = λ t c le left. ⊎_elim (first.before t c le) (λ p. inr p) (second.before t c (omega (arith, le, first.later)) left);
  }

  pub write_after : (old mid new : P) (kept kept_mid text more : List ℕ) → (is_honest new → is_honest mid) → (is_honest mid → kept_mid ≡ kept ++ text) → IsWholeLines text
      → Writes is_honest moment left_since old mid kept text → Writes is_honest moment left_since mid new kept_mid more
      → Writes is_honest moment left_since old new kept (text ++ more)
  write_after old mid new kept kept_mid text more honest is whole first second now =
      let was = honest now in
      let later = subst (λ (k : List ℕ). LeavesOnly moment left_since mid new (HasBegun k more)) (is was) (second now) in
      then_too old mid new (HasBegun kept (text ++ more))
      (weaker old mid (HasBegun kept text) (HasBegun kept (text ++ more)) (first was) (λ c. begun_more kept text more c))
      (weaker mid new (HasBegun (kept ++ text) more) (HasBegun kept (text ++ more)) later (λ c. begun_later kept text more c whole))
