-- Things answered in order.
use Rattle.gu_engine.proofs.Words.{◌≡◌, ℕ, List, [], ◌∷◌, ◌++◌, length, refl, sym, ap, subst, ◌∙◌, append_assoc, arith, append-nil, AnswersEach}

-- a list of 0 elements is empty
none_left : {X : Type 0} (xs : List X) (count : ℕ) → count ≡ length xs → count ≡ 0 → xs ≡ []
none_left [] count is none = refl
none_left (x ∷ xs) count is none = absurd (omega arith)

-- everything was taken if nothing is left
pub all_taken : {X : Type 0} (all taken left : List X) (count : ℕ) → all ≡ taken ++ left → count ≡ length left → count ≡ 0 → taken ≡ all
all_taken {X} all taken left count parts is none = sym (append-nil taken) ∙ ap (λ (xs : List X). taken ++ xs) (sym (none_left left count is none)) ∙ sym parts

module _ {S X : Type 0} (answers : S → X → List ℕ → S → Type 0) where
  -- some of them, and then others
  pub each_then : (old mid new : S) (first others : List X) (text more : List ℕ) → AnswersEach answers old first text mid → AnswersEach answers mid others more new → AnswersEach answers old (first ++ others) (text ++ more) new
  each_then old mid new [] others text more before behind =
      subst (λ (t : List ℕ). AnswersEach answers old others (t ++ more) new) (sym before.0) (subst (λ (s : S). AnswersEach answers s others more new) before.1 behind)
  each_then old mid new (x ∷ first) others text more (one, rest, next, step, parts, later) behind =
      (one, rest ++ more, next, step, ap (λ (t : List ℕ). t ++ more) parts ∙ append_assoc one rest more, each_then next mid new first others rest more later behind)

  -- one of them
  pub each_one : (old new : S) (x : X) (text : List ℕ) → answers old x text new → AnswersEach answers old (x ∷ []) text new
  each_one old new x text step = (text, [], new, step, sym (append-nil text), (refl, refl))

  -- some of them, and then one
  pub each_more : (old mid new : S) (first : List X) (x : X) (text more : List ℕ) → AnswersEach answers old first text mid → answers mid x more new → AnswersEach answers old (first ++ x ∷ []) (text ++ more) new
  each_more old mid new first x text more before step = each_then old mid new first (x ∷ []) text more before (each_one mid new x more step)
