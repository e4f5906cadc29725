-- One more byte in a pass over a file.
use Rattle.std.proofs.Common.{IsTrue, nat_eq, zero, ◌-◌, length-append, ◌≡◌, ◌≢◌, inl, inr, ℕ, suc, ◌+◌, ◌<◌, ◌≤◌, Bool, true, false, ◌||◌, ◌&&◌, List, [], ◌∷◌, ◌++◌, length, take, drop, get_or, refl, sym, ◌∙◌, ap, subst, arith, if◌then◌else◌, ◌==◌, append-nil, take-append-drop}
use Rattle.std.proofs.lemmas.Bool.Decides.{nat_tests}
use Rattle.std.proofs.lemmas.List.{take_all, take_more, length-take}
use Rattle.std.proofs.Math.Seq.{drop-cons}
use Rattle.gu_journal.specs.Text.{HasNoZero, IsWholeLines, before_zero, ends_line, used_length, whole_lines}
use Rattle.gu_journal.proofs.Texts.{at_zero, before_zero-text, no_zero-append, no_zero-before_zero, used_more, used_on, bool_cases, lines_more, lines_none, lines_then}

pub no_zero-push : (xs : List ℕ) (byte : ℕ) → HasNoZero xs → byte ≢ 0 → HasNoZero (xs ++ byte ∷ [])
no_zero-push xs byte none isnt = no_zero-append xs (byte ∷ []) none (isnt, tt)

-- a text whose last byte ends a line is whole
pub ended : (xs : List ℕ) → whole_lines (xs ++ 10 ∷ []) ≡ xs ++ 10 ∷ []
ended [] = refl
ended (x ∷ xs) =
    let ends : ends_line (x ∷ (xs ++ 10 ∷ [])) ≡ true = ends_pushed (x ∷ xs) in
    lines_more x (xs ++ 10 ∷ []) ends ∙ ap (λ (l : List ℕ). x ∷ l) (ended xs)
  where
    ends_pushed : (ys : List ℕ) → ends_line (ys ++ 10 ∷ []) ≡ true
    ends_pushed [] = refl
    ends_pushed (y ∷ ys) = elim (bool_cases (y == 10)) [
      | inl is ↦ ap (λ (b : Bool). b || ends_line (ys ++ 10 ∷ [])) is
      | inr isnt ↦ ap (λ (b : Bool). b || ends_line (ys ++ 10 ∷ [])) isnt ∙ ends_pushed ys
    ]

same_ends : (xs : List ℕ) (byte : ℕ) → (byte == 10) ≡ false → ends_line (xs ++ byte ∷ []) ≡ ends_line xs
same_ends [] byte isnt = ap (λ (b : Bool). b || false) isnt
same_ends (x ∷ xs) byte isnt = ap (λ (b : Bool). x == 10 || b) (same_ends xs byte isnt)

-- another byte adds no line
pub not_ended : (xs : List ℕ) (byte : ℕ) → (byte == 10) ≡ false → whole_lines (xs ++ byte ∷ []) ≡ whole_lines xs
not_ended [] byte isnt = lines_none (byte ∷ []) (ap (λ (b : Bool). b || false) isnt)
not_ended (x ∷ xs) byte isnt = elim (bool_cases (ends_line (x ∷ xs))) [
  | inl ends ↦ lines_more x (xs ++ byte ∷ []) (same_ends (x ∷ xs) byte isnt ∙ ends) ∙ ap (λ (l : List ℕ). x ∷ l) (not_ended xs byte isnt) ∙ sym (lines_more x xs ends)
  | inr none ↦ lines_none (x ∷ (xs ++ byte ∷ [])) (same_ends (x ∷ xs) byte isnt ∙ none) ∙ sym (lines_none (x ∷ xs) none)
]

pub used-push : (xs : List ℕ) (byte : ℕ) → byte ≢ 0 → used_length (xs ++ byte ∷ []) ≡ length xs + 1
used-push [] byte isnt = used_more byte [] isnt
used-push (x ∷ xs) byte isnt =
    let later = used-push xs byte isnt in
    let here = used_on x (xs ++ byte ∷ []) (omega arith) in
    omega (arith, here, later)

pub used-push_zero : (xs : List ℕ) → used_length (xs ++ 0 ∷ []) ≡ used_length xs
used-push_zero [] = refl
used-push_zero (x ∷ xs) = ap (λ (n : ℕ). if x == 0 && n == 0 then 0 else n + 1) (used-push_zero xs)

-- steps of the passes

pub no_zero_more : (xs : List ℕ) (i : ℕ) → i < length xs → HasNoZero (take i xs) → get_or xs i 0 ≢ 0 → HasNoZero (take (i + 1) xs)
no_zero_more xs i lt none isnt = subst HasNoZero (sym (take_more xs i 0 lt)) (no_zero-push (take i xs) (get_or xs i 0) none isnt)

-- no byte is 0 if a search of the first bytes finds none
pub none_within : (xs : List ℕ) (n : ℕ) → n ≤ length xs → ((k : ℕ) → 0 ≤ k → k < n → (get_or xs k 0 == 0) ≡ true → ⊥) → HasNoZero (take n xs)
none_within xs zero within nowhere = tt
none_within xs (suc n) within nowhere =
    let before = none_within xs n (omega (arith, within)) (λ k low lt. nowhere k low (omega (arith, lt))) in
    let here : get_or xs n 0 ≢ 0 = λ is. nowhere n (omega arith) (omega arith) (ap (λ (b : ℕ). b == 0) is) in
    let next : n + 1 ≡ suc n = omega arith in
    subst (λ (m : ℕ). HasNoZero (take m xs)) next (no_zero_more xs n (omega (arith, within)) before here)

pub zero_found : (xs : List ℕ) (i : ℕ) → i < length xs → HasNoZero (take i xs) → get_or xs i 0 ≡ 0 → take i xs ≡ before_zero xs
zero_found xs i lt none is =
    let rest : before_zero (drop i xs) ≡ [] = ap before_zero (drop-cons xs i 0 lt) ∙ at_zero (get_or xs i 0) (drop (suc i) xs) is in
    sym (append-nil (take i xs)) ∙ ap (λ (l : List ℕ). take i xs ++ l) (sym rest) ∙ sym (before_zero-text (take i xs) (drop i xs) none) ∙ ap before_zero (take-append-drop i xs)

pub no_zero_found : (xs : List ℕ) → HasNoZero (take (length xs) xs) → take (length xs) xs ≡ before_zero xs
no_zero_found xs none =
    let all : take (length xs) xs ≡ xs = take_all (length xs) xs (omega arith) in
    let nothing : HasNoZero xs = subst HasNoZero all none in
    all ∙ sym (ap before_zero (sym (append-nil xs)) ∙ before_zero-text xs [] nothing ∙ append-nil xs)

pub line_ended : (xs : List ℕ) (end i : ℕ) → i < length xs → get_or xs i 0 ≡ 10 → end ≡ i + 1 → take end xs ≡ whole_lines (take (i + 1) xs)
line_ended xs end i lt is end_is =
    let more : take (i + 1) xs ≡ take i xs ++ 10 ∷ [] = take_more xs i 0 lt ∙ ap (λ (b : ℕ). take i xs ++ b ∷ []) is in
    ap (λ (n : ℕ). take n xs) end_is ∙ more ∙ sym (ended (take i xs)) ∙ ap whole_lines (sym more)

pub no_line_here : (xs : List ℕ) (i : ℕ) → i < length xs → get_or xs i 0 ≢ 10 → whole_lines (take (i + 1) xs) ≡ whole_lines (take i xs)
no_line_here xs i lt isnt =
    let not_ten : (get_or xs i 0 == 10) ≡ false = grind (arith, nat_tests) in
    ap whole_lines (take_more xs i 0 lt) ∙ not_ended (take i xs) (get_or xs i 0) not_ten

pub used_here : (xs : List ℕ) (i : ℕ) → i < length xs → get_or xs i 0 ≢ 0 → i + 1 ≡ used_length (take (i + 1) xs)
used_here xs i lt isnt =
    let is : used_length (take (i + 1) xs) ≡ length (take i xs) + 1 = ap used_length (take_more xs i 0 lt) ∙ used-push (take i xs) (get_or xs i 0) isnt in
    omega (arith, is, length-take i xs)

pub used_not_here : (xs : List ℕ) (i : ℕ) → i < length xs → get_or xs i 0 ≡ 0 → used_length (take (i + 1) xs) ≡ used_length (take i xs)
used_not_here xs i lt is =
    ap used_length (take_more xs i 0 lt) ∙ ap used_length (ap (λ (b : ℕ). take i xs ++ b ∷ []) is) ∙ used-push_zero (take i xs)

-- results at the ends of the passes

pub eq_of : (a b : ℕ) → IsTrue (nat_eq a b) → a ≡ b
eq_of a b is = grind (arith, nat_tests)

is_of : (a b : ℕ) → a ≡ b → IsTrue (nat_eq a b)
is_of a b is = grind (arith, nat_tests)

pub no_zero_if : (xs : List ℕ) (n : ℕ) → take n xs ≡ before_zero xs → IsTrue (nat_eq n (length xs)) → HasNoZero xs
no_zero_if xs n before is =
    let whole : before_zero xs ≡ xs = sym before ∙ take_all n xs (omega (arith, eq_of n (length xs) is)) in
    subst HasNoZero whole (no_zero-before_zero xs)

pub only_if_no_zero : (xs : List ℕ) (n : ℕ) → n ≤ length xs → take n xs ≡ before_zero xs → HasNoZero xs → IsTrue (nat_eq n (length xs))
only_if_no_zero xs n within before none =
    let whole : before_zero xs ≡ xs = sym (ap before_zero (append-nil xs)) ∙ before_zero-text xs [] none ∙ append-nil xs in
    is_of n (length xs) (omega (arith, within, length-take n xs, ap length (before ∙ whole)))

-- a text whose last byte doesn't end a line isn't whole
last_ends : (ys : List ℕ) (byte : ℕ) → IsWholeLines (ys ++ byte ∷ []) → IsTrue (nat_eq byte 10)
last_ends ys byte whole = elim (bool_cases (byte == 10)) [
  | inl is ↦ is
  | inr isnt ↦ absurd (omega (arith, ap length (lines_then ys), length-append (whole_lines ys) (drop (length (whole_lines ys)) ys), ap length (sym whole ∙ not_ended ys byte isnt), length-append ys (byte ∷ [])))
]

-- a non-empty text is its first bytes and the last
split_last : (xs : List ℕ) → 1 ≤ length xs → xs ≡ take (length xs - 1) xs ++ get_or xs (length xs - 1) 0 ∷ []
split_last xs some =
    sym (take_all (length xs - 1 + 1) xs (omega (arith, some))) ∙ take_more xs (length xs - 1) 0 (omega (arith, some))

pub whole_by_last : (xs : List ℕ) → 1 ≤ length xs → IsTrue (nat_eq (get_or xs (length xs - 1) 0) 10) → IsWholeLines xs
whole_by_last xs some is =
    let parts : xs ≡ take (length xs - 1) xs ++ 10 ∷ [] = split_last xs some ∙ ap (λ (b : ℕ). take (length xs - 1) xs ++ b ∷ []) (eq_of _ 10 is) in
    ap whole_lines parts ∙ ended (take (length xs - 1) xs) ∙ sym parts

pub last_by_whole : (xs : List ℕ) → 1 ≤ length xs → IsWholeLines xs → IsTrue (nat_eq (get_or xs (length xs - 1) 0) 10)
last_by_whole xs some whole =
    let parts = split_last xs some in
    last_ends (take (length xs - 1) xs) _ (ap whole_lines (sym parts) ∙ whole ∙ parts)
