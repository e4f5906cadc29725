-- Texts, and the zeros after them.
use Rattle.std.proofs.Common.{◌≡◌, ◌≢◌, ◌⊎◌, inl, inr, ℕ, zero, suc, ◌+◌, ◌-◌, ◌≤◌, ◌<◌, Bool, true, false, ◌||◌, List, [], ◌∷◌, ◌++◌, length, replicate, take, drop, refl, sym, ◌∙◌, ap, subst, arith, append_assoc, append-nil, length-append, Some, None, if◌then◌else◌, ◌==◌, nat_le}
use Rattle.std.proofs.lemmas.List.{drop_at}
use Rattle.std.proofs.lemmas.Bool.{cases_eq, leb-true}
use Rattle.std.proofs.lemmas.Bool.Decides.{nat_tests}
use Rattle.gu_journal.specs.Text.{HasNoZero, before_zero, ends_line, whole_lines, IsWholeLines, text_of, used_length, torn_length, found}
use Rattle.gu_journal.specs.declared.sink.TheConstants.{MAX_BATCH}

pub at_zero : (byte : ℕ) (rest : List ℕ) → byte ≡ 0 → before_zero (byte ∷ rest) ≡ []
at_zero byte rest is = grind (arith, nat_tests)

pub at_byte : (byte : ℕ) (rest : List ℕ) → byte ≢ 0 → before_zero (byte ∷ rest) ≡ byte ∷ before_zero rest
at_byte byte rest isnt = grind (arith, nat_tests)

pub before_zero-text : (text rest : List ℕ) → HasNoZero text → before_zero (text ++ rest) ≡ text ++ before_zero rest
before_zero-text [] rest none = refl
before_zero-text (byte ∷ text) rest none = at_byte byte (text ++ rest) none.0 ∙ ap (λ (l : List ℕ). byte ∷ l) (before_zero-text text rest none.1)

pub no_zero-append : (xs ys : List ℕ) → HasNoZero xs → HasNoZero ys → HasNoZero (xs ++ ys)
no_zero-append [] ys p q = q
no_zero-append (x ∷ xs) ys p q = (p.0, no_zero-append xs ys p.1 q)

pub no_zero-before_zero : (file : List ℕ) → HasNoZero (before_zero file)
no_zero-before_zero [] = tt
no_zero-before_zero (byte ∷ rest) = elim (cases_eq byte 0) [
  | inl is ↦ subst HasNoZero (sym (at_zero byte rest is)) tt
  | inr isnt ↦ subst HasNoZero (sym (at_byte byte rest isnt)) (isnt, no_zero-before_zero rest)
]

-- lines

pub bool_cases : (b : Bool) → (b ≡ true) ⊎ (b ≡ false)
bool_cases true = inl refl
bool_cases false = inr refl

pub lines_more : (byte : ℕ) (rest : List ℕ) → ends_line (byte ∷ rest) ≡ true → whole_lines (byte ∷ rest) ≡ byte ∷ whole_lines rest
lines_more byte rest ends = ap (λ (b : Bool). if b then byte ∷ whole_lines rest else []) ends

pub lines_none : (text : List ℕ) → ends_line text ≡ false → whole_lines text ≡ []
lines_none [] none = refl
lines_none (byte ∷ rest) none = ap (λ (b : Bool). if b then byte ∷ whole_lines rest else []) none

ends_rest : (byte : ℕ) (rest : List ℕ) → ends_line (byte ∷ rest) ≡ false → ends_line rest ≡ false
ends_rest byte rest none = elim (bool_cases (byte == 10)) [
  | inl is ↦ cc
  | inr isnt ↦ ap (λ (b : Bool). b || ends_line rest) (sym isnt) ∙ none
]

ends_more : (byte : ℕ) (rest : List ℕ) → ends_line rest ≡ true → ends_line (byte ∷ rest) ≡ true
ends_more byte rest ends = elim (bool_cases (byte == 10)) [
  | inl is ↦ ap (λ (b : Bool). b || ends_line rest) is
  | inr isnt ↦ ap (λ (b : Bool). b || ends_line rest) isnt ∙ ends
]

pub ends_append : (xs ys : List ℕ) → ends_line xs ≡ true → ends_line (xs ++ ys) ≡ true
ends_append [] ys ends = cc
ends_append (x ∷ xs) ys ends = elim (bool_cases (x == 10)) [
  | inl is ↦ ap (λ (b : Bool). b || ends_line (xs ++ ys)) is
  | inr isnt ↦
      let later : ends_line xs ≡ true = ap (λ (b : Bool). b || ends_line xs) (sym isnt) ∙ ends in
      ends_more x (xs ++ ys) (ends_append xs ys later)
]

pub whole_lines-append : (text rest : List ℕ) → IsWholeLines text → whole_lines (text ++ rest) ≡ text ++ whole_lines rest
whole_lines-append [] rest whole = refl
whole_lines-append (byte ∷ text) rest whole = elim (bool_cases (ends_line (byte ∷ text))) [
  | inl ends ↦
      let cut : byte ∷ whole_lines text ≡ byte ∷ text = sym (lines_more byte text ends) ∙ whole in
      let whole_text : whole_lines text ≡ text = cc in
      lines_more byte (text ++ rest) (ends_append (byte ∷ text) rest ends) ∙ ap (λ (l : List ℕ). byte ∷ l) (whole_lines-append text rest whole_text)
  | inr none ↦
      let nothing : [] ≡ byte ∷ text = sym (lines_none (byte ∷ text) none) ∙ whole in
      cc
]

ends-whole_lines : (text : List ℕ) → ends_line (whole_lines text) ≡ ends_line text
ends-whole_lines [] = refl
ends-whole_lines (byte ∷ rest) = elim (bool_cases (ends_line (byte ∷ rest))) [
  | inl ends ↦ ap ends_line (lines_more byte rest ends) ∙ ap (λ (b : Bool). byte == 10 || b) (ends-whole_lines rest)
  | inr none ↦ ap ends_line (lines_none (byte ∷ rest) none) ∙ sym none
]

-- the lines of a text are whole
pub lines_whole : (text : List ℕ) → IsWholeLines (whole_lines text)
lines_whole [] = refl
lines_whole (byte ∷ rest) = elim (bool_cases (ends_line (byte ∷ rest))) [
  | inl ends ↦
      let kept : ends_line (byte ∷ whole_lines rest) ≡ true = ap (λ (b : Bool). byte == 10 || b) (ends-whole_lines rest) ∙ ends in
      let again : whole_lines (byte ∷ whole_lines rest) ≡ byte ∷ whole_lines rest = lines_more byte (whole_lines rest) kept ∙ ap (λ (l : List ℕ). byte ∷ l) (lines_whole rest) in
      subst IsWholeLines (sym (lines_more byte rest ends)) again
  | inr none ↦ subst IsWholeLines (sym (lines_none (byte ∷ rest) none)) refl
]

no_zero-whole_lines : (text : List ℕ) → HasNoZero text → HasNoZero (whole_lines text)
no_zero-whole_lines [] none = tt
no_zero-whole_lines (byte ∷ rest) none = elim (bool_cases (ends_line (byte ∷ rest))) [
  | inl ends ↦ subst HasNoZero (sym (lines_more byte rest ends)) (none.0, no_zero-whole_lines rest none.1)
  | inr isnt ↦ subst HasNoZero (sym (lines_none (byte ∷ rest) isnt)) tt
]

-- a text that ends no line has no lines, nor has a prefix of it
pub none_begun : (text rest : List ℕ) → whole_lines (text ++ rest) ≡ [] → whole_lines text ≡ []
none_begun text rest none = elim (bool_cases (ends_line text)) [
  | inl ends ↦
      let as_ends : ends_line (text ++ rest) ≡ true = ends_append text rest ends in
      let nothing : ends_line (whole_lines (text ++ rest)) ≡ false = ap ends_line none in
      let kept : ends_line (whole_lines (text ++ rest)) ≡ ends_line (text ++ rest) = ends-whole_lines (text ++ rest) in
      cc
  | inr isnt ↦ lines_none text isnt
]

-- the parts of a file

pub lines_then : (text : List ℕ) → whole_lines text ++ drop (length (whole_lines text)) text ≡ text
lines_then [] = refl
lines_then (byte ∷ rest) = elim (bool_cases (ends_line (byte ∷ rest))) [
  | inl ends ↦
      let P : List ℕ → Type 0 = λ l. l ++ drop (length l) (byte ∷ rest) ≡ byte ∷ rest in
      subst P (sym (lines_more byte rest ends)) (ap (λ (l : List ℕ). byte ∷ l) (lines_then rest))
  | inr none ↦
      let P : List ℕ → Type 0 = λ l. l ++ drop (length l) (byte ∷ rest) ≡ byte ∷ rest in
      subst P (sym (lines_none (byte ∷ rest) none)) refl
]

pub before_zero_then : (file : List ℕ) → before_zero file ++ drop (length (before_zero file)) file ≡ file
before_zero_then [] = refl
before_zero_then (byte ∷ rest) = elim (cases_eq byte 0) [
  | inl is ↦
      let P : List ℕ → Type 0 = λ l. l ++ drop (length l) (byte ∷ rest) ≡ byte ∷ rest in
      subst P (sym (at_zero byte rest is)) refl
  | inr isnt ↦
      let P : List ℕ → Type 0 = λ l. l ++ drop (length l) (byte ∷ rest) ≡ byte ∷ rest in
      subst P (sym (at_byte byte rest isnt)) (ap (λ (l : List ℕ). byte ∷ l) (before_zero_then rest))
]

pub text_then : (file : List ℕ) → text_of file ++ drop (length (text_of file)) file ≡ file
text_then file =
    let text = text_of file in
    let torn = drop (length text) (before_zero file) in
    let after = drop (length (before_zero file)) file in
    let whole : (text ++ torn) ++ after ≡ file = ap (λ (l : List ℕ). l ++ after) (lines_then (before_zero file)) ∙ before_zero_then file in
    let parts : file ≡ text ++ (torn ++ after) = sym whole ∙ append_assoc text torn after in
    ap (λ (l : List ℕ). text ++ l) (ap (λ (l : List ℕ). drop (length text) l) parts ∙ drop_at text (torn ++ after) (length text) refl) ∙ sym parts

pub text_no_zero : (file : List ℕ) → HasNoZero (text_of file)
text_no_zero file = no_zero-whole_lines (before_zero file) (no_zero-before_zero file)

pub text_whole : (file : List ℕ) → IsWholeLines (text_of file)
text_whole file = lines_whole (before_zero file)

pub text_of-append : (text rest : List ℕ) → HasNoZero text → IsWholeLines text → text_of (text ++ rest) ≡ text ++ text_of rest
text_of-append text rest none whole = ap whole_lines (before_zero-text text rest none) ∙ whole_lines-append text (before_zero rest) whole

-- trailing zeros

pub used_more : (byte : ℕ) (rest : List ℕ) → byte ≢ 0 → used_length (byte ∷ rest) ≡ used_length rest + 1
used_more byte rest isnt = grind (arith, nat_tests)

pub used_on : (byte : ℕ) (rest : List ℕ) → 0 < used_length rest → used_length (byte ∷ rest) ≡ used_length rest + 1
used_on byte rest some = grind (arith, nat_tests)

pub used_none : (byte : ℕ) (rest : List ℕ) → byte ≡ 0 → used_length rest ≡ 0 → used_length (byte ∷ rest) ≡ 0
used_none byte rest is none = grind (arith, nat_tests)

pub used_cons : (byte : ℕ) (rest : List ℕ) → used_length (byte ∷ rest) ≤ used_length rest + 1
used_cons byte rest = elim (cases_eq byte 0) [
  | inl is ↦ elim (cases_eq (used_length rest) 0) [
    | inl none ↦ omega (arith, used_none byte rest is none)
    | inr some ↦ omega (arith, used_on byte rest (omega arith))
  ]
  | inr isnt ↦ omega (arith, used_more byte rest isnt)
]

pub used_rest : (byte : ℕ) (rest : List ℕ) → used_length rest ≤ used_length (byte ∷ rest) - 1
used_rest byte rest = elim (cases_eq (used_length rest) 0) [
  | inl none ↦ omega arith
  | inr some ↦ omega (arith, used_on byte rest (omega arith))
]

pub used-append : (text rest : List ℕ) → used_length (text ++ rest) ≤ length text + used_length rest
used-append [] rest = omega arith
used-append (byte ∷ text) rest = omega (arith, used_cons byte (text ++ rest), used-append text rest)

pub used-append_some : (text rest : List ℕ) → used_length rest ≤ used_length (text ++ rest) - length text
used-append_some [] rest = omega arith
used-append_some (byte ∷ text) rest = omega (arith, used_rest byte (text ++ rest), used-append_some text rest)

pub used_within : (file : List ℕ) → used_length file ≤ length file
used_within [] = omega arith
used_within (byte ∷ rest) = omega (arith, used_cons byte rest, used_within rest)

pub used-zeros : (n : ℕ) → used_length (replicate n 0) ≡ 0
used-zeros zero = refl
used-zeros (suc n) = used_none 0 (replicate n 0) refl (used-zeros n)

-- if nothing is used, the first byte is 0
pub unused_first : (byte : ℕ) (rest : List ℕ) → used_length (byte ∷ rest) ≡ 0 → byte ≡ 0
unused_first byte rest none = elim (cases_eq byte 0) [
  | inl is ↦ is
  | inr isnt ↦ absurd (omega (arith, used_more byte rest isnt))
]

pub unused_text : (file : List ℕ) → used_length file ≡ 0 → text_of file ≡ []
unused_text [] none = refl
unused_text (byte ∷ rest) none = ap whole_lines (at_zero byte rest (unused_first byte rest none))

pub unused_zeros : (file : List ℕ) → used_length file ≡ 0 → file ≡ replicate (length file) 0
unused_zeros [] none = refl
unused_zeros (byte ∷ rest) none =
    let is : byte ≡ 0 = unused_first byte rest none in
    ap (λ (b : ℕ). b ∷ rest) is ∙ ap (λ (l : List ℕ). 0 ∷ l) (unused_zeros rest (omega (arith, used_rest byte rest)))

le_some : (n most : ℕ) (text : List ℕ) → n ≤ most → (if nat_le n most then Some text else None) ≡ Some text
le_some n most text le = grind (arith, nat_tests)

-- a text is found if at most a batch is used after it
pub found-text : (text rest : List ℕ) → HasNoZero text → IsWholeLines text → used_length rest ≤ MAX_BATCH → found (text ++ rest) ≡ Some (text ++ text_of rest)
found-text text rest none whole short =
    let is : text_of (text ++ rest) ≡ text ++ text_of rest = text_of-append text rest none whole in
    let fits : torn_length (text ++ rest) ≤ MAX_BATCH = omega (arith, ap length is, length-append text (text_of rest), used-append text rest, short) in
    le_some (torn_length (text ++ rest)) MAX_BATCH (text_of (text ++ rest)) fits ∙ ap (λ (l : List ℕ). Some l) is

-- and nothing else if nothing is
pub found_unused : (text rest : List ℕ) → HasNoZero text → IsWholeLines text → used_length rest ≡ 0 → found (text ++ rest) ≡ Some text
found_unused text rest none whole unused =
    found-text text rest none whole (omega arith) ∙ ap (λ (l : List ℕ). Some (text ++ l)) (unused_text rest unused) ∙ ap (λ (l : List ℕ). Some l) (append-nil text)

pub text_of_unused : (text rest : List ℕ) → HasNoZero text → IsWholeLines text → used_length rest ≡ 0 → text_of (text ++ rest) ≡ text
text_of_unused text rest none whole unused = text_of-append text rest none whole ∙ ap (λ (l : List ℕ). text ++ l) (unused_text rest unused) ∙ append-nil text

pub unused-append : (n : ℕ) (rest : List ℕ) → used_length rest ≡ 0 → used_length (replicate n 0 ++ rest) ≡ 0
unused-append zero rest unused = unused
unused-append (suc n) rest unused = used_none 0 (replicate n 0 ++ rest) refl (unused-append n rest unused)

pub unused-take : (k n : ℕ) → used_length (take k (replicate n 0)) ≡ 0
unused-take zero n = refl
unused-take (suc k) zero = refl
unused-take (suc k) (suc n) = used_none 0 (take k (replicate n 0)) refl (unused-take k n)

pub take_past : (xs ys : List ℕ) (m n : ℕ) → m ≡ length xs + n → take m (xs ++ ys) ≡ xs ++ take n ys
take_past [] ys m n is = let same : m ≡ n = omega arith in ap (λ (k : ℕ). take k ys) same
take_past (x ∷ xs) ys zero n is = absurd (omega arith)
take_past (x ∷ xs) ys (suc m) n is = ap (λ (l : List ℕ). x ∷ l) (take_past xs ys m n (omega arith))

some_within : (n most : ℕ) (text other : List ℕ) → (if nat_le n most then Some text else None) ≡ Some other → (text ≡ other) × (n ≤ most)
some_within n most text other is = elim (bool_cases (nat_le n most)) [
  | inl le ↦
      let same : Some text ≡ Some other = sym (ap (λ (b : Bool). if b then Some text else None) le) ∙ is in
      let text_is : text ≡ other = cc in
      (text_is, leb-true n most le)
  | inr gt ↦
      let none : None ≡ Some other = sym (ap (λ (b : Bool). if b then Some text else None) gt) ∙ is in
      absurd (cc)
]

-- a text that is found is the file's, and at most a batch is after it
pub found_some : (file text : List ℕ) → found file ≡ Some text → (text_of file ≡ text) × (torn_length file ≤ MAX_BATCH)
found_some file text is = some_within (torn_length file) MAX_BATCH (text_of file) text is
