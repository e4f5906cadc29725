-- Lines made from rows, and a prefix of them that ends with a line.
use Rattle.gu_keeping.proofs.Words.{◌≡◌, ◌≢◌, ◌++◌, ◌∷◌, [], ◌∙◌, ◌||◌, ◌==◌, ℕ, suc, Bool, true, false, List, ◌⊎◌, inl, inr, map, take, get_or, refl, sym, ap, subst, append_assoc, arith, if◌then◌else◌, not, AllByRecursion, flat_map, lines, strip_carriage_return, IsWholeLines, ends_line, whole_lines, HasNoLineFeed, IsParted, LeavesOpen, AreWords, IsWord, is_word_byte, joined, line_of, word, leaves_after, leaves_all, leaves_on, lines-parted}
use Rattle.std.proofs.lemmas.Bool.{ne_eqb}
use Rattle.std.proofs.lemmas.List.Elements.{All-append, All-cons, All-head, All-nil, All-tail, recursion_from_All}
use Rattle.gu_text.proofs.ReadBackLemmas.{line_of-joined, lines_of_rows}

-- ---- a row has an LF only at its end

none_of : (p q r : Bool) → not (p || q || r) ≡ true → q ≡ false
none_of true q r h = cc
none_of false true r h = cc
none_of false false r h = refl

no_feed : (b : ℕ) → is_word_byte b ≡ true → b ≢ 10
no_feed b is same =
    let none = none_of (b == 32) (b == 10) (b == 13) is in
    let both : true ≡ false = sym (ap (λ (c : ℕ). c == 10) same) ∙ none in
    absurd (cc)

word_no_feed : (bytes : List ℕ) → IsWord bytes → HasNoLineFeed bytes
word_no_feed bytes is k d k_in = no_feed (get_or bytes k d) (is.each k d k_in)

blank_no_feed : HasNoLineFeed (32 ∷ [])
blank_no_feed = All-cons (λ b. b ≢ 10) 32 [] (λ same. absurd (omega (arith, same))) (All-nil (λ b. b ≢ 10))

joined_no_feed : (words : List (List ℕ)) → AllByRecursion IsWord words → HasNoLineFeed (joined words)
joined_no_feed [] each = All-nil (λ b. b ≢ 10)
joined_no_feed (last ∷ []) each = word_no_feed last each.0
joined_no_feed (first ∷ next ∷ others) each =
    All-append (λ b. b ≢ 10) (word first) (joined (next ∷ others))
    (All-append (λ b. b ≢ 10) first (32 ∷ []) (word_no_feed first each.0) blank_no_feed)
    (joined_no_feed (next ∷ others) each.1)

row_no_feed : (words : List (List ℕ)) → AreWords words → HasNoLineFeed (joined words)
row_no_feed words are = joined_no_feed words (recursion_from_All IsWord words are.each)

-- ---- each row's line is ended

-- a line before a text
line_before : (words : List (List ℕ)) (rest : List ℕ) → line_of words ++ rest ≡ joined words ++ 10 ∷ rest
line_before words rest = ap (λ (t : List ℕ). t ++ rest) (line_of-joined words) ∙ append_assoc (joined words) (10 ∷ []) rest

first_of : {X : Type 0} (x y : X) (xs ys : List X) → x ∷ xs ≡ y ∷ ys → x ≡ y
first_of x y xs ys same = cc

-- no row has a CR at its end
no_return : (words : List (List ℕ)) → AreWords words → strip_carriage_return (joined words) ≡ joined words
no_return words are =
    let one : lines (line_of words ++ []) ≡ joined words ∷ [] = lines_of_rows (words ∷ []) (are, tt) in
    let parted : lines (line_of words ++ []) ≡ strip_carriage_return (joined words) ∷ lines [] = ap lines (line_before words []) ∙ lines-parted (joined words) [] (row_no_feed words are) in
    first_of _ _ _ _ (sym parted ∙ one)

pub rows_leave : (rows : List (List (List ℕ))) → AllByRecursion AreWords rows → LeavesOpen (flat_map line_of rows) (map joined rows) []
rows_leave [] all = leaves_all []
rows_leave (row ∷ rows) all =
    let rest = flat_map line_of rows in
    let parted : IsParted (line_of row ++ rest) (joined row) rest = record { parts = line_before row rest; first = row_no_feed row all.0 } in
    let open_first = leaves_after (line_of row ++ rest) (joined row) rest parted in
    let named : LeavesOpen (line_of row ++ rest) (joined row ∷ []) rest = subst (λ (l : List ℕ). LeavesOpen (line_of row ++ rest) (l ∷ []) rest) (no_return row all.0) open_first in
    leaves_on (line_of row ++ rest) rest [] (joined row ∷ []) (map joined rows) named (rows_leave rows all.1)

-- ---- a prefix that ends with a line

bool_cases : (b : Bool) → (b ≡ true) ⊎ (b ≡ false)
bool_cases true = inl refl
bool_cases false = inr refl

-- in whole lines, the bytes after the first are whole lines too
pub rest_whole : (b : ℕ) (bytes : List ℕ) → IsWholeLines (b ∷ bytes) → (ends_line (b ∷ bytes) ≡ true) × IsWholeLines bytes
rest_whole b bytes whole = elim (bool_cases (ends_line (b ∷ bytes))) [
  | inl ends ↦
      let kept : b ∷ whole_lines bytes ≡ b ∷ bytes = sym (ap (λ (t : Bool). if t then b ∷ whole_lines bytes else []) ends) ∙ whole in
      let same : whole_lines bytes ≡ bytes = cc in
      (ends, same)
  | inr none ↦
      let nothing : [] ≡ b ∷ bytes = sym (ap (λ (t : Bool). if t then b ∷ whole_lines bytes else []) none) ∙ whole in
      absurd (cc)
]

-- if the first byte ends no line, a later one does
ends_later : (b : ℕ) (bytes : List ℕ) → b ≢ 10 → ends_line (b ∷ bytes) ≡ true → ends_line bytes ≡ true
ends_later b bytes other ends = ap (λ (t : Bool). t || ends_line bytes) (sym (ne_eqb b 10 other)) ∙ ends

-- a prefix of a line and more has none of the line, or all of it
pub record HasLine (front tail begun rest : List ℕ) : Type 0 where
  pub more : List ℕ
  pub begun_is : begun ≡ front ++ 10 ∷ more
  pub whole : IsWholeLines more
  pub tail_is : more ++ rest ≡ tail

tail_of : (x y : ℕ) (xs ys : List ℕ) → x ∷ xs ≡ y ∷ ys → xs ≡ ys
tail_of x y xs ys same = cc

pub cut_at_line : (front tail begun rest : List ℕ) → HasNoLineFeed front → IsWholeLines begun → begun ++ rest ≡ front ++ 10 ∷ tail
    → (begun ≡ []) ⊎ HasLine front tail begun rest
cut_at_line front tail [] rest none whole same = inl refl
cut_at_line [] tail (b ∷ bytes) rest none whole same =
    inr (record {
      more = bytes;
      begun_is = ap (λ (c : ℕ). c ∷ bytes) (first_of b 10 (bytes ++ rest) tail same);
      whole = (rest_whole b bytes whole).1;
      tail_is = tail_of b 10 (bytes ++ rest) tail same;
    })
cut_at_line (f ∷ front) tail (b ∷ bytes) rest none whole same =
    let first : b ≡ f = first_of b f (bytes ++ rest) (front ++ 10 ∷ tail) same in
    let isnt : f ≢ 10 = All-head (λ c. c ≢ 10) f front none in
    let other : b ≢ 10 = subst (λ (c : ℕ). c ≢ 10) (sym first) isnt in
    let parts = rest_whole b bytes whole in
    elim (cut_at_line front tail bytes rest (All-tail (λ c. c ≢ 10) f front none) parts.1 (tail_of b f (bytes ++ rest) (front ++ 10 ∷ tail) same)) [
      | inl nothing ↦
          let later : ends_line bytes ≡ true = ends_later b bytes other parts.0 in
          let never : ends_line bytes ≡ false = ap ends_line nothing in
          absurd (cc)
      | inr line ↦ inr (record {
        more = line.more;
        begun_is = ap (λ (c : ℕ). c ∷ bytes) first ∙ ap (λ (t : List ℕ). f ∷ t) line.begun_is;
        whole = line.whole;
        tail_is = line.tail_is;
      })
    ]

-- a prefix of rows that ends with a line is the first rows
pub record IsFirstRows (rows : List (List (List ℕ))) (begun : List ℕ) : Type 0 where
  pub count : ℕ
  pub begun_is : begun ≡ flat_map line_of (take count rows)

no_rows : (rows : List (List (List ℕ))) (begun : List ℕ) → begun ≡ [] → IsFirstRows rows begun
no_rows rows begun nothing = record { count = 0; begun_is = nothing }

no_bytes : (begun rest : List ℕ) → begun ++ rest ≡ [] → begun ≡ []
no_bytes [] rest same = refl
no_bytes (b ∷ bytes) rest same = absurd (cc)

pub first_rows : (rows : List (List (List ℕ))) (begun rest : List ℕ) → AllByRecursion AreWords rows → IsWholeLines begun
    → begun ++ rest ≡ flat_map line_of rows → IsFirstRows rows begun
first_rows [] begun rest all whole same = no_rows [] begun (no_bytes begun rest same)
first_rows (row ∷ rows) begun rest all whole same =
    elim (cut_at_line (joined row) (flat_map line_of rows) begun rest (row_no_feed row all.0) whole (same ∙ line_before row (flat_map line_of rows))) [
      | inl nothing ↦ no_rows (row ∷ rows) begun nothing
      | inr line ↦
          let later = first_rows rows line.more rest all.1 line.whole line.tail_is in
          record {
            count = suc later.count;
            begun_is = line.begun_is ∙ sym (line_before row line.more) ∙ ap (λ (t : List ℕ). line_of row ++ t) later.begun_is;
          }
    ]
