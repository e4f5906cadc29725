-- Written lines are read back.
use Rattle.std.proofs.Common.{◌≡◌, ◌≢◌, ◌≤◌, ◌+◌, ◌-◌, ◌++◌, ◌∷◌, [], ◌∙◌, ◌||◌, ◌==◌, ℕ, Bool, true, false, not, zero, suc, List, Option, length, filter, get_or, slice_get, take, refl, sym, ap, append_assoc, length-append, arith}
use Rattle.std.specs.Prelude.{All}
use Rattle.std.specs.List.{AllByRecursion, flat_map, slice_split}
use Rattle.std.specs.Option.{option_map_or}
use Rattle.std.specs.Str.Lines.{lines, lines_of_parts}
use Rattle.std.proofs.lemmas.Bool.{cond-false}
use Rattle.std.proofs.lemmas.List.{get_or-append-add}
use Rattle.std.proofs.lemmas.List.Elements.{All-append, All-tail, recursion_from_All}
use Rattle.std.proofs.lemmas.List.Splits.{slice_split_at, slice_split_none, length-slice_split}
use Rattle.gu_text.specs.ReadBack.{joined, AreWords, HasLines, IsReadBack, IsWord}
use Rattle.gu_text.specs.Texts.{word, line_of}
use Rattle.gu_text.specs.Words.{is_blank, is_blank_at, is_empty, words_of}
use Rattle.gu_text.proofs.LineLemmas.{first_of_parts}
use Rattle.gu_text.proofs.WordLemmas.{kept}

none_of : (p q r : Bool) → not (p || q || r) ≡ true → (p ≡ false) × (q ≡ false) × (r ≡ false)
none_of true q r h = cc
none_of false true r h = cc
none_of false false true h = cc
none_of false false false h = (refl, refl, refl)

-- no byte of a word is a space, LF or CR
no_blank : (bytes : List ℕ) → IsWord bytes → All (λ b. is_blank b ≡ false) bytes
no_blank bytes is k d k_in = (none_of (get_or bytes k d == 32) (get_or bytes k d == 10) (get_or bytes k d == 13) (is.each k d k_in)).0

no_end : (bytes : List ℕ) → IsWord bytes → All (λ b. (b == 10) ≡ false) bytes
no_end bytes is k d k_in = (none_of (get_or bytes k d == 32) (get_or bytes k d == 10) (get_or bytes k d == 13) (is.each k d k_in)).1

some_word : (bytes : List ℕ) → 1 ≤ length bytes → bytes ≢ []
some_word [] some e = omega (arith, some)
some_word (b ∷ bytes) some e = cc

-- ---- words

-- the words of a word followed by a space and more
words_of-first : (first : List ℕ) (rest : List ℕ) → IsWord first → words_of (word first ++ rest) ≡ first ∷ words_of rest
words_of-first first rest is =
    ap words_of (append_assoc first (32 ∷ []) rest)
    ∙ ap (filter (λ w. not (is_empty w))) (slice_split_at is_blank first 32 rest (no_blank first is) refl)
    ∙ kept first (slice_split is_blank rest) (some_word first is.some)

words_of-last : (last : List ℕ) → IsWord last → words_of last ≡ last ∷ []
words_of-last last is = ap (filter (λ w. not (is_empty w))) (slice_split_none is_blank last (no_blank last is)) ∙ kept last [] (some_word last is.some)

-- the words of joined words
words_of-joined : (words : List (List ℕ)) → AllByRecursion IsWord words → 1 ≤ length words → words_of (joined words) ≡ words
words_of-joined [] each some = absurd (omega (arith, some))
words_of-joined (last ∷ []) each some = words_of-last last each.0
words_of-joined (first ∷ next ∷ others) each some =
    words_of-first first (joined (next ∷ others)) each.0 ∙ ap (λ (ws : List (List ℕ)). first ∷ ws) (words_of-joined (next ∷ others) each.1 (omega arith))

-- ---- the ends of a line

blank_nowhere : (bytes : List ℕ) → All (λ b. is_blank b ≡ false) bytes → (k : ℕ) → is_blank_at bytes k ≡ false
blank_nowhere [] none zero = refl
blank_nowhere [] none (suc k) = refl
blank_nowhere (b ∷ bytes) none zero = none 0 b (omega arith)
blank_nowhere (b ∷ bytes) none (suc k) = blank_nowhere bytes (All-tail (λ b. is_blank b ≡ false) b bytes none) k

front_of_word : (first rest : List ℕ) → IsWord first → is_blank_at (word first ++ rest) 0 ≡ false
front_of_word [] rest is = absurd (omega (arith, is.some))
front_of_word (b ∷ first) rest is = no_blank (b ∷ first) is 0 b (omega arith)

even_front : (words : List (List ℕ)) → AllByRecursion IsWord words → is_blank_at (joined words) 0 ≡ false
even_front [] each = refl
even_front (last ∷ []) each = blank_nowhere last (no_blank last each.0) 0
even_front (first ∷ next ∷ others) each = front_of_word first (joined (next ∷ others)) each.0

-- no more indexes after the front
zero_more : (k : ℕ) → 0 + k ≡ k
zero_more k = omega arith

-- one more index
suc_more : (n k : ℕ) → suc n + k ≡ suc (n + k)
suc_more n k = omega arith

slice_get-behind : (xs ys : List ℕ) (k : ℕ) → slice_get (xs ++ ys) (length xs + k) ≡ slice_get ys k
slice_get-behind [] ys k = ap (slice_get ys) (zero_more k)
slice_get-behind (x ∷ xs) ys k = ap (slice_get ((x ∷ xs) ++ ys)) (suc_more (length xs) k) ∙ slice_get-behind xs ys k

last_place : (xs ys : List ℕ) → 1 ≤ length ys → length (xs ++ ys) - 1 ≡ length xs + (length ys - 1)
last_place xs ys some = omega (arith, length-append xs ys, some)

some_joined : (words : List (List ℕ)) → AllByRecursion IsWord words → 1 ≤ length words → 1 ≤ length (joined words)
some_joined [] each some = absurd (omega (arith, some))
some_joined (last ∷ []) each some = each.0.some
some_joined (first ∷ next ∷ others) each some =
    omega (arith, length-append (word first) (joined (next ∷ others)), some_joined (next ∷ others) each.1 (omega arith))

even_end : (words : List (List ℕ)) → AllByRecursion IsWord words → is_blank_at (joined words) (length (joined words) - 1) ≡ false
even_end [] each = refl
even_end (last ∷ []) each = blank_nowhere last (no_blank last each.0) (length last - 1)
even_end (first ∷ next ∷ others) each =
    ap (λ (o : Option ℕ). option_map_or is_blank o false)
    (ap (slice_get (word first ++ joined (next ∷ others))) (last_place (word first) (joined (next ∷ others)) (some_joined (next ∷ others) each.1 (omega arith)))
    ∙ slice_get-behind (word first) (joined (next ∷ others)) (length (joined (next ∷ others)) - 1))
    ∙ even_end (next ∷ others) each.1

-- a line made from words is read as those words
pub read_back : (words : List (List ℕ)) → AreWords words → IsReadBack words
read_back words are =
    let each = recursion_from_All IsWord words are.each in
    let front = even_front words each in
    let end = even_end words each in
    record {
      words_are = words_of-joined words each are.some;
      even = rw (front, end) refl;
    }

-- ---- lines

pub line_of-joined : (words : List (List ℕ)) → line_of words ≡ joined words ++ 10 ∷ []
line_of-joined [] = refl
line_of-joined (last ∷ []) = refl
line_of-joined (first ∷ next ∷ others) = ap (λ (text : List ℕ). word first ++ text) (line_of-joined (next ∷ others)) ∙ sym (append_assoc (word first) (joined (next ∷ others)) (10 ∷ []))

blank_is_no_end : All (λ b. (b == 10) ≡ false) (32 ∷ [])
blank_is_no_end zero d k_in = refl
blank_is_no_end (suc k) d k_in = absurd (omega (arith, k_in))

no_end_joined : (words : List (List ℕ)) → AllByRecursion IsWord words → All (λ b. (b == 10) ≡ false) (joined words)
no_end_joined [] each = λ k d k_in. absurd (omega (arith, k_in))
no_end_joined (last ∷ []) each = no_end last each.0
no_end_joined (first ∷ next ∷ others) each =
    All-append (λ b. (b == 10) ≡ false) (word first) (joined (next ∷ others)) (All-append (λ b. (b == 10) ≡ false) first (32 ∷ []) (no_end first each.0) blank_is_no_end) (no_end_joined (next ∷ others) each.1)

no_return : (words : List (List ℕ)) → AllByRecursion IsWord words → 1 ≤ length words → (get_or (joined words) (length (joined words) - 1) 0 == 13) ≡ false
no_return [] each some = absurd (omega (arith, some))
no_return (last ∷ []) each some =
    let k = length last - 1 in
    (none_of (get_or last k 0 == 32) (get_or last k 0 == 10) (get_or last k 0 == 13) (each.0.each k 0 (omega (arith, each.0.some)))).2
no_return (first ∷ next ∷ others) each some =
    ap (λ (n : ℕ). n == 13)
    (ap (λ (n : ℕ). get_or (word first ++ joined (next ∷ others)) n 0) (last_place (word first) (joined (next ∷ others)) (some_joined (next ∷ others) each.1 (omega arith)))
    ∙ get_or-append-add (word first) (joined (next ∷ others)) (length (joined (next ∷ others)) - 1) 0)
    ∙ no_return (next ∷ others) each.1 (omega arith)

-- the first line of a text that begins with one
lines-line_of : (words : List (List ℕ)) (rest : List ℕ) → AreWords words → lines (line_of words ++ rest) ≡ joined words ∷ lines rest
lines-line_of words rest are =
    let each = recursion_from_All IsWord words are.each in
    let text = joined words in
    ap lines (ap (λ (bytes : List ℕ). bytes ++ rest) (line_of-joined words) ∙ append_assoc text (10 ∷ []) rest)
    ∙ ap lines_of_parts (slice_split_at (λ b. b == 10) text 10 rest (no_end_joined words each) refl)
    ∙ first_of_parts text (slice_split (λ b. b == 10) rest) (omega (arith, length-slice_split (λ b. b == 10) rest))
    ∙ ap (λ (line : List ℕ). line ∷ lines rest) (cond-false (get_or text (length text - 1) 0 == 13) (take (length text - 1) text) text (no_return words each are.some))

-- a text written line by line has these lines
pub lines_of_rows : (rows : List (List (List ℕ))) → AllByRecursion AreWords rows → HasLines rows
lines_of_rows [] each = refl
lines_of_rows (words ∷ rows) each = lines-line_of words (flat_map line_of rows) each.0 ∙ ap (λ (ls : List (List ℕ)). joined words ∷ ls) (lines_of_rows rows each.1)

-- the same for rows by index
pub has_lines : (rows : List (List (List ℕ))) → All AreWords rows → HasLines rows
has_lines rows each = lines_of_rows rows (recursion_from_All AreWords rows each)
