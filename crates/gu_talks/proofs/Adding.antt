-- Marks in two parts, when bytes are added after them.
use Rattle.std.proofs.Common.{◌≡◌, ◌<◌, ◌≤◌, ◌-◌, ◌+◌, ◌++◌, ℕ, List, [], length, drop, get_or, inl, inr, sym, ap, subst, ◌∙◌, arith, max, length-append}
use Rattle.std.proofs.Math.ListN.{replicate}
use Rattle.std.proofs.Math.Seq.{drop-append-add}
use Rattle.std.proofs.lemmas.Bool.{cases_lt}
use Rattle.std.proofs.lemmas.List.{drop-replicate, get_or-append_right, get_or-replicate, get_or_append_left, length-replicate}
use Rattle.std.proofs.lemmas.List.Elements.{All-append, All-replicate}
use Rattle.std.specs.List.{All}
use Rattle.gu_talks.specs.Marks.{MarksAll}
use Rattle.gu_talks.specs.TwoParts.{IsInParts, marks_of}
use Rattle.gu_talks.specs.declared.marks.Marks.TheInside.{Inside}

-- as many marks as bytes
length_of_parts : (f r n l : ℕ) → length (replicate f n ++ replicate r l) ≡ f + r
length_of_parts f r n l = simp (length-append, length-replicate)

-- the mark of a byte of the first part
at_first : (f r n l place : ℕ) → place < f → get_or (replicate f n ++ replicate r l) place 0 ≡ n
at_first f r n l place in_first =
    let in_list : place < length (replicate f n) = subst (λ (k : ℕ). place < k) (sym (length-replicate f n)) in_first in
    get_or_append_left (replicate f n) (replicate r l) 0 place in_list ∙ get_or-replicate f place n 0 in_first

-- the mark of a byte of the rest
at_rest : (f r n l place : ℕ) → f ≤ place → place < f + r → get_or (replicate f n ++ replicate r l) place 0 ≡ l
at_rest f r n l place past within =
    let in_rest : place - f < r = omega arith in
    get_or-append_right (replicate f n) (replicate r l) f place 0 (length-replicate f n) past ∙ get_or-replicate r (place - f) l 0 in_rest

-- what remains after the first part and some of the rest
drop_in_rest : (f k r n l : ℕ) → drop (f + k) (replicate f n ++ replicate r l) ≡ replicate (r - k) l
drop_in_rest f k r n l =
    let at = drop-append-add (replicate f n) (replicate r l) k in
    subst (λ (j : ℕ). drop (j + k) (replicate f n ++ replicate r l) ≡ drop k (replicate r l)) (length-replicate f n) at ∙ drop-replicate k r l

-- a mark that is at least one number, and at most what both that number and the marks before are
pub record Raises (before number after : ℕ) : Type 0 where
  pub above : before ≤ after
  pub given : number ≤ after
  pub least : (most : ℕ) → before ≤ most → number ≤ most → after ≤ most

-- nothing had a mark
pub marks_begin : (held number : ℕ) → MarksAll held number [] (replicate held number ++ replicate (held - held) number)
marks_begin held number =
    let all : length (replicate held number ++ replicate (held - held) number) ≡ held = length_of_parts held (held - held) number number ∙ omega arith in
    record {
      all = all;
      none_falls = λ place none. absurd (omega arith);
      at_least = All-append (λ (mark : ℕ). number ≤ mark) (replicate held number) (replicate (held - held) number) (All-replicate (λ (mark : ℕ). number ≤ mark) held number (omega arith))
          (All-replicate (λ (mark : ℕ). number ≤ mark) (held - held) number (omega arith));
      at_most = λ most within old. All-append (λ (mark : ℕ). mark ≤ most) (replicate held number) (replicate (held - held) number) (All-replicate (λ (mark : ℕ). mark ≤ most) held number within)
          (All-replicate (λ (mark : ℕ). mark ≤ most) (held - held) number within);
      first = λ none. absurd (omega arith);
    }

-- some bytes had marks
module _ (f m held n l number last : ℕ) (some : 0 < f) (within : f ≤ m) (more : m < held) (rising : n ≤ l) (alone : m ≡ f → l ≡ n) (raises : Raises l number last) where
  none_falls : (place : ℕ) → place < length (replicate f n ++ replicate (m - f) l) → get_or (replicate f n ++ replicate (m - f) l) place 0 ≤ get_or (replicate f n ++ replicate (held - f) last) place 0
  none_falls place inside =
      let count = length_of_parts f (m - f) n l in
      elim (cases_lt place f) [
        | inl first ↦ omega (arith, at_first f (m - f) n l place first, at_first f (held - f) n last place first)
        | inr rest ↦ omega (arith, at_rest f (m - f) n l place rest (omega arith), at_rest f (held - f) n last place rest (omega arith), raises.above)
      ]

  at_least : All (λ (mark : ℕ). number ≤ mark) (drop (length (replicate f n ++ replicate (m - f) l)) (replicate f n ++ replicate (held - f) last))
  at_least =
      let rest : drop (length (replicate f n ++ replicate (m - f) l)) (replicate f n ++ replicate (held - f) last) ≡ replicate (held - f - (m - f)) last =
      subst (λ (k : ℕ). drop k (replicate f n ++ replicate (held - f) last) ≡ replicate (held - f - (m - f)) last) (sym (length_of_parts f (m - f) n l)) (drop_in_rest f (m - f) (held - f) n last) in
      subst (λ (xs : List ℕ). All (λ (mark : ℕ). number ≤ mark) xs) (sym rest) (All-replicate (λ (mark : ℕ). number ≤ mark) (held - f - (m - f)) last raises.given)

  -- the mark of the rest, or that of the first part if there is no rest, is among those before
  rest_within : (most : ℕ) → All (λ (mark : ℕ). mark ≤ most) (replicate f n ++ replicate (m - f) l) → l ≤ most
  rest_within most all =
      let count = length_of_parts f (m - f) n l in
      elim (cases_lt f m) [
        | inl has_rest ↦
            omega (arith, at_rest f (m - f) n l f (omega arith) (omega arith), all f 0 (omega arith))
        | inr no_rest ↦ let same : l ≡ n = alone (omega arith) in omega (arith, at_first f (m - f) n l 0 some, all 0 0 (omega arith))
      ]

  at_most : (most : ℕ) → number ≤ most → All (λ (mark : ℕ). mark ≤ most) (replicate f n ++ replicate (m - f) l) → All (λ (mark : ℕ). mark ≤ most) (replicate f n ++ replicate (held - f) last)
  at_most most given all =
      let rest = rest_within most all in
      All-append (λ (mark : ℕ). mark ≤ most) (replicate f n) (replicate (held - f) last) (All-replicate (λ (mark : ℕ). mark ≤ most) f n (omega arith))
      (All-replicate (λ (mark : ℕ). mark ≤ most) (held - f) last (raises.least most rest given))

  pub marks_grow : MarksAll held number (replicate f n ++ replicate (m - f) l) (replicate f n ++ replicate (held - f) last)
  marks_grow = record {
    all = length_of_parts f (held - f) n last ∙ omega arith;
    none_falls = none_falls;
    at_least = at_least;
    at_most = at_most;
    first = λ _. at_first f (held - f) n last 0 some ∙ sym (at_first f (m - f) n l 0 some);
  }

-- the same holds for the marks that two numbers give, if nothing had a mark
pub begins : (before after : Inside) (old : List ℕ) (held number : ℕ) → marks_of before ≡ old → IsInParts before → before.first ≡ 0
    → after ≡ record before { first = held; number = number; last = number } → MarksAll held number old (marks_of (record after { marked = held }))
begins before after old held number is parts none after_is =
    let first_none : replicate before.first before.number ≡ [] = ap (λ (k : ℕ). replicate k before.number) none in
    let no_rest : before.marked - before.first ≡ 0 = omega (arith, parts.begun none) in
    let rest_none : replicate (before.marked - before.first) before.last ≡ [] = ap (λ (k : ℕ). replicate k before.last) no_rest in
    let empty : old ≡ [] = sym is ∙ ap (λ (xs : List ℕ). xs ++ replicate (before.marked - before.first) before.last) first_none ∙ rest_none in
    subst (λ (marks : Inside). MarksAll held number old (marks_of (record marks { marked = held }))) (sym after_is)
    (subst (λ (xs : List ℕ). MarksAll held number xs (replicate held number ++ replicate (held - held) number)) (sym empty) (marks_begin held number))

-- and if some bytes had marks
pub grows : (before after : Inside) (old : List ℕ) (held number last : ℕ) → marks_of before ≡ old → IsInParts before → (before.first ≡ 0 → ⊥) → before.marked < held → last ≡ max before.last number
    → after ≡ record before { last = last } → MarksAll held number old (marks_of (record after { marked = held }))
grows before after old held number last is parts some more greatest after_is =
    let raises : Raises before.last number last = record {
      above = omega arith;
      given = omega arith;
      least = λ most high given. omega arith;
    } in
    subst (λ (marks : Inside). MarksAll held number old (marks_of (record marks { marked = held }))) (sym after_is)
    (subst (λ (xs : List ℕ). MarksAll held number xs (replicate before.first before.number ++ replicate (held - before.first) last)) is
    (marks_grow before.first before.marked held before.number before.last number last (omega arith) parts.within more parts.rising parts.alone raises))

-- as many bytes have marks as the two numbers say
pub counts : (marks : Inside) (all : List ℕ) → marks_of marks ≡ all → IsInParts marks → length all ≡ marks.marked
counts marks all is parts =
    let count = length_of_parts marks.first (marks.marked - marks.first) marks.number marks.last in
    let whole : marks.first + (marks.marked - marks.first) ≡ marks.marked = omega (arith, parts.within) in
    ap length (sym is) ∙ count ∙ whole
