-- Laws of the lines of a text that is still arriving, for the crates above: an ended line stays, whatever follows.
use Rattle.std.proofs.Common.{◌≡◌, ◌≢◌, ◌<◌, ◌≤◌, ◌+◌, ◌-◌, ◌∷◌, [], ◌++◌, ◌∙◌, ◌==◌, ◌⊎◌, ℕ, Bool, true, false, List, None, Some, length, take, drop, position, nat_lt, get_or, refl, sym, ap, subst, arith, append_assoc, append-nil, length-append, inl, inr, cond}
use Rattle.std.specs.Prelude.{All, slice_index}
use Rattle.std.specs.List.{slice_split, position_or_len}
use Rattle.std.specs.Str.Lines.{lines, lines_of_parts, strip_carriage_return}
use Rattle.std.proofs.lemmas.Bool.{ne_eqb, eqb-true}
use Rattle.std.proofs.lemmas.List.{length-take, length-take-le, get_or-take}
use Rattle.std.proofs.lemmas.List.Sums.{fails_before_first, passes_at_first, split_at_first}
use Rattle.std.proofs.lemmas.Option.{cond_some}
use Rattle.std.proofs.lemmas.List.Elements.{All-append, All-cons, All-nil}
use Rattle.std.proofs.lemmas.List.Splits.{slice_split_none, slice_split_at, length-slice_split}
use Rattle.gu_text.specs.Lines.{longest_line}
use Rattle.gu_text.specs.LineFeeds.{HasNoLineFeed, IsParted, IsTooLong, LeavesOpen, ended_lines, ended_parts}
use Rattle.gu_text.proofs.LineLemmas.{first_of_parts, last_part}

-- ---- parts between LFs

-- bytes without an LF are one part
alone : (bytes : List ℕ) → HasNoLineFeed bytes → slice_split (λ b. b == 10) bytes ≡ bytes ∷ []
alone bytes none = slice_split_none (λ b. b == 10) bytes (λ k d within. ne_eqb _ 10 (none k d within))

-- the first LF ends the first part
parted : (front behind : List ℕ) → HasNoLineFeed front → slice_split (λ b. b == 10) (front ++ 10 ∷ behind) ≡ front ∷ slice_split (λ b. b == 10) behind
parted front behind none = slice_split_at (λ b. b == 10) front 10 behind (λ k d within. ne_eqb _ 10 (none k d within)) refl

first_ended : (part : List ℕ) (parts : List (List ℕ)) → 0 < length parts → ended_parts (part ∷ parts) ≡ strip_carriage_return part ∷ ended_parts parts
first_ended part [] h = absurd (omega (arith, h))
first_ended part (next ∷ parts) h = refl

some_parts : (bytes : List ℕ) → 0 < length (slice_split (λ b. b == 10) bytes)
some_parts bytes = omega (arith, length-slice_split (λ b. b == 10) bytes)

-- ---- lines

pub lines-parted : (front behind : List ℕ) → HasNoLineFeed front → lines (front ++ 10 ∷ behind) ≡ strip_carriage_return front ∷ lines behind
lines-parted front behind none = ap lines_of_parts (parted front behind none) ∙ first_of_parts front (slice_split (λ b. b == 10) behind) (some_parts behind)

pub ended_lines-parted : (front behind : List ℕ) → HasNoLineFeed front → ended_lines (front ++ 10 ∷ behind) ≡ strip_carriage_return front ∷ ended_lines behind
ended_lines-parted front behind none = ap ended_parts (parted front behind none) ∙ first_ended front (slice_split (λ b. b == 10) behind) (some_parts behind)

-- bytes without an LF are a line that isn't ended
pub lines-alone : (bytes : List ℕ) → HasNoLineFeed bytes → bytes ≢ [] → lines bytes ≡ bytes ∷ []
lines-alone bytes none some = ap lines_of_parts (alone bytes none) ∙ last_part bytes some

pub ended_lines-alone : (bytes : List ℕ) → HasNoLineFeed bytes → ended_lines bytes ≡ []
ended_lines-alone bytes none = ap ended_parts (alone bytes none)

-- ---- what is left open

-- nothing is ended
pub leaves_all : (text : List ℕ) → LeavesOpen text [] text
leaves_all text = record { lines_are = λ more. refl; ended_are = λ more. refl }

-- the first LF ends a line
pub leaves_after : (bytes front behind : List ℕ) → IsParted bytes front behind → LeavesOpen bytes (strip_carriage_return front ∷ []) behind
leaves_after bytes front behind is =
    let split : (more : List ℕ) → bytes ++ more ≡ front ++ 10 ∷ (behind ++ more) = λ more. ap (λ (t : List ℕ). t ++ more) is.parts ∙ append_assoc front (10 ∷ behind) more in
    record {
      lines_are = λ more. ap lines (split more) ∙ lines-parted front (behind ++ more) is.first;
      ended_are = λ more. ap ended_lines (split more) ∙ ended_lines-parted front (behind ++ more) is.first;
    }

-- lines of the rest are ended too
pub leaves_on : (text rest last : List ℕ) (ended others : List (List ℕ)) → LeavesOpen text ended rest → LeavesOpen rest others last → LeavesOpen text (ended ++ others) last
leaves_on text rest last ended others first second = record {
  lines_are = λ more. first.lines_are more ∙ ap (λ (ls : List (List ℕ)). ended ++ ls) (second.lines_are more) ∙ sym (append_assoc ended others (lines (last ++ more)));
  ended_are = λ more. first.ended_are more ∙ ap (λ (ls : List (List ℕ)). ended ++ ls) (second.ended_are more) ∙ sym (append_assoc ended others (ended_lines (last ++ more)));
}

-- a piece follows a text, and so its rest
pub leaves_with : (text piece rest : List ℕ) (ended : List (List ℕ)) → LeavesOpen text ended rest → LeavesOpen (text ++ piece) ended (rest ++ piece)
leaves_with text piece rest ended leaves = record {
  lines_are = λ more. ap lines (append_assoc text piece more) ∙ leaves.lines_are (piece ++ more) ∙ ap (λ (t : List ℕ). ended ++ lines t) (sym (append_assoc rest piece more));
  ended_are = λ more. ap ended_lines (append_assoc text piece more) ∙ leaves.ended_are (piece ++ more) ∙ ap (λ (t : List ℕ). ended ++ ended_lines t) (sym (append_assoc rest piece more));
}

-- the lines of a text with this rest
pub lines-left : (text rest : List ℕ) (ended : List (List ℕ)) → LeavesOpen text ended rest → lines text ≡ ended ++ lines rest
lines-left text rest ended open_is = ap lines (sym (append-nil text)) ∙ open_is.lines_are [] ∙ ap (λ (t : List ℕ). ended ++ lines t) (append-nil rest)

-- if the rest has no LF, these are all the ended lines
pub ended_lines-left : (text rest : List ℕ) (ended : List (List ℕ)) → LeavesOpen text ended rest → HasNoLineFeed rest → ended_lines text ≡ ended
ended_lines-left text rest ended open_is none =
    ap ended_lines (sym (append-nil text)) ∙ open_is.ended_are [] ∙ ap (λ (t : List ℕ). ended ++ ended_lines t) (append-nil rest)
    ∙ ap (λ (ls : List (List ℕ)). ended ++ ls) (ended_lines-alone rest none) ∙ append-nil ended

-- bytes without LF after others
pub no_feed-append : (front bytes : List ℕ) → HasNoLineFeed front → HasNoLineFeed bytes → HasNoLineFeed (front ++ bytes)
no_feed-append front bytes = All-append (λ b. b ≢ 10) front bytes

-- and with an LF after them
pub parted_after : (rest bytes front behind : List ℕ) → HasNoLineFeed rest → IsParted bytes front behind → IsParted (rest ++ bytes) (rest ++ front) behind
parted_after rest bytes front behind none is = record {
  parts = ap (λ (t : List ℕ). rest ++ t) is.parts ∙ sym (append_assoc rest front (10 ∷ behind));
  first = no_feed-append rest front none is.first;
}

-- ---- lines that are too long

-- bytes have a first LF, or none
abbrev IsFound : List ℕ → Type 0
IsFound bytes = ((front : List ℕ) × (behind : List ℕ) × IsParted bytes front behind) ⊎ HasNoLineFeed bytes

found_first : (b : ℕ) (bytes : List ℕ) (test : Bool) → (b == 10) ≡ test → IsFound bytes → IsFound (b ∷ bytes)
found_first b bytes true is found = inl ([], bytes, record { parts = ap (λ c. c ∷ bytes) (eqb-true b 10 is); first = All-nil (λ c. c ≢ 10) })
found_first b bytes false is found =
    let other : b ≢ 10 = λ same. let both : true ≡ false = sym (ap (λ c. c == 10) same) ∙ is in absurd (cc) in
    elim found [
      | inl (front, behind, parts) ↦ inl (b ∷ front, behind, record { parts = ap (λ t. b ∷ t) parts.parts; first = All-cons (λ c. c ≢ 10) b front other parts.first })
      | inr none ↦ inr (All-cons (λ c. c ≢ 10) b bytes other none)
    ]

find_feed : (bytes : List ℕ) → IsFound bytes
find_feed [] = inr (All-nil (λ b. b ≢ 10))
find_feed (b ∷ bytes) = found_first b bytes (b == 10) refl (find_feed bytes)

-- a dropped CR is one byte
pub length-stripped : (bytes : List ℕ) → length bytes ≤ length (strip_carriage_return bytes) + 1
length-stripped bytes = along (slice_index bytes (length bytes - 1) == 13)
  where
    along : (test : Bool) → length bytes ≤ length (cond test (take (length bytes - 1) bytes) bytes) + 1
    along true = omega (arith, length-take-le (length bytes - 1) bytes)
    along false = omega arith

-- if more bytes than the longest line and a CR have no LF among them, their line is too long
pub too_long : (bytes : List ℕ) → HasNoLineFeed bytes → longest_line + 1 < length bytes → IsTooLong bytes
too_long bytes none long more =
    elim (find_feed more) [
      | inl (front, behind, is) ↦
          let whole = parted_after bytes more front behind none is in (
            strip_carriage_return (bytes ++ front),
            lines behind,
            ap lines whole.parts ∙ lines-parted (bytes ++ front) behind whole.first,
            omega (arith, length-stripped (bytes ++ front), length-append bytes front, long),
          )
      | inr no_more ↦ (
        bytes ++ more,
        [],
        lines-alone (bytes ++ more) (no_feed-append bytes more none no_more) (λ e. let n = ap length e in absurd (omega (arith, n, length-append bytes more, long))),
        omega (arith, length-append bytes more, long),
      )
    ]

-- ---- looking for the first LF

cond_none : (b : Bool) (n : ℕ) → cond b (Some n) None ≡ None → b ≡ false
cond_none true n h = cc
cond_none false n h = refl

-- if there is one, it splits the bytes there
pub parted_at : (bytes : List ℕ) (place : ℕ) → position (λ b. b == 10) bytes ≡ Some place → IsParted bytes (take place bytes) (drop (place + 1) bytes)
parted_at bytes place h =
    let p : ℕ → Bool = λ b. b == 10 in
    let found = cond_some (nat_lt (position_or_len p bytes) (length bytes)) (position_or_len p bytes) place h in
    let inside : position_or_len p bytes < length bytes = search (arith, found.0) in
    let passes : (get_or bytes (position_or_len p bytes) 0 == 10) ≡ true = passes_at_first p bytes 0 inside in
    let at : get_or bytes (position_or_len p bytes) 0 ≡ 10 = eqb-true _ 10 passes in
    let first : All (λ b. b ≢ 10) (take place bytes) = λ k d within same.
    let short : k < position_or_len p bytes = omega (arith, found.1, within, length-take place bytes) in
    let fails : (get_or bytes k d == 10) ≡ false = fails_before_first p bytes k d short in
    let here : get_or bytes k d ≡ 10 = sym (get_or-take place bytes k d (omega (arith, short, found.1))) ∙ same in
    let both : true ≡ false = sym (ap (λ c. c == 10) here) ∙ fails in
    cc in
    record {
      parts = subst (λ n. bytes ≡ take n bytes ++ 10 ∷ drop (n + 1) bytes) found.1 (split_at_first p bytes 0 inside ∙ ap (λ b. take (position_or_len p bytes) bytes ++ b ∷ drop (position_or_len p bytes + 1) bytes) at);
      first = first;
    }

-- if there is none, there is none in the bytes
pub no_feed_at : (bytes : List ℕ) → position (λ b. b == 10) bytes ≡ None → HasNoLineFeed bytes
no_feed_at bytes h k d within same =
    let p : ℕ → Bool = λ b. b == 10 in
    let out = cond_none (nat_lt (position_or_len p bytes) (length bytes)) (position_or_len p bytes) h in
    let fails : (get_or bytes k d == 10) ≡ false = fails_before_first p bytes k d (search (arith, out, within)) in
    let both : true ≡ false = sym (ap (λ c. c == 10) same) ∙ fails in
    cc
