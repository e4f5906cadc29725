-- Reading a sheet piece by piece.
use Rattle.std.proofs.Common.{◌≡◌, ◌≢◌, ◌∙◌, ℕ, ◌+◌, ◌<◌, ◌≤◌, Bool, true, false, ◌&&◌, ◌||◌, ◌==◌, nat_le, nat_lt, List, [], ◌∷◌, ◌++◌, None, Some, length, slice_get, take, Result, Ok, Err, IfErr, IfOk, IsErrAnd, refl, sym, ap, subst, append_assoc, append-nil, length-append, arith, inl, inr}
use Rattle.std.specs.Str.Lines.{lines, strip_carriage_return}
use Rattle.std.proofs.lemmas.Bool.{cond-false, cond-true, lt-ltb, or_left}
use Rattle.std.proofs.lemmas.List.Elements.{All-nil}
use Rattle.gu_text.specs.LineFeeds.{HasNoLineFeed, IsParted, LeavesOpen}
use Rattle.gu_text.specs.Lines.{is_silent, longest_line}
use Rattle.gu_text.specs.Reading.{IsReadTo}
use Rattle.gu_text.specs.SheetLines.{said_by, says, spoken}
use Rattle.gu_text.specs.Words.{is_ragged, words_of}
use Rattle.gu_text.specs.SheetPieces.{IsBadHowever, IsReadSoFar, IsReadUpTo, IsReadWhole, SheetPlace}
use Rattle.gu_text.specs.SheetParts.{SheetParts}
use Rattle.gu_text.specs.Sheets.{AreRight, IsFirstBad, IsRightAfter, IsSheet, Refuses, said_in}
use Rattle.gu_text.specs.declared.error.TextError.{TextError}
use Rattle.gu_text.specs.declared.error.TextError.TheVariants.{Memory, BadLine}
use Rattle.gu_text.specs.declared.sheet.Sheet.{Sheet}
use Rattle.gu_text.specs.declared.sheet_line.SheetLine.{SheetLine}
use Rattle.gu_text.specs.declared.sheet_so_far.SheetSoFar.{SheetSoFar}
use Rattle.gu_text.specs.declared.sheet_so_far.SheetSoFar.TheVariants.{Open, Ended}
use Rattle.gu_text.proofs.LineFeedLaws.{leaves_all, leaves_after, leaves_on, leaves_with, lines-alone, lines-left, no_feed-append, parted_after, too_long}
use Rattle.gu_text.proofs.SheetLemmas.{unended_read}

-- ---- bad lines

-- lines that were read are right
right_so_far : (before : List (List ℕ)) (so_far : SheetSoFar) → IsReadTo before so_far → AreRight before
right_so_far before (Open parts) read = read.right
right_so_far before (Ended sheet) read = read.right

taken_first : (before after : List (List ℕ)) → take (length before) (before ++ after) ≡ before
taken_first [] after = refl
taken_first (x ∷ before) after = ap (λ ls. x ∷ ls) (taken_first before after)

at_next : (before : List (List ℕ)) (line : List ℕ) (after : List (List ℕ)) → slice_get (before ++ line ∷ after) (length before) ≡ Some line
at_next [] line after = refl
at_next (x ∷ before) line after = at_next before line after

-- a line after right ones that isn't right is the first bad one
bad_next : (before : List (List ℕ)) (line : List ℕ) (after : List (List ℕ)) → AreRight before → ¬ IsRightAfter (said_in before) line → IsFirstBad (before ++ line ∷ after) (length before + 1)
bad_next before line after right bad =
    let same = taken_first before (line ∷ after) in
    record {
      place = length before;
      line = line;
      at = at_next before line after;
      before = rw same right;
      bad = rw same bad;
      number_is = refl;
    }

and_no : (a b : Bool) → b ≡ false → (a && b) ≡ false
and_no true b h = h
and_no false b h = refl

-- a line that is too long isn't silent, not even as a comment
long_speaks : (text : List ℕ) → longest_line < length text → is_silent text ≡ false
long_speaks [] long = absurd (omega (arith, long))
long_speaks (first ∷ rest) long = and_no (first == 35) (nat_le (length (first ∷ rest)) longest_line) (above (length (first ∷ rest)) long)
  where
    above : (n : ℕ) → longest_line < n → nat_le n longest_line ≡ false
    above n h = search (arith, h)

-- nor does it have any content
long_says : (text : List ℕ) → longest_line < length text → says text ≡ None
long_says text long =
    cond-false (is_silent text) None (spoken text) (long_speaks text long)
    ∙ cond-true (nat_lt longest_line (length text) || is_ragged text) None (said_by (words_of text)) (or_left (nat_lt longest_line (length text)) (is_ragged text) (lt-ltb longest_line (length text) long))

-- so it is wrong
pub long_is_wrong : (said : List SheetLine) (text : List ℕ) → longest_line < length text → ¬ IsRightAfter said text
long_is_wrong said text long right =
    elim right [
      | inl silent ↦ let e : true ≡ false = sym silent ∙ long_speaks text long in cc
      | inr speaks ↦ let e : None ≡ Some speaks.0 = sym (long_says text long) ∙ speaks.1 in cc
    ]

-- ---- a piece

-- so far the lines that the piece ends are read: the sheet is at this place, and this is left of the piece
pub record Taking (old : SheetPlace) (piece : List ℕ) (now : SheetPlace) (left : List ℕ) : Type 0 where
  pub read : (text : List ℕ) → IsReadSoFar text old → IsReadUpTo (text ++ piece) now.so_far now.count (now.rest ++ left)
  pub none : HasNoLineFeed now.rest
  pub room : now.count + length left ≤ old.count + length piece

pub taking_none : (old : SheetPlace) (piece : List ℕ) → HasNoLineFeed old.rest → Taking old piece old piece
taking_none old piece none = record {
  read = λ text so_far. record { ended = so_far.ended; leaves = leaves_with text piece old.rest so_far.ended so_far.leaves; read = so_far.read; count_is = so_far.count_is };
  none = none;
  room = omega arith;
}

-- the next line is ended
next_line : (now : SheetPlace) (left part next : List ℕ) (whole : List ℕ) (ended : List (List ℕ)) → HasNoLineFeed now.rest → IsParted left part next → LeavesOpen whole ended (now.rest ++ left)
    → LeavesOpen whole (ended ++ strip_carriage_return (now.rest ++ part) ∷ []) next
next_line now left part next whole ended none is leaves =
    leaves_on whole (now.rest ++ left) next ended (strip_carriage_return (now.rest ++ part) ∷ []) leaves (leaves_after (now.rest ++ left) (now.rest ++ part) next (parted_after now.rest left part next none is))

-- one more line
pub taking_line : (old now new : SheetPlace) (piece left part next : List ℕ) → Taking old piece now left → IsParted left part next
    → ((before : List (List ℕ)) → IsReadTo before now.so_far → IsReadTo (before ++ strip_carriage_return (now.rest ++ part) ∷ []) new.so_far) → new.count ≡ now.count + 1 → new.rest ≡ [] → Taking old piece new next
taking_line old now new piece left part next taking is line counted done = record {
  read = λ text so_far.
      let all = taking.read text so_far in
      let one = strip_carriage_return (now.rest ++ part) ∷ [] in
      record {
        ended = all.ended ++ one;
        leaves = subst (λ (r : List ℕ). LeavesOpen (text ++ piece) (all.ended ++ one) (r ++ next)) (sym done) (next_line now left part next (text ++ piece) all.ended taking.none is all.leaves);
        read = line all.ended all.read;
        count_is = omega (arith, all.count_is, counted, length-append all.ended one);
      };
  none = subst (λ (r : List ℕ). HasNoLineFeed r) (sym done) (All-nil (λ (b : ℕ). b ≢ 10));
  room = let parts = ap length is.parts in omega (arith, taking.room, counted, parts, length-append part (10 ∷ next));
}

-- no LF is left: the rest waits
pub taking_kept : (old now new : SheetPlace) (piece left : List ℕ) → Taking old piece now left → new ≡ record now { rest = now.rest ++ left } → (text : List ℕ) → IsReadSoFar text old → IsReadSoFar (text ++ piece) new
taking_kept old now new piece left taking same text so_far =
    let all = taking.read text so_far in
    subst (IsReadSoFar (text ++ piece)) (sym same) (record { ended = all.ended; leaves = all.leaves; read = all.read; count_is = all.count_is })

-- the line that ends next is bad
pub taking_bad : (old now : SheetPlace) (piece left part next : List ℕ) (number : ℕ) → Taking old piece now left → IsParted left part next
    → ((before : List (List ℕ)) → IsReadTo before now.so_far → ¬ IsRightAfter (said_in before) (strip_carriage_return (now.rest ++ part))) → number ≡ now.count + 1
    → (text : List ℕ) → IsReadSoFar text old → IsBadHowever (text ++ piece) number
taking_bad old now piece left part next number taking is bad number_is text so_far more =
    let all = taking.read text so_far in
    let line = strip_carriage_return (now.rest ++ part) in
    let parts : lines ((text ++ piece) ++ more) ≡ all.ended ++ line ∷ lines (next ++ more) =
    (next_line now left part next (text ++ piece) all.ended taking.none is all.leaves).lines_are more ∙ append_assoc all.ended (line ∷ []) (lines (next ++ more)) in
    let number_of : number ≡ length all.ended + 1 = omega (arith, number_is, all.count_is) in
    rw (parts, number_of) (bad_next all.ended line (lines (next ++ more)) (right_so_far all.ended now.so_far all.read) (bad all.ended all.read))

-- the waiting bytes are longer than any valid line
pub taking_long : (old now : SheetPlace) (piece left : List ℕ) (number : ℕ) → Taking old piece now left → HasNoLineFeed left → longest_line + 1 < length (now.rest ++ left) → number ≡ now.count + 1
    → (text : List ℕ) → IsReadSoFar text old → IsBadHowever (text ++ piece) number
taking_long old now piece left number taking none long number_is text so_far more =
    let all = taking.read text so_far in
    let is = too_long (now.rest ++ left) (no_feed-append now.rest left taking.none none) long more in
    let parts : lines ((text ++ piece) ++ more) ≡ all.ended ++ is.0 ∷ is.1 = all.leaves.lines_are more ∙ ap (λ (ls : List (List ℕ)). all.ended ++ ls) is.2 in
    let number_of : number ≡ length all.ended + 1 = omega (arith, number_is, all.count_is) in
    rw (parts, number_of) (bad_next all.ended is.0 is.1 (right_so_far all.ended now.so_far all.read) (long_is_wrong (said_in all.ended) is.0 is.3))

-- ---- the end

-- before the first piece
pub read_none : (place : SheetPlace) → IsReadTo [] place.so_far → place.count ≡ 0 → place.rest ≡ [] → IsReadSoFar [] place
read_none place read count rest = record { ended = []; leaves = subst (λ (r : List ℕ). LeavesOpen [] [] r) (sym rest) (leaves_all []); read = read; count_is = count }

-- nothing waits
pub whole_ended : (text : List ℕ) (place : SheetPlace) → IsReadSoFar text place → place.rest ≡ [] → IsReadWhole text place.so_far place.count
whole_ended text place read done =
    let all : lines text ≡ read.ended = lines-left text place.rest read.ended read.leaves ∙ ap (λ (r : List ℕ). read.ended ++ lines r) done ∙ append-nil read.ended in
    record { read = rw all read.read; count_is = read.count_is ∙ ap length (sym all) }

-- the rest is the last line
pub whole_last : (text : List ℕ) (place : SheetPlace) (so_far : SheetSoFar) → IsReadSoFar text place → HasNoLineFeed place.rest → place.rest ≢ []
    → ((before : List (List ℕ)) → IsReadTo before place.so_far → IsReadTo (before ++ place.rest ∷ []) so_far) → IsReadWhole text so_far (place.count + 1)
whole_last text place so_far read none some line =
    let all : lines text ≡ read.ended ++ place.rest ∷ [] = lines-left text place.rest read.ended read.leaves ∙ ap (λ (ls : List (List ℕ)). read.ended ++ ls) (lines-alone place.rest none some) in
    record { read = rw all (line read.ended read.read); count_is = omega (arith, ap length all, read.count_is, length-append read.ended (place.rest ∷ [])) }

-- the last line is bad
pub last_bad : (text : List ℕ) (place : SheetPlace) (number : ℕ) → IsReadSoFar text place → HasNoLineFeed place.rest → place.rest ≢ []
    → ((before : List (List ℕ)) → IsReadTo before place.so_far → ¬ IsRightAfter (said_in before) place.rest) → number ≡ place.count + 1 → IsFirstBad (lines text) number
last_bad text place number read none some bad number_is =
    let all : lines text ≡ read.ended ++ place.rest ∷ [] = lines-left text place.rest read.ended read.leaves ∙ ap (λ (ls : List (List ℕ)). read.ended ++ ls) (lines-alone place.rest none some) in
    let number_of : number ≡ length read.ended + 1 = omega (arith, number_is, read.count_is) in
    rw (all, number_of) (bad_next read.ended place.rest [] (right_so_far read.ended place.so_far read.read) (bad read.ended read.read))

-- the sheet, if its end was read
pub whole_sheet : (text : List ℕ) (so_far : SheetSoFar) (count : ℕ) (sheet : Sheet) → IsReadWhole text so_far count → so_far ≡ Ended sheet → IsSheet text sheet
whole_sheet text so_far count sheet read is = subst (IsReadTo (lines text)) is read.read

-- the missing line, if it wasn't
pub whole_unended : (text : List ℕ) (so_far : SheetSoFar) (count number : ℕ) (parts : SheetParts) → IsReadWhole text so_far count → so_far ≡ Open parts → number ≡ count + 1 → Refuses text (BadLine number)
whole_unended text so_far count number parts read is number_is = inr (record {
  right = (subst (IsReadTo (lines text)) is read.read).right;
  unended = unended_read (lines text) parts (subst (IsReadTo (lines text)) is read.read);
  number_is = omega (arith, number_is, read.count_is);
})

-- ---- the result at the end

pub given_sheet : (result : Result Sheet TextError) (place : SheetPlace) (so_far : SheetSoFar) (count : ℕ) → ((text : List ℕ) → IsReadSoFar text place → IsReadWhole text so_far count)
    → IfOk result (λ sheet. so_far ≡ Ended sheet) → IfOk result (λ sheet. (text : List ℕ) → IsReadSoFar text place → IsSheet text sheet)
given_sheet (Ok sheet) place so_far count whole is = λ text read. whole_sheet text so_far count sheet (whole text read) is
given_sheet (Err error) place so_far count whole is = tt

pub given_error : (result : Result Sheet TextError) (place : SheetPlace) (so_far : SheetSoFar) (count : ℕ) → ((text : List ℕ) → IsReadSoFar text place → IsReadWhole text so_far count)
    → IfErr result (λ error. (error ≡ BadLine (count + 1)) × ((parts : SheetParts) × (so_far ≡ Open parts))) → IfErr result (λ error. (text : List ℕ) → IsReadSoFar text place → Refuses text error)
given_error (Ok sheet) place so_far count whole is = tt
given_error (Err error) place so_far count whole is = λ text read. subst (Refuses text) (sym is.0) (whole_unended text so_far count (count + 1) is.1.0 (whole text read) is.1.1 refl)

-- the last line was refused
pub last_refused : {T : Type 0} (result : Result T TextError) (error : TextError) (place : SheetPlace) → IsErrAnd result (λ e. e ≡ error) → HasNoLineFeed place.rest → place.rest ≢ []
    → ((n : ℕ) → error ≡ BadLine n → (n ≡ place.count + 1) × ((before : List (List ℕ)) → IsReadTo before place.so_far → ¬ IsRightAfter (said_in before) place.rest))
    → IfErr result (λ e. (text : List ℕ) → IsReadSoFar text place → Refuses text e)
last_refused (Ok x) error place passed none some bad = absurd passed
last_refused (Err Memory) error place passed none some bad = λ text read. tt
last_refused (Err (BadLine n)) error place passed none some bad =
    λ text read. let line = bad n (sym passed) in inl (last_bad text place n read none some line.1 line.0)

-- ---- one piece, and the end

-- a text as one piece: it is refused for its bad line
pub piece_refused : {T : Type 0} (result : Result T TextError) (error : TextError) (text : List ℕ) → IsErrAnd result (λ e. e ≡ error) → ((n : ℕ) → error ≡ BadLine n → IsBadHowever ([] ++ text) n)
    → IfErr result (Refuses text)
piece_refused (Ok x) error text passed bad = tt
piece_refused (Err Memory) error text passed bad = tt
piece_refused (Err (BadLine n)) error text passed bad = inl (subst (λ (t : List ℕ). IsFirstBad (lines t) n) (append-nil text) (bad n (sym passed) []))

-- or at its end
pub end_refused : (result : Result Sheet TextError) (place : SheetPlace) (text : List ℕ) → IsReadSoFar text place → IfErr result (λ error. (t : List ℕ) → IsReadSoFar t place → Refuses t error) → IfErr result (Refuses text)
end_refused (Ok sheet) place text read refused = tt
end_refused (Err error) place text read refused = refused text read

-- bytes that aren't empty
pub some_bytes : (bytes : List ℕ) → length bytes ≢ 0 → bytes ≢ []
some_bytes bytes long is = long (ap length is)
