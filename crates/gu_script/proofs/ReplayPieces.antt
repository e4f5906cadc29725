-- A script while it is read: the lines that a piece ends, and the bytes that wait for more.
use Rattle.gu_script.proofs.Words.{◌≡◌, ◌≢◌, ◌∙◌, ℕ, ◌+◌, ◌<◌, ◌≤◌, Bool, true, false, ◌&&◌, ◌==◌, nat_le, List, [], ◌∷◌, ◌++◌, length, refl, sym, ap, subst, append_assoc, append-nil, length-append, arith, Result, Ok, Err, lines, strip_carriage_return, IsErrAnd, IsErrOf, OnOk, All-nil, Course, HasNoLineFeed, IsParted, IsTooLong, LeavesOpen, is_silent, longest_line, IsBad, AnswersEnd, AnswersEnded, AnswersPiece, Place, StopsInPiece, TakesPiece, AnswersLines}
use Rattle.gu_text.specs.declared.error.TextError.{TextError}
use Rattle.gu_text.specs.declared.error.TextError.TheVariants as text_error
use Rattle.gu_text.proofs.LineFeedLaws.{leaves_all, leaves_after, leaves_on, lines-alone, no_feed-append, parted_after}
use Rattle.gu_script.proofs.ReplayTexts.{lines_none, lines_then}

-- ---- a piece

-- so far the lines that the piece ends are answered: the script is at this place, and this is left of the piece
pub record Taking (old : Place) (piece : List ℕ) (now : Place) (left before after : List ℕ) : Type 0 where
  pub text : List ℕ
  pub appended : after ≡ before ++ text
  pub answers : AnswersEnded old (old.rest ++ piece) text now (now.rest ++ left)
  pub none : HasNoLineFeed now.rest
  pub room : now.count + length left ≤ old.count + length piece

pub taking_none : (old : Place) (piece before : List ℕ) → HasNoLineFeed old.rest → Taking old piece old piece before before
taking_none old piece before none = record {
  text = [];
  appended = sym (append-nil before);
  answers = record { ended = []; leaves = leaves_all (old.rest ++ piece); of_lines = lines_none old.course; count_is = omega arith };
  none = none;
  room = omega arith;
}

-- one more line
pub taking_line : (old now new : Place) (piece left part next before after later : List ℕ) → Taking old piece now left before after → IsParted left part next
    → AnswersLines now.course (strip_carriage_return (now.rest ++ part) ∷ []) after new.course later → new.count ≡ now.count + 1 → new.rest ≡ [] → Taking old piece new next before later
taking_line old now new piece left part next before after later taking is line counted done =
    let all = taking.answers in
    let parted = parted_after now.rest left part next taking.none is in
    record {
      text = taking.text ++ line.text;
      appended = line.appended ∙ ap (λ (t : List ℕ). t ++ line.text) taking.appended ∙ append_assoc before taking.text line.text;
      answers = record {
        ended = all.ended ++ strip_carriage_return (now.rest ++ part) ∷ [];
        leaves = subst (λ (r : List ℕ). LeavesOpen (old.rest ++ piece) (all.ended ++ strip_carriage_return (now.rest ++ part) ∷ []) (r ++ next)) (sym done)
            (leaves_on (old.rest ++ piece) (now.rest ++ left) next all.ended (strip_carriage_return (now.rest ++ part) ∷ []) all.leaves
            (leaves_after (now.rest ++ left) (now.rest ++ part) next parted));
        of_lines = lines_then old.course now.course new.course all.ended (strip_carriage_return (now.rest ++ part) ∷ []) taking.text line.text all.of_lines line.of_lines;
        count_is = omega (arith, all.count_is, counted, length-append all.ended (strip_carriage_return (now.rest ++ part) ∷ []));
      };
      none = subst (λ (r : List ℕ). HasNoLineFeed r) (sym done) (All-nil (λ (b : ℕ). b ≢ 10));
      room = let parts = ap length is.parts in omega (arith, taking.room, counted, parts, length-append part (10 ∷ next));
    }

-- no LF is left: the rest waits
pub taking_kept : (old now new : Place) (piece left before after : List ℕ) → Taking old piece now left before after → HasNoLineFeed (now.rest ++ left) → new ≡ record now { rest = now.rest ++ left }
    → (text : List ℕ) × (after ≡ before ++ text) × TakesPiece old piece text new
taking_kept old now new piece left before after taking none same =
    let all = taking.answers in (
      taking.text,
      taking.appended,
      subst (TakesPiece old piece taking.text) (sym same) (record {
        answers = record { ended = all.ended; leaves = all.leaves; of_lines = all.of_lines; count_is = all.count_is };
        none = none;
      }),
    )

-- ---- bad lines

and_no : (a b : Bool) → b ≡ false → (a && b) ≡ false
and_no true b h = h
and_no false b h = refl

-- a line that is too long isn't silent, not even as a comment
long_speaks : (text : List ℕ) → longest_line < length text → is_silent text ≡ false
long_speaks [] long = absurd (omega (arith, long))
long_speaks (first ∷ rest) long = and_no (first == 35) (nat_le (length (first ∷ rest)) longest_line) (above (length (first ∷ rest)) long)
  where
    above : (n : ℕ) → longest_line < n → nat_le n longest_line ≡ false
    above n h = search (arith, h)

-- and is bad
pub long_is_bad : (text : List ℕ) → longest_line < length text → IsBad text
long_is_bad text long = record { speaks = long_speaks text long; nothing = λ said says. omega (arith, says.short, long) }

-- the line that ends next is bad
pub taking_bad : (old now : Place) (piece left part next before after : List ℕ) (number : ℕ) → Taking old piece now left before after → IsParted left part next
    → IsBad (strip_carriage_return (now.rest ++ part)) → number ≡ now.count + 1 → (text : List ℕ) × (after ≡ before ++ text) × StopsInPiece old piece text number
taking_bad old now piece left part next before after number taking is bad number_is =
    let all = taking.answers in (
      taking.text,
      taking.appended,
      record {
        before = all.ended;
        left = now.rest ++ left;
        last = now.course;
        leaves = all.leaves;
        of_lines = all.of_lines;
        bad = λ more. record {
          bad = strip_carriage_return (now.rest ++ part);
          after = lines (next ++ more);
          parts = (leaves_after (now.rest ++ left) (now.rest ++ part) next (parted_after now.rest left part next taking.none is)).lines_are more;
          is_bad = bad;
        };
        number_is = omega (arith, number_is, all.count_is);
      },
    )

-- the waiting bytes are longer than any valid line
pub taking_long : (old now : Place) (piece left before after : List ℕ) (number : ℕ) → Taking old piece now left before after → IsTooLong (now.rest ++ left) → number ≡ now.count + 1
    → (text : List ℕ) × (after ≡ before ++ text) × StopsInPiece old piece text number
taking_long old now piece left before after number taking long number_is =
    let all = taking.answers in (
      taking.text,
      taking.appended,
      record {
        before = all.ended;
        left = now.rest ++ left;
        last = now.course;
        leaves = all.leaves;
        of_lines = all.of_lines;
        bad = λ more. let is = long more in record { bad = is.0; after = is.1; parts = is.2; is_bad = long_is_bad is.0 is.3 };
        number_is = omega (arith, number_is, all.count_is);
      },
    )

-- ---- results of a piece, and of the end

-- if a line was refused
pub piece_refused : (result : Result (Unit {0}) TextError) (error : TextError) (old now new : Place) (piece left part next before after later : List ℕ) → IsErrAnd result (λ e. e ≡ error)
    → Taking old piece now left before after → IsParted left part next
    → ((n : ℕ) → error ≡ text_error.BadLine n → (n ≡ now.count + 1) × IsBad (strip_carriage_return (now.rest ++ part)) × (later ≡ after)) → AnswersPiece result old piece before new later
piece_refused (Ok _) error old now new piece left part next before after later passed taking is bad = absurd passed
piece_refused (Err text_error.Memory) error old now new piece left part next before after later passed taking is bad = tt
piece_refused (Err (text_error.BadLine n)) error old now new piece left part next before after later passed taking is bad =
    let line = bad n (sym passed) in
    let stops = taking_bad old now piece left part next before after n taking is line.1 line.0 in
    (stops.0, line.2 ∙ stops.1, stops.2)

-- if the rest is kept, or too long
pub piece_kept : (result : Result (Unit {0}) TextError) (old now new : Place) (piece left before after : List ℕ) → Taking old piece now left before after → HasNoLineFeed left
    → OnOk result (new ≡ record now { rest = now.rest ++ left }) → ((n : ℕ) → IsErrOf result (text_error.BadLine n) → (n ≡ now.count + 1) × IsTooLong (now.rest ++ left))
    → AnswersPiece result old piece before new after
piece_kept (Ok _) old now new piece left before after taking none kept bad = taking_kept old now new piece left before after taking (no_feed-append now.rest left taking.none none) kept
piece_kept (Err text_error.Memory) old now new piece left before after taking none kept bad = tt
piece_kept (Err (text_error.BadLine n)) old now new piece left before after taking none kept bad =
    let long = bad n refl in
    taking_long old now piece left before after n taking long.1 long.0

-- if the last line was refused
pub end_refused : (result : Result (Unit {0}) TextError) (error : TextError) (old : Place) (new : Course) (before : List ℕ) → IsErrAnd result (λ e. e ≡ error)
    → ((n : ℕ) → error ≡ text_error.BadLine n → (n ≡ old.count + 1) × IsBad old.rest) → HasNoLineFeed old.rest → old.rest ≢ [] → AnswersEnd result old before new before
end_refused (Ok _) error old new before passed bad none some = absurd passed
end_refused (Err text_error.Memory) error old new before passed bad none some = tt
end_refused (Err (text_error.BadLine n)) error old new before passed bad none some =
    let line = bad n (sym passed) in
    (record { line = lines-alone old.rest none some; is_bad = line.1; number_is = line.0 }, refl)

-- the last line is the only one of the rest
pub end_answered : (old new : Course) (rest before after : List ℕ) → HasNoLineFeed rest → rest ≢ [] → AnswersLines old (rest ∷ []) before new after → AnswersLines old (lines rest) before new after
end_answered old new rest before after none some line = subst (λ (ls : List (List ℕ)). AnswersLines old ls before new after) (sym (lines-alone rest none some)) line

-- bytes that aren't empty
pub some_bytes : (bytes : List ℕ) → length bytes ≢ 0 → bytes ≢ []
some_bytes bytes long is = long (ap length is)
