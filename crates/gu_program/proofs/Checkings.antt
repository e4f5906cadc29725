-- What a check read and wrote.
use Rattle.std.proofs.Common.{◌≡◌, ℕ, ◌+◌, ◌-◌, ◌*◌, ◌<◌, ◌≤◌, ◌==◌, Bool, true, false, zero, suc, List, [], ◌++◌, length, take, Option, Result, Ok, Err, refl, sym, ap, subst, append-nil, arith, inl, inr, ◌∙◌}
use Rattle.std.specs.Prelude.{IsErrAnd, OnOk}
use Rattle.std.specs.Io.KnownBytes.{Appends, Consumes, IsAtEnd, Keeps}
use Rattle.std.proofs.KnownBytes.{Consumes-kept, Consumes-nil, Consumes-trans}
use Rattle.gu_script.specs.Faults.{error_of}
use Rattle.gu_script.specs.declared.error.ScriptError.{ScriptError}
use Rattle.gu_script.specs.declared.error.ScriptError.TheVariants.{BadLine, Memory}
use Rattle.gu_streams.specs.Streams.{Streams}
use Rattle.gu_streams.specs.Written.{WrotePart}
use Rattle.gu_streams.proofs.Writing.{wrote_none}
use Rattle.gu_terms.specs.Takes.{lots_of}
use Rattle.gu_text.specs.SheetPieces.{IsBadHowever, IsReadSoFar, SheetPlace}
use Rattle.gu_text.specs.Sheets.{IsSheet, Refuses}
use Rattle.gu_text.specs.Verdicts.{verdict_text}
use Rattle.gu_text.specs.declared.error.TextError.{TextError}
use Rattle.gu_text.specs.declared.error.TextError.TheVariants as text_error
use Rattle.gu_text.specs.declared.sheet.Sheet.{Sheet}
use Rattle.gu_view.specs.Check.{verdict}
use Rattle.gu_view.specs.Takes.{IsGreatest}
use Rattle.gu_view.specs.declared.error.CutFault.{CutFault}
use Rattle.gu_program.specs.Checking.{Checked, CheckedInPart, ReadsBadLine, ReadsPart, ReadsSheet, status_after}
use Rattle.gu_words.specs.declared.status.Status.{Status}

-- ---- what is read

-- so far the pieces that were read are a sheet's up to this place
pub record Reading (place : SheetPlace) (input_old input_new : Option (List ℕ)) : Type 0 where
  pub read : List ℕ
  pub consumed : Consumes input_old input_new read
  pub so_far : IsReadSoFar read place

pub reading_none : (place : SheetPlace) (input : Option (List ℕ)) → IsReadSoFar [] place → Reading place input input
reading_none place input so_far = record { read = []; consumed = Consumes-nil input; so_far = so_far }

-- a piece more
pub reading_more : (place new : SheetPlace) (i j k : Option (List ℕ)) (piece : List ℕ) → Reading place i j → Consumes j k piece
    → ((text : List ℕ) → IsReadSoFar text place → IsReadSoFar (text ++ piece) new) → Reading new i k
reading_more place new i j k piece run consumed more = record {
  read = run.read ++ piece;
  consumed = Consumes-trans i j k run.read piece run.consumed consumed;
  so_far = more run.read run.so_far;
}

-- a bad line in it
pub reading_bad : (place : SheetPlace) (i j k : Option (List ℕ)) (piece : List ℕ) (number : ℕ) → Reading place i j → Consumes j k piece
    → ((text : List ℕ) → IsReadSoFar text place → IsBadHowever (text ++ piece) number) → ReadsBadLine number i k
reading_bad place i j k piece number run consumed bad = record {
  read = run.read ++ piece;
  consumed = Consumes-trans i j k run.read piece run.consumed consumed;
  bad = inl (bad run.read run.so_far);
}

-- a part, in any case
pub reading_part : (place : SheetPlace) (i j k : Option (List ℕ)) (piece : List ℕ) → Reading place i j → Consumes j k piece → ReadsPart i k
reading_part place i j k piece run consumed = record { read = run.read ++ piece; consumed = Consumes-trans i j k run.read piece run.consumed consumed }

-- nothing more was read
at_end : (place : SheetPlace) (i j k : Option (List ℕ)) (n : ℕ) (buffer : List ℕ) → n ≡ 0 → Reading place i j → Consumes j k (take n buffer) → Reading place i k
at_end place i j k n buffer none run consumed =
    let nothing : Consumes j k [] = subst (λ (m : ℕ). Consumes j k (take m buffer)) none consumed in record {
      read = run.read;
      consumed = subst (Consumes i k) (append-nil run.read) (Consumes-trans i j k run.read [] run.consumed nothing);
      so_far = run.so_far;
    }

-- so all of it is the sheet
pub ended_sheet : (place : SheetPlace) (i j k : Option (List ℕ)) (n : ℕ) (buffer : List ℕ) (sheet : Sheet) → n ≡ 0 → Reading place i j → Consumes j k (take n buffer) → IsAtEnd k
    → ((text : List ℕ) → IsReadSoFar text place → IsSheet text sheet) → ReadsSheet sheet i k
ended_sheet place i j k n buffer sheet none run consumed end is_sheet =
    let all = at_end place i j k n buffer none run consumed in
    record { read = all.read; consumed = all.consumed; at_end = end; is_sheet = is_sheet all.read all.so_far }

-- or has the bad line
pub ended_bad : (place : SheetPlace) (i j k : Option (List ℕ)) (n : ℕ) (buffer : List ℕ) (number : ℕ) → n ≡ 0 → Reading place i j → Consumes j k (take n buffer) → IsAtEnd k
    → ((text : List ℕ) → IsReadSoFar text place → Refuses text (text_error.BadLine number)) → ReadsBadLine number i k
ended_bad place i j k n buffer number none run consumed end refused =
    let all = at_end place i j k n buffer none run consumed in
    record { read = all.read; consumed = all.consumed; bad = inr (end, refused all.read all.so_far) }

-- an error of the text, as it is passed on
pub text_passed : {T : Type 0} (result : Result T ScriptError) (error : TextError) (number : ℕ) → IsErrAnd result (λ e. e ≡ error_of error) → result ≡ Err (BadLine number) → error ≡ text_error.BadLine number
text_passed (Ok x) error number passed is = absurd passed
text_passed (Err e) text_error.Memory number passed is =
    let same : e ≡ BadLine number = cc in
    let both : Memory ≡ BadLine number = sym passed ∙ same in
    cc
text_passed (Err e) (text_error.BadLine n) number passed is =
    let same : e ≡ BadLine number = cc in
    let both : BadLine n ≡ BadLine number = sym passed ∙ same in
    cc

-- no more lines than bytes, and 4,096 bytes a read at most
pub room_more : (count new piece n left next all : ℕ) → count + 4096 * left ≤ all → new ≤ count + piece → piece ≤ n → n ≤ 4096 → next ≡ left - 1 → 0 < left → new + 4096 * next ≤ all
room_more count new piece n left next all room counted within short next_is some = omega (arith, room, counted, within, short, next_is, some)

-- a reader that isn't spent has a read left
pub some_left : (left : ℕ) (spent : Bool) → spent ≡ (left == 0) → spent ≡ false → 0 < left
some_left zero spent is not = let both : true ≡ false = sym is ∙ not in absurd (cc)
some_left (suc n) spent is not = omega arith

-- ---- what is written

-- nothing
pub checked_nothing : (streams : Streams) → ReadsPart streams.input_old streams.input_new → streams.output_new ≡ streams.output_old → CheckedInPart streams
checked_nothing streams part same = record {
  read = part.read;
  line = [];
  consumed = part.consumed;
  says = inl refl;
  wrote = subst (WrotePart [] streams.output_old) (sym same) (wrote_none [] streams.output_old);
}

-- a prefix of the verdict's line
pub checked_part : (streams : Streams) (sheet : Sheet) (line : List ℕ) (answer : Result ℕ CutFault) → ReadsSheet sheet streams.input_old streams.input_new
    → answer ≡ verdict sheet.view sheet.takes sheet.cut → OnOk answer (IsGreatest sheet.view (lots_of sheet.takes)) → line ≡ verdict_text answer → WrotePart line streams.output_old streams.output_new → CheckedInPart streams
checked_part streams sheet line answer all verdict_is greatest is part = record {
  read = all.read;
  line = line;
  consumed = all.consumed;
  says = inr (all.at_end, answer, record { sheet = sheet; is_sheet = all.is_sheet; is_verdict = verdict_is; greatest = greatest }, is);
  wrote = part;
}
