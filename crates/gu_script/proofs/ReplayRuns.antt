-- A script while it is played: what was read, what waits, and what was written.
use Rattle.gu_script.proofs.Words.{◌==◌, Bool, true, false, zero, suc, ◌≡◌, ◌≢◌, ◌∙◌, ℕ, ◌+◌, ◌-◌, ◌*◌, ◌<◌, ◌≤◌, List, [], ◌++◌, length, take, Option, Result, Ok, Err, refl, sym, ap, subst, append-nil, length-append, arith, inl, inr, lines, IsErrOf, OnOk, All-nil, Course, HasNoLineFeed, LeavesOpen, ended_lines, IsTextOfLines, AnswersEnd, AnswersPiece, Ended, Gives, Place, StopsInPiece, TakesPiece, WrotePart, Memory, Read, Write, BadLine, wrote_all, wrote_then}
use Rattle.std.specs.Io.KnownBytes.{Consumes, Appends, Keeps, IsAtEnd}
use Rattle.std.proofs.KnownBytes.{Appends-trans, Appends-nil, Consumes-trans, Consumes-nil, Consumes-kept}
use Rattle.gu_text.specs.declared.error.TextError.{TextError}
use Rattle.gu_text.specs.declared.error.TextError.TheVariants as text_error
use Rattle.gu_text.proofs.LineFeedLaws.{leaves_all, leaves_on, leaves_with, lines-left, ended_lines-left}
use Rattle.gu_script.specs.ScriptRuns.{Replayed, ReplayedInPart, ReplayedSoFar, StopsAtBadLine}
use Rattle.gu_streams.specs.Streams.{Streams}
use Rattle.gu_script.specs.declared.error.ScriptError.{ScriptError}
use Rattle.gu_script.proofs.ReplayTexts.{lines_none, lines_then}

module _ (old : Course) where
  -- so far the ended lines read are answered, and their text was written
  pub record Playing (place : Place) (input_old input_new output_old output_new : Option (List ℕ)) : Type 0 where
    pub read : List ℕ
    pub ended : List (List ℕ)
    pub text : List ℕ
    pub consumed : Consumes input_old input_new read
    pub leaves : LeavesOpen read ended place.rest
    pub none : HasNoLineFeed place.rest
    pub of_lines : IsTextOfLines old ended text place.course
    pub count_is : place.count ≡ length ended
    pub appended : Appends output_old output_new text

  -- before the first line
  pub playing_none : (place : Place) (input output : Option (List ℕ)) → place.course ≡ old → place.count ≡ 0 → place.rest ≡ [] → Playing place input input output output
  playing_none place input output course count rest = record {
    read = [];
    ended = [];
    text = [];
    consumed = Consumes-nil input;
    leaves = subst (λ (r : List ℕ). LeavesOpen [] [] r) (sym rest) (leaves_all []);
    none = subst (λ (r : List ℕ). HasNoLineFeed r) (sym rest) (All-nil (λ (b : ℕ). b ≢ 10));
    of_lines = subst (λ (s : Course). IsTextOfLines old [] [] s) (sym course) (lines_none old);
    count_is = count;
    appended = Appends-nil output;
  }

  -- one more piece
  pub playing_more : (mid new : Place) (i j k o p q : Option (List ℕ)) (piece more : List ℕ) → Playing mid i j o p → Consumes j k piece → TakesPiece mid piece more new → Appends p q more → Playing new i k o q
  playing_more mid new i j k o p q piece more run consumed takes sent = let all = takes.answers in record {
    read = run.read ++ piece;
    ended = run.ended ++ all.ended;
    text = run.text ++ more;
    consumed = Consumes-trans i j k run.read piece run.consumed consumed;
    leaves = leaves_on (run.read ++ piece) (mid.rest ++ piece) new.rest run.ended all.ended (leaves_with run.read piece mid.rest run.ended run.leaves) all.leaves;
    none = takes.none;
    of_lines = lines_then old mid.course new.course run.ended all.ended run.text more run.of_lines all.of_lines;
    count_is = omega (arith, run.count_is, all.count_is, length-append run.ended all.ended);
    appended = Appends-trans o p q run.text more run.appended sent;
  }

  -- nothing more was read
  pub playing_still : (place : Place) (i j k o p : Option (List ℕ)) → Playing place i j o p → Keeps j k → Playing place i k o p
  playing_still place i j k o p run keeps = record {
    read = run.read;
    ended = run.ended;
    text = run.text;
    consumed = Consumes-kept i j k run.read run.consumed keeps;
    leaves = run.leaves;
    none = run.none;
    of_lines = run.of_lines;
    count_is = run.count_is;
    appended = run.appended;
  }

module _ (old : Course) (waits_old waits_new : ℕ) where
  -- what was read and written in between
  abbrev between : (input_old input_new output_old output_new : Option (List ℕ)) → Streams
  between input_old input_new output_old output_new = record {
    input_old = input_old;
    input_new = input_new;
    waits_old = waits_old;
    waits_new = waits_new;
    output_old = output_old;
    output_new = output_new;
  }

  -- exactly the ended lines are answered
  pub played_so_far : (place : Place) (i j o p : Option (List ℕ)) → Playing old place i j o p → ReplayedSoFar old (between i j o p)
  played_so_far place i j o p run = record {
    read = run.read;
    text = run.text;
    last = place.course;
    consumed = run.consumed;
    of_lines = subst (λ (ls : List (List ℕ)). IsTextOfLines old ls run.text place.course) (sym (ended_lines-left run.read place.rest run.ended run.leaves run.none)) run.of_lines;
    appended = run.appended;
  }

  -- ---- prefixes

  -- a piece was read, and isn't answered
  pub in_part_unanswered : (place : Place) (i j k o p : Option (List ℕ)) (piece : List ℕ) → Playing old place i j o p → Consumes j k piece → ReplayedInPart old (between i k o p)
  in_part_unanswered place i j k o p piece run consumed = record {
    read = run.read ++ piece;
    first = run.ended;
    text = run.text;
    last = place.course;
    consumed = Consumes-trans i j k run.read piece run.consumed consumed;
    are_first = (ended_lines (place.rest ++ piece), inl (run.leaves.ended_are piece));
    of_lines = run.of_lines;
    wrote = wrote_all run.text o p run.appended;
  }

  -- everything read is answered
  pub in_part_now : (place : Place) (i j o p : Option (List ℕ)) → Playing old place i j o p → ReplayedInPart old (between i j o p)
  in_part_now place i j o p run = record {
    read = run.read;
    first = run.ended;
    text = run.text;
    last = place.course;
    consumed = run.consumed;
    are_first = ([], inl (ended_lines-left run.read place.rest run.ended run.leaves run.none ∙ sym (append-nil run.ended)));
    of_lines = run.of_lines;
    wrote = wrote_all run.text o p run.appended;
  }

  -- a piece was read, lines of it are answered, and a prefix of their text was written
  in_part_more : (mid : Place) (last : Course) (left : List ℕ) (more_ended : List (List ℕ)) (i j k o p q : Option (List ℕ)) (piece more : List ℕ) → Playing old mid i j o p → Consumes j k piece
      → LeavesOpen (mid.rest ++ piece) more_ended left → IsTextOfLines mid.course more_ended more last → WrotePart more p q → ReplayedInPart old (between i k o q)
  in_part_more mid last left more_ended i j k o p q piece more run consumed leaves of_lines part =
      let all = leaves_on (run.read ++ piece) (mid.rest ++ piece) left run.ended more_ended (leaves_with run.read piece mid.rest run.ended run.leaves) leaves in
      record {
        read = run.read ++ piece;
        first = run.ended ++ more_ended;
        text = run.text ++ more;
        last = last;
        consumed = Consumes-trans i j k run.read piece run.consumed consumed;
        are_first = (ended_lines (left ++ []), inl (ap ended_lines (sym (append-nil (run.read ++ piece))) ∙ all.ended_are []));
        of_lines = lines_then old mid.course last run.ended more_ended run.text more run.of_lines of_lines;
        wrote = wrote_then run.text more o p q run.appended part;
      }

  -- ---- bad lines

  -- a bad line came with a piece, and the text of the lines before it was written
  stops_in_piece : (mid : Place) (i j k o p q : Option (List ℕ)) (piece more : List ℕ) (number : ℕ) → Playing old mid i j o p → Consumes j k piece → StopsInPiece mid piece more number → Appends p q more
      → StopsAtBadLine old number (between i k o q)
  stops_in_piece mid i j k o p q piece more number run consumed stops sent =
      let all = leaves_on (run.read ++ piece) (mid.rest ++ piece) stops.left run.ended stops.before (leaves_with run.read piece mid.rest run.ended run.leaves) stops.leaves in
      record {
        text = run.text ++ more;
        has_bad_line = record {
          read = run.read ++ piece;
          consumed = Consumes-trans i j k run.read piece run.consumed consumed;
          ends = inl (λ rest. let line = stops.bad rest in record {
            before = run.ended ++ stops.before;
            bad = line.bad;
            after = line.after;
            last = stops.last;
            parts = all.lines_are rest ∙ ap (λ (ls : List (List ℕ)). (run.ended ++ stops.before) ++ ls) line.parts;
            number_is = omega (arith, stops.number_is, run.count_is, length-append run.ended stops.before);
            is_bad = line.is_bad;
            of_lines = lines_then old mid.course stops.last run.ended stops.before run.text more run.of_lines stops.of_lines;
          });
        };
        appended = Appends-trans o p q run.text more run.appended sent;
      }

  -- ---- results

  -- an error that isn't the reader's, with what was written
  pub record Stopped (error : ScriptError) (input_old input_new output_old output_new : Option (List ℕ)) : Type 0 where
    pub in_part : ReplayedInPart old (between input_old input_new output_old output_new)
    pub bad_line : (number : ℕ) → error ≡ BadLine number → StopsAtBadLine old number (between input_old input_new output_old output_new)
    pub not_read : error ≢ Read

  stopped_at : (i j o p : Option (List ℕ)) (number : ℕ) (error : ScriptError) → ReplayedInPart old (between i j o p) → StopsAtBadLine old number (between i j o p) → error ≡ BadLine number → Stopped error i j o p
  stopped_at i j o p number error in_part stops is = record {
    in_part = in_part;
    bad_line = λ n same. subst (λ (m : ℕ). StopsAtBadLine old m (between i j o p)) (number_of (sym is ∙ same)) stops;
    not_read = λ same. let both : BadLine number ≡ Read = sym is ∙ same in absurd (cc);
  }
    where
      number_of : {m n : ℕ} → BadLine m ≡ BadLine n → m ≡ n
      number_of h = cc

  stopped_by_write : (i j o p : Option (List ℕ)) (error : ScriptError) → ReplayedInPart old (between i j o p) → error ≡ Write → Stopped error i j o p
  stopped_by_write i j o p error in_part is = record {
    in_part = in_part;
    bad_line = λ n same. let both : Write ≡ BadLine n = sym is ∙ same in absurd (cc);
    not_read = λ same. let both : Write ≡ Read = sym is ∙ same in absurd (cc);
  }

  stopped_by_memory : (i j o p : Option (List ℕ)) (error : ScriptError) → ReplayedInPart old (between i j o p) → error ≡ Memory → Stopped error i j o p
  stopped_by_memory i j o p error in_part is = record {
    in_part = in_part;
    bad_line = λ n same. let both : Memory ≡ BadLine n = sym is ∙ same in absurd (cc);
    not_read = λ same. let both : Memory ≡ Read = sym is ∙ same in absurd (cc);
  }

  -- a piece is answered and the text written
  gave_piece : (mid new : Place) (answered : Result (Unit {0}) TextError) (given : Unit {0}) (i j k o p q : Option (List ℕ)) (piece after : List ℕ) → Playing old mid i j o p → Consumes j k piece
      → AnswersPiece answered mid piece [] new after → Gives answered (Ok given) after p q → Playing old new i k o q
  gave_piece mid new (Ok _) given i j k o p q piece after run consumed (text, appended, takes) sent =
      playing_more old mid new i j k o p q piece text run consumed takes (subst (Appends p q) appended sent)
  gave_piece mid new (Err text_error.Memory) given i j k o p q piece after run consumed answers gives = absurd gives
  gave_piece mid new (Err (text_error.BadLine number)) given i j k o p q piece after run consumed answers gives = absurd gives

  -- or there is an error
  gave_error : (mid new : Place) (answered : Result (Unit {0}) TextError) (error : ScriptError) (i j k o p q : Option (List ℕ)) (piece after : List ℕ) → Playing old mid i j o p → Consumes j k piece
      → AnswersPiece answered mid piece [] new after → Gives answered (Err error) after p q → Stopped error i k o q
  gave_error mid new (Ok _) error i j k o p q piece after run consumed (text, appended, takes) (is, part) =
      stopped_by_write i k o q error
      (in_part_more mid new.course new.rest takes.answers.ended i j k o p q piece text run consumed takes.answers.leaves takes.answers.of_lines (subst (λ (t : List ℕ). WrotePart t p q) appended part)) is
  gave_error mid new (Err text_error.Memory) error i j k o p q piece after run consumed answers (is, same) =
      stopped_by_memory i k o q error (subst (λ (w : Option (List ℕ)). ReplayedInPart old (between i k o w)) (sym same) (in_part_unanswered mid i j k o p piece run consumed)) is
  gave_error mid new (Err (text_error.BadLine number)) error i j k o p q piece after run consumed (text, appended, stops) (inl (is, sent)) =
      let sent_text = subst (Appends p q) appended sent in
      stopped_at i k o q number error
      (in_part_more mid stops.last stops.left stops.before i j k o p q piece text run consumed stops.leaves stops.of_lines (wrote_all text p q sent_text))
      (stops_in_piece mid i j k o p q piece text number run consumed stops sent_text) is
  gave_error mid new (Err (text_error.BadLine number)) error i j k o p q piece after run consumed (text, appended, stops) (inr (is, part)) =
      stopped_by_write i k o q error
      (in_part_more mid stops.last stops.left stops.before i j k o p q piece text run consumed stops.leaves stops.of_lines (subst (λ (t : List ℕ). WrotePart t p q) appended part)) is

  -- ---- the end

  -- the reader is at its end: the lines are the ended ones and the last
  in_part_of_all : (place : Place) (last : Course) (i j k o p q : Option (List ℕ)) (more : List ℕ) → Playing old place i j o p → Consumes j k [] → IsAtEnd k → IsTextOfLines place.course (lines place.rest) more last
      → WrotePart more p q → ReplayedInPart old (between i k o q)
  in_part_of_all place last i j k o p q more run consumed end of_lines part = record {
    read = run.read ++ [];
    first = run.ended ++ lines place.rest;
    text = run.text ++ more;
    last = last;
    consumed = Consumes-trans i j k run.read [] run.consumed consumed;
    are_first = ([], inr (end, ap lines (append-nil run.read) ∙ lines-left run.read place.rest run.ended run.leaves ∙ sym (append-nil (run.ended ++ lines place.rest))));
    of_lines = lines_then old place.course last run.ended (lines place.rest) run.text more run.of_lines of_lines;
    wrote = wrote_then run.text more o p q run.appended part;
  }

  ended_well : (place : Place) (last : Course) (given : Unit {0}) (i j k o p q : Option (List ℕ)) → Playing old place i j o p → Consumes j k [] → IsAtEnd k → Ended (Ok given) place last p q → Replayed old last (between i k o q)
  ended_well place last given i j k o p q run consumed end ended = by ended.answered ended.answers ended.gives
    where
      by : (answered : Result (Unit {0}) TextError) → AnswersEnd answered place [] last ended.text → Gives answered (Ok given) ended.text p q → Replayed old last (between i k o q)
      by (Ok _) ends sent = record {
        text = run.text ++ ends.text;
        all = record {
          read = run.read ++ [];
          consumed = Consumes-trans i j k run.read [] run.consumed consumed;
          at_end = end;
          of_lines = subst (λ (ls : List (List ℕ)). IsTextOfLines old ls (run.text ++ ends.text) last)
              (sym (ap lines (append-nil run.read) ∙ lines-left run.read place.rest run.ended run.leaves))
              (lines_then old place.course last run.ended (lines place.rest) run.text ends.text run.of_lines ends.of_lines);
        };
        appended = Appends-trans o p q run.text ends.text run.appended (subst (Appends p q) ends.appended sent);
      }
      by (Err text_error.Memory) ends sent = absurd sent
      by (Err (text_error.BadLine number)) ends sent = absurd sent

  ended_badly : (place : Place) (last : Course) (error : ScriptError) (i j k o p q : Option (List ℕ)) → Playing old place i j o p → Consumes j k [] → IsAtEnd k → Ended (Err error) place last p q → Stopped error i k o q
  ended_badly place last error i j k o p q run consumed end ended = by ended.answered ended.answers ended.gives
    where
      here : ReplayedInPart old (between i k o p)
      here = in_part_unanswered place i j k o p [] run consumed

      in_part_with : WrotePart [] p q → ReplayedInPart old (between i k o q)
      in_part_with part = in_part_more place place.course (place.rest ++ []) [] i j k o p q [] [] run consumed (leaves_all (place.rest ++ [])) (lines_none place.course) part

      by : (answered : Result (Unit {0}) TextError) → AnswersEnd answered place [] last ended.text → Gives answered (Err error) ended.text p q → Stopped error i k o q
      by (Ok _) ends (is, part) =
          stopped_by_write i k o q error (in_part_of_all place last i j k o p q ends.text run consumed end ends.of_lines (subst (λ (t : List ℕ). WrotePart t p q) ends.appended part)) is
      by (Err text_error.Memory) ends (is, same) = stopped_by_memory i k o q error (subst (λ (w : Option (List ℕ)). ReplayedInPart old (between i k o w)) (sym same) here) is
      by (Err (text_error.BadLine number)) (bad, nothing) (inl (is, sent)) =
          stopped_at i k o q number error (in_part_with (wrote_all [] p q (subst (Appends p q) nothing sent))) (record {
            text = run.text ++ [];
            has_bad_line = record {
              read = run.read ++ [];
              consumed = Consumes-trans i j k run.read [] run.consumed consumed;
              ends = inr (
                end,
                record {
                  before = run.ended;
                  bad = place.rest;
                  after = [];
                  last = place.course;
                  parts = ap lines (append-nil run.read) ∙ lines-left run.read place.rest run.ended run.leaves ∙ ap (λ (ls : List (List ℕ)). run.ended ++ ls) bad.line;
                  number_is = omega (arith, bad.number_is, run.count_is);
                  is_bad = bad.is_bad;
                  of_lines = subst (λ (t : List ℕ). IsTextOfLines old run.ended t place.course) (sym (append-nil run.text)) run.of_lines;
                },
              );
            };
            appended = Appends-trans o p q run.text [] run.appended (subst (Appends p q) nothing sent);
          }) is
      by (Err (text_error.BadLine number)) (bad, nothing) (inr (is, part)) =
          stopped_by_write i k o q error (in_part_with (subst (λ (t : List ℕ). WrotePart t p q) nothing part)) is

  -- ---- results of a piece, and of the end

  -- after a piece
  abbrev pub AfterPiece : Result (Unit {0}) ScriptError → Place → Option (List ℕ) → Option (List ℕ) → Option (List ℕ) → Option (List ℕ) → Type 0
  AfterPiece (Ok _) new i k o q = Playing old new i k o q
  AfterPiece (Err error) new i k o q = Stopped error i k o q

  pub piece_given : (result : Result (Unit {0}) ScriptError) (mid new : Place) (answered : Result (Unit {0}) TextError) (i j k o p q : Option (List ℕ)) (piece before after text : List ℕ) → before ≡ [] → text ≡ after
      → Playing old mid i j o p → Consumes j k piece → AnswersPiece answered mid piece before new after → Gives answered result text p q → AfterPiece result new i k o q
  piece_given (Ok given) mid new answered i j k o p q piece before after text none same run consumed answers gives =
      gave_piece mid new answered given i j k o p q piece after run consumed
      (subst (λ (b : List ℕ). AnswersPiece answered mid piece b new after) none answers) (subst (λ (t : List ℕ). Gives answered (Ok given) t p q) same gives)
  piece_given (Err error) mid new answered i j k o p q piece before after text none same run consumed answers gives =
      gave_error mid new answered error i j k o p q piece after run consumed
      (subst (λ (b : List ℕ). AnswersPiece answered mid piece b new after) none answers) (subst (λ (t : List ℕ). Gives answered (Err error) t p q) same gives)

  -- after the end
  abbrev pub AfterEnd : Result (Unit {0}) ScriptError → Course → Option (List ℕ) → Option (List ℕ) → Option (List ℕ) → Option (List ℕ) → Type 0
  AfterEnd (Ok _) last i k o q = Replayed old last (between i k o q)
  AfterEnd (Err error) last i k o q = Stopped error i k o q

  pub end_given : (result : Result (Unit {0}) ScriptError) (place : Place) (last : Course) (i j k o p q : Option (List ℕ)) (n : ℕ) (buffer : List ℕ) → n ≡ 0 → Playing old place i j o p → Consumes j k (take n buffer) → IsAtEnd k
      → Ended result place last p q → AfterEnd result last i k o q
  end_given (Ok given) place last i j k o p q n buffer none run consumed end ended =
      ended_well place last given i j k o p q run (subst (λ (m : ℕ). Consumes j k (take m buffer)) none consumed) end ended
  end_given (Err error) place last i j k o p q n buffer none run consumed end ended =
      ended_badly place last error i j k o p q run (subst (λ (m : ℕ). Consumes j k (take m buffer)) none consumed) end ended

  pub end_in_part : (result : Result (Unit {0}) ScriptError) (last : Course) (i k o q : Option (List ℕ)) → AfterEnd result last i k o q → ReplayedInPart old (between i k o q)
  end_in_part (Ok given) last i k o q h = record {
    read = h.all.read;
    first = lines h.all.read;
    text = h.text;
    last = last;
    consumed = h.all.consumed;
    are_first = ([], inr (h.all.at_end, sym (append-nil (lines h.all.read))));
    of_lines = h.all.of_lines;
    wrote = wrote_all h.text o q h.appended;
  }
  end_in_part (Err error) last i k o q h = h.in_part

-- ---- results of calls above

-- an error of one result is the same error of another
pub error_moved : {T S : Type 0} (a b : ScriptError) → IsErrOf {T = T} {E = ScriptError} (Err a) b → IsErrOf {T = S} {E = ScriptError} (Err a) b
error_moved {T} {S} a b e =
    let same : a ≡ b = cc in
    subst (λ (x : ScriptError). IsErrOf {T = S} {E = ScriptError} (Err a) x) same refl

-- what was written was answered
pub given_counted : (P : Type 0) (answered : Result (Unit {0}) TextError) (given : Unit {0}) (text : List ℕ) (p q : Option (List ℕ)) → Gives answered (Ok given) text p q → OnOk answered P → P
given_counted P (Ok _) given text p q gives h = h
given_counted P (Err text_error.Memory) given text p q gives h = absurd gives
given_counted P (Err (text_error.BadLine number)) given text p q gives h = absurd gives

-- there are at most as many lines as bytes, and at most 4,096 bytes a read
pub room_more : (count new piece n left next all : ℕ) → count + 4096 * left ≤ all → new ≤ count + piece → piece ≤ n → n ≤ 4096 → next ≡ left - 1 → 0 < left → new + 4096 * next ≤ all
room_more count new piece n left next all room counted within short next_is some = omega (arith, room, counted, within, short, next_is, some)

-- a reader that isn't spent has a read left
pub some_left : (left : ℕ) (spent : Bool) → spent ≡ (left == 0) → spent ≡ false → 0 < left
some_left zero spent is not = let both : true ≡ false = sym is ∙ not in absurd (cc)
some_left (suc n) spent is not = omega arith
