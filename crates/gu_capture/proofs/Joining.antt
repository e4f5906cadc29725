-- The turns of trade capture, joined to one stream.
use Rattle.std.proofs.Common.{◌≡◌, ℕ, true, false, List, [], ◌∷◌, ◌++◌, map, Option, Some, None, inl, inr, refl, sym, ap, subst, ◌∙◌, append_assoc}
use Rattle.std.specs.Io.KnownBytes.{Consumes, Appends, IsAtEnd}
use Rattle.std.specs.List.{concat}
use Rattle.std.specs.Option.{option_to_list}
use Rattle.std.proofs.lemmas.List.{append-nil}
use Rattle.std.proofs.lemmas.List.Folds.{concat-append}
use Rattle.gu_fix.specs.Stream.{AreFrames, LeadsOn, TakesPiece, TakesPieces}
use Rattle.gu_fix.proofs.StreamLaws.{frames_exist, frames_of_pieces}
use Rattle.gu_streams.specs.Streams.{Streams}
use Rattle.gu_streams.specs.Written.{WrotePart}
use Rattle.gu_engine.specs.Running.{Answers, AnswersAll, AnswersEach, AnswersPiece, AnswersPieces, AnswersSome, Between, Brings, Piece, Served, ServedInPart, ServedSoFar, brought_in, is_more, turns_of}
use Rattle.gu_engine.specs.declared.event.Event.{Event}
use Rattle.gu_engine.specs.declared.event.Event.TheVariants.{Frame, Silence, More, Over}
use Rattle.gu_engine.proofs.InTurn.{each_then}
use Rattle.gu_capture.specs.Capture.{AnswersFrame, Capture, capturing}

-- the frames of what was read are answered, and exactly these answers were written
pub record Answered (old new : Capture) (streams : Streams) : Type 0 where
  pub read : List ℕ
  pub frames : List (List ℕ)
  pub text : List ℕ
  pub consumed : Consumes streams.input_old streams.input_new read
  pub are_frames : AreFrames read frames
  pub answered : AnswersEach AnswersFrame old frames text new
  pub appended : Appends streams.output_old streams.output_new text

-- and the reader is at its end, so that this is all that it had
pub record AnsweredAll (old new : Capture) (streams : Streams) : Type 0 where
  pub all : Answered old new streams
  pub at_end : IsAtEnd streams.input_new

-- what was written is a prefix of the text that answers the first of the frames of what was read
pub record AnsweredInPart (old : Capture) (streams : Streams) : Type 0 where
  pub read : List ℕ
  pub frames : List (List ℕ)
  pub first : List (List ℕ)
  pub others : List (List ℕ)
  pub text : List ℕ
  pub new : Capture
  pub consumed : Consumes streams.input_old streams.input_new read
  pub are_frames : AreFrames read frames
  pub split : frames ≡ first ++ others
  pub answered : AnswersEach AnswersFrame old first text new
  pub wrote : WrotePart text streams.output_old streams.output_new

-- the frames among events
abbrev frames_in : List Event → List (List ℕ)
frames_in [] = []
frames_in (Frame frame ∷ events) = frame ∷ frames_in events
frames_in (Silence ∷ events) = frames_in events
frames_in (More ∷ events) = frames_in events
frames_in (Over ∷ events) = frames_in events

frames_in-append : (first others : List Event) → frames_in (first ++ others) ≡ frames_in first ++ frames_in others
frames_in-append [] others = refl
frames_in-append (Frame frame ∷ first) others = ap (λ (fs : List (List ℕ)). frame ∷ fs) (frames_in-append first others)
frames_in-append (Silence ∷ first) others = frames_in-append first others
frames_in-append (More ∷ first) others = frames_in-append first others
frames_in-append (Over ∷ first) others = frames_in-append first others

-- those that ask for more are none
frames_in-brought : (events : List Event) → frames_in (brought_in events) ≡ frames_in events
frames_in-brought [] = refl
frames_in-brought (Frame frame ∷ events) = ap (λ (fs : List (List ℕ)). frame ∷ fs) (frames_in-brought events)
frames_in-brought (Silence ∷ events) = frames_in-brought events
frames_in-brought (More ∷ events) = frames_in-brought events
frames_in-brought (Over ∷ events) = frames_in-brought events

-- a turn brings its frames
frames_in-turn : (frames : List (List ℕ)) → frames_in (map Frame frames ++ Over ∷ []) ≡ frames
frames_in-turn [] = refl
frames_in-turn (frame ∷ frames) = ap (λ (fs : List (List ℕ)). frame ∷ fs) (frames_in-turn frames)

-- an event without a text that leaves the state as it is
quietly : (old next new : Capture) (frames : List (List ℕ)) (text first rest : List ℕ) → (first ≡ []) × (next ≡ old) → text ≡ first ++ rest → AnswersEach AnswersFrame next frames rest new → AnswersEach AnswersFrame old frames text new
quietly old next new frames text first rest (none, same) parts later =
    subst (λ (t : List ℕ). AnswersEach AnswersFrame old frames t new) (sym (parts ∙ ap (λ (t : List ℕ). t ++ rest) none)) (subst (λ (s : Capture). AnswersEach AnswersFrame s frames rest new) same later)

-- the answers to events are those to their frames
answers_frames : (now : ℕ) (old new : Capture) (events : List Event) (text : List ℕ) → AnswersEach (Answers capturing now) old events text new → AnswersEach AnswersFrame old (frames_in events) text new
answers_frames now old new [] text each = each
answers_frames now old new (Frame frame ∷ events) text (first, rest, next, step, parts, later) = (first, rest, next, step.answered, parts, answers_frames now next new events rest later)
answers_frames now old new (Silence ∷ events) text (first, rest, next, step, parts, later) = quietly old next new (frames_in events) text first rest step.answered parts (answers_frames now next new events rest later)
answers_frames now old new (More ∷ events) text (first, rest, next, step, parts, later) = absurd step.answered
answers_frames now old new (Over ∷ events) text (first, rest, next, step, parts, later) = quietly old next new (frames_in events) text first rest step.answered parts (answers_frames now next new events rest later)

-- the frames of what a turn brought are those that are answered, and then the others
frames_split : (now : ℕ) (old new : Capture) (brought : List Event) (text : List ℕ) (some : AnswersSome capturing now old brought text new) → frames_in brought ≡ frames_in some.events ++ frames_in some.others
frames_split now old new brought text some =
    ap frames_in some.split ∙ frames_in-append (brought_in some.events) some.others ∙ ap (λ (fs : List (List ℕ)). fs ++ frames_in some.others) (frames_in-brought some.events)

-- all frames of a turn are answered
turn_joined : (now : ℕ) (old new : Capture) (brought : List Event) (text : List ℕ) → AnswersAll capturing now old brought text new → AnswersEach AnswersFrame old (frames_in brought) text new
turn_joined now old new brought text all =
    let none : all.some.others ≡ [] = elim all.all [ inl some ↦ some.0 | inr done ↦ absurd (let e : false ≡ true = done in cc) ] in
    let whole : frames_in all.some.events ≡ frames_in brought =
    sym (append-nil (frames_in all.some.events)) ∙ ap (λ (es : List Event). frames_in all.some.events ++ frames_in es) (sym none) ∙ sym (frames_split now old new brought text all.some) in
    subst (λ (fs : List (List ℕ)). AnswersEach AnswersFrame old fs text new) whole (answers_frames now old new all.some.events text all.some.answered)

-- what a turn's bytes give: their frames, if there are bytes
pub record Given (kept bytes : List ℕ) (frames : List (List ℕ)) (next : List ℕ) : Type 0 where
  pub turns : List (List ℕ)
  pub same : concat turns ≡ bytes
  pub takes : TakesPieces kept turns frames next

given_by : (kept bytes : List ℕ) (brought : List Event) (next : List ℕ) → Brings kept bytes brought next → Given kept bytes (frames_in brought) next
given_by kept [] brought next (is, same) = record {
  turns = [];
  same = refl;
  takes = (ap frames_in is, same);
}
given_by kept (byte ∷ bytes) brought next (frames, takes, is) =
    let piece : List ℕ = byte ∷ bytes in
    record {
      turns = piece ∷ [];
      same = append-nil piece;
      takes = (frames, next, [], takes, ap frames_in is ∙ frames_in-turn frames ∙ sym (append-nil frames), (refl, refl));
    }

-- some turns, and then others
takes_then : (first others : List (List ℕ)) (kept mid next : List ℕ) (frames more : List (List ℕ)) → TakesPieces kept first frames mid → TakesPieces mid others more next → TakesPieces kept (first ++ others) (frames ++ more) next
takes_then [] others kept mid next frames more (none, same) then =
    subst (λ (fs : List (List ℕ)). TakesPieces kept others (fs ++ more) next) (sym none) (subst (λ (k : List ℕ). TakesPieces k others more next) same then)
takes_then (turn ∷ first) others kept mid next frames more (one, at, rest, takes, parts, later) then =
    (one, at, rest ++ more, takes, ap (λ (fs : List (List ℕ)). fs ++ more) parts ∙ append_assoc one rest more, takes_then first others at mid next rest more later then)

-- the frames that turns gave, all of them answered
pub record Joined (old new : Between Capture) (bytes text : List ℕ) : Type 0 where
  pub frames : List (List ℕ)
  pub given : Given old.kept bytes frames new.kept
  pub answered : AnswersEach AnswersFrame old.state frames text new.state

-- turns one after another
pub joined : (old new : Between Capture) (pieces : List Piece) (text : List ℕ) → AnswersEach (AnswersPiece capturing) old pieces text new → Joined old new (concat (turns_of pieces)) text
joined old new [] text (none, same) = record {
  frames = [];
  given = record { turns = []; same = refl; takes = (refl, ap (λ (b : Between Capture). b.kept) same) };
  answered = (none, ap (λ (b : Between Capture). b.state) same);
}
joined old new (piece ∷ pieces) text (one, rest, next, step, parts, later) =
    let after = joined next new pieces rest later in
    let here = given_by old.kept piece.bytes step.brought next.kept step.brings in
    let first = frames_in step.brought in
    let begun = subst (λ (s : Capture). AnswersEach AnswersFrame s first one next.state) step.begins.1 (turn_joined piece.moment step.begun next.state step.brought one step.answered) in
    record {
      frames = first ++ after.frames;
      given = record {
        turns = here.turns ++ after.given.turns;
        same = concat-append here.turns after.given.turns ∙ ap (λ (t : List ℕ). t ++ concat after.given.turns) here.same ∙ ap (λ (t : List ℕ). piece.bytes ++ t) after.given.same;
        takes = takes_then here.turns after.given.turns old.kept next.kept new.kept first after.frames here.takes after.given.takes;
      };
      answered =
          subst (λ (t : List ℕ). AnswersEach AnswersFrame old.state (first ++ after.frames) t new.state) (sym parts)
          (each_then AnswersFrame old.state next.state new.state first after.frames one rest begun after.answered);
    }

-- the frames of the stream from its start, and what is kept after them
pub record Streamed (old new : Capture) (read text kept : List ℕ) : Type 0 where
  pub frames : List (List ℕ)
  pub are_frames : AreFrames read frames
  pub leads_on : LeadsOn read frames kept
  pub answered : AnswersEach AnswersFrame old frames text new

pub streamed : (old : Capture) (pieces : List Piece) (text : List ℕ) (last : Between Capture) → AnswersPieces capturing old pieces text last → Streamed old last.state (concat (turns_of pieces)) text last.kept
streamed old pieces text last answered =
    let all = joined (record { state = old; kept = [] }) last pieces text answered in
    let are = frames_of_pieces all.given.turns all.frames last.kept all.given.takes in
    record {
      frames = all.frames;
      are_frames = subst (λ (t : List ℕ). AreFrames t all.frames) all.given.same are.0;
      leads_on = subst (λ (t : List ℕ). LeadsOn t all.frames last.kept) all.given.same are.1;
      answered = all.answered;
    }

-- all that the reader had is answered
pub answered_all : (old new : Capture) (streams : Streams) → Served capturing old new streams → AnsweredAll old new streams
answered_all old new streams served =
    let stream = streamed old served.pieces served.text served.last served.answered in
    record {
      all = record {
        read = concat (turns_of served.pieces);
        frames = stream.frames;
        text = served.text;
        consumed = served.read.consumed;
        are_frames = stream.are_frames;
        answered = subst (λ (s : Capture). AnswersEach AnswersFrame old stream.frames served.text s) (sym served.new_is) stream.answered;
        appended = served.appended;
      };
      at_end = elim served.ends [ inl end ↦ end | inr done ↦ absurd (let e : false ≡ true = done in cc) ];
    }

-- if reading stopped, all that was read is answered
pub answered_so_far : (old new : Capture) (streams : Streams) → ServedSoFar capturing old new streams → Answered old new streams
answered_so_far old new streams served =
    let stream = streamed old served.pieces served.text served.last served.answered in
    let still : (served.further ≡ None) × (new ≡ served.last.state) = elim served.stopped [ inl none ↦ none | inr stops ↦ absurd stops ] in
    let turns = turns_of served.pieces in
    record {
      read = concat turns;
      frames = stream.frames;
      text = served.text;
      consumed =
          subst (Consumes streams.input_old streams.input_new) (ap (λ (f : Option (List ℕ)). concat (turns ++ option_to_list f)) still.0 ∙ ap (λ (ts : List (List ℕ)). concat ts) (append-nil turns)) served.read.consumed;
      are_frames = stream.are_frames;
      answered = subst (λ (s : Capture). AnswersEach AnswersFrame old stream.frames served.text s) (sym still.1) stream.answered;
      appended = served.appended;
    }

-- the frames of one turn more, whose frames are those that it brings
frames_with : (read kept bytes next : List ℕ) (frames : List (List ℕ)) (brought : List Event) → AreFrames read frames → LeadsOn read frames kept → Brings kept bytes brought next → AreFrames (read ++ bytes) (frames ++ frames_in brought)
frames_with read kept [] next frames brought are leads (is, same) =
    subst (λ (fs : List (List ℕ)). AreFrames (read ++ []) fs) (sym (append-nil frames) ∙ ap (λ (es : List Event). frames ++ frames_in es) (sym is))
    (subst (λ (t : List ℕ). AreFrames t frames) (sym (append-nil read)) are)
frames_with read kept (byte ∷ bytes) next frames brought are leads (given, takes, is) =
    leads (byte ∷ bytes) (frames_in brought) (subst (AreFrames (kept ++ byte ∷ bytes)) (sym (ap frames_in is ∙ frames_in-turn given)) takes.given_are)

-- the bytes of a further turn come after the others
further_bytes : (turns : List (List ℕ)) (further : Option (List ℕ)) → concat (turns ++ option_to_list further) ≡ concat turns ++ concat (option_to_list further)
further_bytes turns further = concat-append turns (option_to_list further)

-- after an error the first frames are answered, in part
pub answered_in_part : (old : Capture) (streams : Streams) → ServedInPart capturing old streams → AnsweredInPart old streams
answered_in_part old streams served =
    let stream = streamed old served.pieces served.text served.last served.answered in
    let turns = turns_of served.pieces in
    let consumed = subst (Consumes streams.input_old streams.input_new) (further_bytes turns served.further) served.read.consumed in
    elim served.part [
      | inl none ↦
          let bytes : List ℕ = concat (option_to_list served.further) in
          let others = frames_exist (served.last.kept ++ bytes) in
          record {
            read = concat turns ++ bytes;
            frames = stream.frames ++ others.0;
            first = stream.frames;
            others = others.0;
            text = served.text;
            new = served.last.state;
            consumed = consumed;
            are_frames = stream.leads_on bytes others.0 others.1;
            split = refl;
            answered = stream.answered;
            wrote = subst (λ (t : List ℕ). WrotePart t streams.output_old streams.output_new) (ap (λ (t : List ℕ). served.text ++ t) none ∙ append-nil served.text) served.wrote;
          }
      | inr part ↦
          let some = part.answered in
          let frames = frames_in part.brought in
          let begun = subst (λ (s : Capture). AnswersEach AnswersFrame s (frames_in some.events) served.more part.new) part.begins.1 (answers_frames part.now part.begun part.new some.events served.more some.answered) in
          let bytes : concat (option_to_list served.further) ≡ part.bytes = ap (λ (f : Option (List ℕ)). concat (option_to_list f)) part.further_is ∙ append-nil part.bytes in
          record {
            read = concat turns ++ part.bytes;
            frames = stream.frames ++ frames;
            first = stream.frames ++ frames_in some.events;
            others = frames_in some.others;
            text = served.text ++ served.more;
            new = part.new;
            consumed = subst (λ (t : List ℕ). Consumes streams.input_old streams.input_new (concat turns ++ t)) bytes consumed;
            are_frames = frames_with (concat turns) served.last.kept part.bytes part.kept stream.frames part.brought stream.are_frames stream.leads_on part.brings;
            split = ap (λ (fs : List (List ℕ)). stream.frames ++ fs) (frames_split part.now part.begun part.new part.brought served.more some) ∙ sym (append_assoc stream.frames (frames_in some.events) (frames_in some.others));
            answered = each_then AnswersFrame old served.last.state part.new stream.frames (frames_in some.events) served.text served.more stream.answered begun;
            wrote = served.wrote;
          }
    ]
