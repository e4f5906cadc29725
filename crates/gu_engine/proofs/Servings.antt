-- The turns of an engine that are never cut, one after another.
use Rattle.gu_engine.proofs.Words.{◌≡◌, ◌⊎◌, ◌<◌, ◌+◌, ℕ, true, false, List, [], ◌∷◌, ◌++◌, length, Option, None, Some, inl, inr, refl, sym, ap, subst, ◌∙◌, arith, append-nil, map-append, Stopped, Took, bytes_left, reads_left, waits_left, CountedReads, wrote_all, AnswersPart, AnswersPiece, AnswersPieces, Engine, HasRead, HaveBytes, Piece, Served, ServedInPart, ServedSoFar, turns_of, wait_of, waits_in, Gives, Ends, IsTurned, Rests, Stops, Turns, TurnsInPart, Work, is_last, AnswersTurn, AnswersTurnPart, IsEmpty, IsLeft, IsPause, Leaves, Pause, Reads, ReadsNoMore, between_of, Backlog, Left, Event}
use Rattle.std.specs.List.{concat}
use Rattle.std.specs.Option.{option_to_list}
use Rattle.std.specs.Io.KnownBytes.{Consumes, Appends, Keeps}
use Rattle.std.proofs.KnownBytes.{Consumes-trans, Consumes-nil, Consumes-kept}
use Rattle.std.proofs.lemmas.List.Folds.{concat-append}
use Rattle.gu_streams.specs.Streams.{Streams, streams_of}
use Rattle.gu_engine.specs.declared.backlog.Left.TheVariants as left
use Rattle.gu_engine.specs.declared.turned.Turned.{Turned}
use Rattle.gu_engine.specs.declared.turned.Turned.TheVariants as turned
use Rattle.gu_engine.proofs.Frames.{takes_nothing}
use Rattle.gu_engine.proofs.Holding.{gives_and_goes, gives_nothing, gives_then, wrote_after}
use Rattle.gu_engine.proofs.InTurn.{each_more}

-- if the known bytes are unchanged, none were read
consumed_kept : (i j : Option (List ℕ)) → Keeps i j → Consumes i j []
consumed_kept None j keeps = tt
consumed_kept (Some xs) None keeps = keeps
consumed_kept (Some xs) (Some ys) keeps = sym keeps

-- the bytes and the waits of one more turn
concat_more : (turns : List (List ℕ)) (bytes : List ℕ) → concat turns ++ bytes ≡ concat (turns ++ bytes ∷ [])
concat_more turns bytes = ap (λ (t : List ℕ). concat turns ++ t) (sym (append-nil bytes)) ∙ sym (concat-append turns (bytes ∷ []))

waits_more : (turns : List (List ℕ)) (bytes : List ℕ) → waits_in turns + wait_of bytes ≡ waits_in (turns ++ bytes ∷ [])
waits_more [] bytes = omega arith
waits_more (turn ∷ turns) bytes = omega (arith, waits_more turns bytes)

-- everything given was written, if nothing is held
pub sent_all : (text held : List ℕ) (o p : Option (List ℕ)) → Gives text [] held o p → held ≡ [] → Appends o p text
sent_all text held o p gives none = subst (Appends o p) (sym (gives.parts ∙ ap (λ (t : List ℕ). gives.sent ++ t) none ∙ append-nil gives.sent)) gives.appended

-- a turn that leaves nothing, or after which nothing is left to do, answers the piece that it reads
module _ {S : Type 0} (engine : Engine S) where
  left_as : (state : S) (others : List Event) (left : Option (List Event)) → Leaves engine state others left → (left ≡ None) ⊎ (engine.is_done state ≡ true)
      → ((others ≡ []) × (engine.is_due state ≡ false)) ⊎ (engine.is_done state ≡ true)
  left_as state others left leaves (inl none) = inl (subst (Leaves engine state others) none leaves)
  left_as state others left leaves (inr done) = inr done

  piece_read : (old new : Pause S) (read : Option (List ℕ)) (moment : ℕ) (text : List ℕ) → AnswersTurn engine old (record { read = read; moment = moment }) text new → old.left ≡ None
      → (new.left ≡ None) ⊎ (engine.is_done new.state ≡ true)
      → (bytes : List ℕ) × (read ≡ Some bytes) × AnswersPiece engine (between_of old) (record { bytes = bytes; moment = moment }) text (between_of new)
  piece_read old new None moment text answers none ends = absurd (let e : Some answers.brought ≡ None = sym answers.has.0 ∙ none in cc)
  piece_read old new (Some bytes) moment text answers none ends = (
    bytes,
    refl,
    record {
      goes_on = answers.goes_on;
      most = answers.has.1;
      begun = answers.begun;
      begins = answers.begins;
      brought = answers.brought;
      brings = answers.has.2;
      answered = record { some = answers.answered; all = left_as new.state answers.answered.others new.left answers.leaves ends };
    },
  )

  -- the law for turns that read and leave nothing
  pub uncut_turn : (old new : Pause S) (bytes : List ℕ) (moment : ℕ) (text : List ℕ) → AnswersTurn engine old (record { read = Some bytes; moment = moment }) text new → new.left ≡ None
      → AnswersPiece engine (between_of old) (record { bytes = bytes; moment = moment }) text (between_of new)
  uncut_turn old new bytes moment text answers none = record {
    goes_on = answers.goes_on;
    most = answers.has.1;
    begun = answers.begun;
    begins = answers.begins;
    brought = answers.brought;
    brings = answers.has.2;
    answered = record { some = answers.answered; all = left_as new.state answers.answered.others new.left answers.leaves (inl none) };
  }

  -- the first events of what a turn reads are answered
  part_read : (old : Pause S) (read : Option (List ℕ)) (text : List ℕ) → AnswersTurnPart engine old read text → old.left ≡ None → AnswersPart engine (between_of old) read text
  part_read old None text part none = absurd (let e : Some part.brought ≡ None = sym part.has.0 ∙ none in cc)
  part_read old (Some bytes) text part none = record {
    bytes = bytes;
    further_is = refl;
    now = part.now;
    begun = part.begun;
    begins = part.begins;
    brought = part.brought;
    kept = part.kept;
    brings = part.has.2;
    new = part.new;
    answered = part.answered;
  }

-- before the first turn
abbrev pub first_pause : {S : Type 0} → S → Pause S
first_pause state = record { state = state; kept = []; left = None }

pub is_first : {S O : Type 0} (state : S) (backlog : Backlog O) → IsEmpty backlog → IsPause state backlog (first_pause state)
is_first state backlog empty = record {
  state_is = refl;
  left_is =
      subst (λ (l : Left). IsLeft l backlog.intake [] None) (sym empty.none_left)
      (subst (λ (bytes : List ℕ). IsLeft left.Nothing bytes [] None) (sym empty.no_bytes) (refl, takes_nothing));
}

-- what is read and written, over a reader and a writer
module _ {S R W : Type 0} (remaining : R → Option (List ℕ)) (contents : W → Option (List ℕ)) (engine : Engine S) where
  -- a turn gave these bytes
  record Gave (old new : CountedReads R) (bytes : List ℕ) : Type 0 where
    consumed : Consumes (bytes_left remaining old) (bytes_left remaining new) bytes
    waits : wait_of bytes + waits_left new ≡ waits_left old
    fewer : reads_left new + waits_left new < reads_left old + waits_left old

  gave_bytes : (old new : CountedReads R) (bytes : List ℕ) → Reads remaining old new (Some bytes) → Gave old new bytes
  gave_bytes old new [] waited =
      record { consumed = consumed_kept (bytes_left remaining old) (bytes_left remaining new) waited.kept; waits = omega (arith, waited.waits); fewer = omega (arith, waited.waits, waited.counted) }
  gave_bytes old new (byte ∷ bytes) (buffer, count, took, is) = record {
    consumed = subst (Consumes (bytes_left remaining old) (bytes_left remaining new)) (sym is) took.consumed;
    waits = omega (arith, took.waits);
    fewer = omega (arith, took.waits, took.counted);
  }

  -- So far what was read is answered, and the answers were written, except for those held.
  pub record Serving (old : S) (pause : Pause S) (held : List ℕ) (reads_old reads_new : CountedReads R) (writer_old writer_new : W) : Type 0 where
    pub pieces : List Piece
    pub text : List ℕ
    pub read : HasRead (streams_of remaining contents reads_old reads_new writer_old writer_new) (turns_of pieces)
    pub answered : AnswersPieces engine old pieces text (between_of pause)
    pub gave : Gives text [] held (contents writer_old) (contents writer_new)

  pub serving_none : (old : S) (held : List ℕ) (r : CountedReads R) (w : W) → held ≡ [] → Serving old (first_pause old) held r r w w
  serving_none old held r w none = record {
    pieces = [];
    text = [];
    read = record { consumed = Consumes-nil (bytes_left remaining r); waited = omega arith };
    answered = (refl, refl);
    gave = subst (λ (t : List ℕ). Gives [] [] t (contents w) (contents w)) (sym none) (gives_nothing [] (contents w));
  }

  -- one more turn was read
  read_more : (r s t : CountedReads R) (w x y : W) (turns : List (List ℕ)) (bytes : List ℕ) → HasRead (streams_of remaining contents r s w x) turns → Reads remaining s t (Some bytes)
      → HasRead (streams_of remaining contents r t w y) (turns ++ bytes ∷ [])
  read_more r s t w x y turns bytes read reads =
      let gave = gave_bytes s t bytes reads in
      record {
        consumed =
            subst (Consumes (bytes_left remaining r) (bytes_left remaining t)) (concat_more turns bytes)
            (Consumes-trans (bytes_left remaining r) (bytes_left remaining s) (bytes_left remaining t) (concat turns) bytes read.consumed gave.consumed);
        waited = omega (arith, read.waited, gave.waits, waits_more turns bytes);
      }

  -- and it may have read nothing
  read_further : (r s t : CountedReads R) (w x y : W) (turns : List (List ℕ)) (further : Option (List ℕ)) → HasRead (streams_of remaining contents r s w x) turns → Reads remaining s t further
      → HasRead (streams_of remaining contents r t w y) (turns ++ option_to_list further)
  read_further r s t w x y turns None read same =
      subst (HasRead (streams_of remaining contents r t w y)) (sym (append-nil turns)) (subst (λ (q : CountedReads R). HasRead (streams_of remaining contents r q w y) turns) (sym same) (record { consumed = read.consumed; waited = read.waited }))
  read_further r s t w x y turns (Some bytes) read reads = read_more r s t w x y turns bytes read reads

  -- reading stopped
  read_stopped : (r s t : CountedReads R) (w x y : W) (turns : List (List ℕ)) → HasRead (streams_of remaining contents r s w x) turns → Stopped remaining s t → HasRead (streams_of remaining contents r t w y) turns
  read_stopped r s t w x y turns read stopped = record {
    consumed = Consumes-kept (bytes_left remaining r) (bytes_left remaining s) (bytes_left remaining t) (concat turns) read.consumed stopped.kept;
    waited = omega (arith, read.waited, stopped.waits);
  }

  -- the end was read
  read_end : (r s t : CountedReads R) (w x y : W) (turns : List (List ℕ)) (buffer : List ℕ) → HasRead (streams_of remaining contents r s w x) turns → Took remaining s t buffer 0
      → HasRead (streams_of remaining contents r t w y) turns
  read_end r s t w x y turns buffer read took = record {
    consumed =
        subst (Consumes (bytes_left remaining r) (bytes_left remaining t)) (append-nil (concat turns))
        (Consumes-trans (bytes_left remaining r) (bytes_left remaining s) (bytes_left remaining t) (concat turns) [] read.consumed took.consumed);
    waited = omega (arith, read.waited, took.waits);
  }

  read_no_more : (r s t : CountedReads R) (w x y : W) (turns : List (List ℕ)) → HasRead (streams_of remaining contents r s w x) turns → ReadsNoMore remaining s t → HasRead (streams_of remaining contents r t w y) turns
  read_no_more r s t w x y turns read (inl stopped) = read_stopped r s t w x y turns read stopped
  read_no_more r s t w x y turns read (inr (buffer, took)) = read_end r s t w x y turns buffer read took

  module _ {O : Type 0} (old : S) (pause : Pause S) (r s t : CountedReads R) (w x y : W) (before after : Backlog O) (run : Serving old pause before.held.bytes.items r s w x) (none_left : pause.left ≡ None) where
    -- the work of one more turn
    abbrev pub work_here : Work R O
    work_here = record { reads_old = s; reads_new = t; kept_old = before; kept_new = after; output_old = contents x; output_new = contents y }

    -- one more turn is answered
    serving_more : (state : S) (turns : Turns engine remaining pause state work_here) → (turns.new.left ≡ None) ⊎ (engine.is_done turns.new.state ≡ true)
        → Serving old turns.new after.held.bytes.items r t w y × (reads_left t + waits_left t < reads_left s + waits_left s)
    serving_more state turns ends =
        let (bytes, is, piece) = piece_read engine pause turns.new turns.call.read turns.call.moment turns.text turns.answered none_left ends in
        let reads = subst (Reads remaining s t) is turns.read in
        let one : Piece = record { bytes = bytes; moment = turns.call.moment } in (
          record {
            pieces = run.pieces ++ one ∷ [];
            text = run.text ++ turns.text;
            read =
                subst (HasRead (streams_of remaining contents r t w y)) (sym (map-append (λ (p : Piece). p.bytes) run.pieces (one ∷ [])))
                (read_more r s t w x y (turns_of run.pieces) bytes run.read reads);
            answered = each_more (AnswersPiece engine) (record { state = old; kept = [] }) (between_of pause) (between_of turns.new) run.pieces one run.text turns.text run.answered piece;
            gave =
                gives_then run.text turns.text [] turns.held after.held.bytes.items (contents w) turns.output (contents y)
                (gives_and_goes run.text [] before.held.bytes.items turns.held (contents w) (contents x) turns.output run.gave turns.went) turns.gave;
          },
          (gave_bytes s t bytes reads).fewer,
        )

    -- and others follow it
    pub serving_on : (state : S) (became : Turned) → is_last became ≡ false → (became ≡ turned.Full → ⊥) → IsTurned engine remaining pause state work_here became
        → (next : Pause S) × IsPause state after next × (next.left ≡ None) × Serving old next after.held.bytes.items r t w y × (reads_left t + waits_left t < reads_left s + waits_left s)
    serving_on state turned.Again more full (turns, none, goes_on) = let served = serving_more state turns (inl none) in (turns.new, turns.new_is, none, served.0, served.1)
    serving_on state turned.Waits more full (turns, none, goes_on, silent) = let served = serving_more state turns (inl none) in (turns.new, turns.new_is, none, served.0, served.1)
    serving_on state turned.Full more full is = absurd (full refl)
    serving_on state turned.Done more full is = absurd (let e : true ≡ false = more in cc)
    serving_on state turned.End more full is = absurd (let e : true ≡ false = more in cc)
    serving_on state turned.Stopped more full is = absurd (let e : true ≡ false = more in cc)

    -- nothing is given, whatever was read
    gave_on : Gives [] before.held.bytes.items after.held.bytes.items (contents x) (contents y) → Gives run.text [] after.held.bytes.items (contents w) (contents y)
    gave_on gave = gives_and_goes run.text [] before.held.bytes.items after.held.bytes.items (contents w) (contents x) (contents y) run.gave gave

    -- the reader is at its end
    served_end : (state : S) → Ends engine remaining pause state work_here → after.held.bytes.items ≡ [] → Served engine old state (streams_of remaining contents r t w y)
    served_end state ends none = record {
      pieces = run.pieces;
      text = run.text;
      last = between_of pause;
      read = read_end r s t w x y (turns_of run.pieces) ends.buffer run.read ends.took;
      answered = run.answered;
      new_is = sym ends.same.state_is;
      ends = inl ends.at_end;
      appended = sent_all run.text after.held.bytes.items (contents w) (contents y) (gave_on ends.gave) none;
    }

    -- nothing was left to do
    served_rests : (state : S) → Rests engine remaining pause state work_here → engine.is_done state ≡ true → after.held.bytes.items ≡ [] → Served engine old state (streams_of remaining contents r t w y)
    served_rests state rests done none = record {
      pieces = run.pieces;
      text = run.text;
      last = between_of pause;
      read = subst (λ (q : CountedReads R). HasRead (streams_of remaining contents r q w y) (turns_of run.pieces)) (sym rests.unread) (record { consumed = run.read.consumed; waited = run.read.waited });
      answered = run.answered;
      new_is = sym rests.same.state_is;
      ends = inr done;
      appended = sent_all run.text after.held.bytes.items (contents w) (contents y) (gave_on rests.gave) none;
    }

    -- nothing is left to do after this turn
    served_turn : (state : S) → Turns engine remaining pause state work_here → engine.is_done state ≡ true → after.held.bytes.items ≡ [] → Served engine old state (streams_of remaining contents r t w y)
    served_turn state turns done none =
        let served = (serving_more state turns (inr (ap engine.is_done turns.new_is.state_is ∙ done))).0 in
        record {
          pieces = served.pieces;
          text = served.text;
          last = between_of turns.new;
          read = served.read;
          answered = served.answered;
          new_is = sym turns.new_is.state_is;
          ends = inr done;
          appended = sent_all served.text after.held.bytes.items (contents w) (contents y) served.gave none;
        }

    -- nothing is left to do, or the input has ended
    pub served_last : (state : S) (became : Turned) → (became ≡ turned.Done) ⊎ (became ≡ turned.End) → IsTurned engine remaining pause state work_here became → after.held.bytes.items ≡ []
        → Served engine old state (streams_of remaining contents r t w y)
    served_last state became (inl is_done) is none =
        let (done, either) = subst (IsTurned engine remaining pause state work_here) is_done is in
        elim either [ inl rests ↦ served_rests state rests done none | inr turns ↦ served_turn state turns done none ]
    served_last state became (inr is_end) is none = served_end state (subst (IsTurned engine remaining pause state work_here) is_end is) none

    -- reading stopped
    pub so_far_stopped : (state : S) → Stops engine remaining pause state work_here → after.held.bytes.items ≡ [] → ServedSoFar engine old state (streams_of remaining contents r t w y)
    so_far_stopped state stops none =
        elim stops.stopped [
          | inl (same, stopped) ↦ record {
            pieces = run.pieces;
            text = run.text;
            last = between_of pause;
            further = None;
            read = subst (HasRead (streams_of remaining contents r t w y)) (sym (append-nil (turns_of run.pieces))) (read_stopped r s t w x y (turns_of run.pieces) run.read stopped);
            answered = run.answered;
            stopped = inl (refl, sym same.state_is);
            appended = sent_all run.text after.held.bytes.items (contents w) (contents y) (gave_on stops.gave) none;
          }
          | inr (read, reads, fails) ↦ record {
            pieces = run.pieces;
            text = run.text;
            last = between_of pause;
            further = read;
            read = read_further r s t w x y (turns_of run.pieces) read run.read reads;
            answered = run.answered;
            stopped = inr fails;
            appended = sent_all run.text after.held.bytes.items (contents w) (contents y) (gave_on stops.gave) none;
          }
        ]

    -- a fault
    pub part_of_turn : (state : S) → TurnsInPart engine remaining pause state work_here → ServedInPart engine old (streams_of remaining contents r t w y)
    part_of_turn state part = record {
      pieces = run.pieces;
      text = run.text;
      last = between_of pause;
      further = part.read;
      more = part.text;
      read = elim part.reads [
        | inl reads ↦ read_further r s t w x y (turns_of run.pieces) part.read run.read reads
        | inr (nothing, none, no_more) ↦
            subst (λ (further : Option (List ℕ)). HasRead (streams_of remaining contents r t w y) (turns_of run.pieces ++ option_to_list further)) (sym none)
            (subst (HasRead (streams_of remaining contents r t w y)) (sym (append-nil (turns_of run.pieces))) (read_no_more r s t w x y (turns_of run.pieces) run.read no_more))
      ];
      answered = run.answered;
      part = elim part.part [ inl nothing ↦ inl nothing | inr some ↦ inr (part_read engine pause part.read part.text some none_left) ];
      wrote = wrote_after run.text part.text [] before.held.bytes.items (contents w) (contents x) (contents y) run.gave part.wrote;
    }

-- what is served is served in part
pub part_of_served : {S : Type 0} (engine : Engine S) (old new : S) (streams : Streams) → Served engine old new streams → ServedInPart engine old streams
part_of_served engine old new streams served = record {
  pieces = served.pieces;
  text = served.text;
  last = served.last;
  further = None;
  more = [];
  read = subst (HasRead streams) (sym (append-nil (turns_of served.pieces))) served.read;
  answered = served.answered;
  part = inl refl;
  wrote = wrote_all (served.text ++ []) streams.output_old streams.output_new (subst (Appends streams.output_old streams.output_new) (sym (append-nil served.text)) served.appended);
}

pub part_of_so_far : {S : Type 0} (engine : Engine S) (old new : S) (streams : Streams) → ServedSoFar engine old new streams → ServedInPart engine old streams
part_of_so_far engine old new streams served = record {
  pieces = served.pieces;
  text = served.text;
  last = served.last;
  further = served.further;
  more = [];
  read = served.read;
  answered = served.answered;
  part = inl refl;
  wrote = wrote_all (served.text ++ []) streams.output_old streams.output_new (subst (Appends streams.output_old streams.output_new) (sym (append-nil served.text)) served.appended);
}

-- a turn that isn't a wait gave bytes
some_bytes : (bytes : List ℕ) → wait_of bytes ≡ 0 → 0 < length bytes
some_bytes [] none = absurd (let e : 1 ≡ 0 = none in omega arith)
some_bytes (byte ∷ bytes) none = omega arith

-- if no turn was a wait, each gave bytes
pub are_reads : (pieces : List Piece) → waits_in (turns_of pieces) ≡ 0 → HaveBytes pieces
are_reads [] none = tt
are_reads (piece ∷ pieces) none = (some_bytes piece.bytes (omega (arith, none)), are_reads pieces (omega (arith, none)))

-- nothing is held after the last turn
pub none_is_held : {P : Type 0} (held : List ℕ) (became : Turned) → (held ≡ []) ⊎ (P × (is_last became ≡ false)) → is_last became ≡ true → held ≡ []
none_is_held held became (inl none) last = none
none_is_held held became (inr (ahead, more)) last = absurd (let e : true ≡ false = sym last ∙ more in cc)
