-- The parts of a turn: held bytes are sent, the events to answer are found and answered, and held bytes are sent again.
use Rattle.gu_engine.proofs.Words.{◌≡◌, ◌⊎◌, ◌<◌, ◌≤◌, ℕ, Bool, true, false, List, [], ◌++◌, length, Option, None, Some, inl, inr, refl, sym, subst, ap, ◌∙◌, arith, append-nil, WrotePart, CountedReads, AnswersLeft, FindsEvents, TakesIn, Engine, Gives, GivesPart, Gave, IsTurned, Rests, Stops, Turns, TurnsInPart, Work, is_last, IsLeft, IsPause, Pause, Reads, ReadsNoMore, Backlog, Left, Event}
use Rattle.gu_engine.specs.declared.turned.Turned.{Turned}
use Rattle.gu_engine.specs.declared.turned.Turned.TheVariants as turned
use Rattle.gu_engine.proofs.Holding.{gives_and_goes, wrote_after}
use Rattle.gu_engine.proofs.Leaving.{left_none}

-- events left are the same for equal bytes
left_in : (a b : Left) (x y kept : List ℕ) (events : Option (List Event)) → b ≡ a → y ≡ x → IsLeft a x kept events → IsLeft b y kept events
left_in a b x y kept events same_left same_bytes is =
    subst (λ (l : Left). IsLeft l y kept events) (sym same_left) (subst (λ (bytes : List ℕ). IsLeft a bytes kept events) (sym same_bytes) is)

-- a pause in which only the held bytes differ
same_pause : {S O : Type 0} (state : S) (a b : Backlog O) (pause : Pause S) → b.left ≡ a.left → b.intake ≡ a.intake → IsPause state a pause → IsPause state b pause
same_pause state a b pause same_left same_intake is =
    record { state_is = is.state_is; left_is = left_in a.left b.left a.intake b.intake pause.kept pause.left same_left same_intake is.left_is }

-- if nothing is given, what was written is a prefix of what was held
pub wrote_gone : (held kept : List ℕ) (o p : Option (List ℕ)) → Gives [] held kept o p → WrotePart (held ++ []) o p
wrote_gone held kept o p gives = record { written = gives.sent; appended = gives.appended; prefix = record { rest = kept; parts = gives.parts } }

-- the same, followed by a prefix of what is still held
pub wrote_gone_then : (held kept : List ℕ) (o p q : Option (List ℕ)) → Gives [] held kept o p → WrotePart kept p q → WrotePart (held ++ []) o q
wrote_gone_then held kept o p q gives part = wrote_after [] [] held kept o p q gives (subst (λ (t : List ℕ). WrotePart t p q) (sym (append-nil kept)) part)

-- the events that a turn has to answer are found, unless it is the last
pub finds : {R O : Type 0} (remaining : R → Option (List ℕ)) (reads_old reads_new : CountedReads R) (before after : Backlog O) (became : Turned) (kept : List ℕ) (events : Option (List Event))
    → is_last became ≡ false → TakesIn remaining reads_old reads_new before after became → IsLeft before.left before.intake kept events
    → (found : FindsEvents remaining reads_old reads_new kept events after) × (became ≡ turned.Waits → found.read ≡ Some [])
finds remaining reads_old reads_new before after turned.Again kept events more takes is = (takes kept events is, λ other. absurd (let e : turned.Again ≡ turned.Waits = other in cc))
finds remaining reads_old reads_new before after turned.Waits kept events more takes is = let found = takes kept events is in (found.0, λ same. found.1)
finds remaining reads_old reads_new before after turned.Full kept events more takes is = absurd takes
finds remaining reads_old reads_new before after turned.Done kept events more takes is = absurd takes
finds remaining reads_old reads_new before after turned.End kept events more takes is = absurd (let e : true ≡ false = more in cc)
finds remaining reads_old reads_new before after turned.Stopped kept events more takes is = absurd (let e : true ≡ false = more in cc)

-- reading ended, if it is the last
pub no_more : {R O : Type 0} (remaining : R → Option (List ℕ)) (reads_old reads_new : CountedReads R) (before after : Backlog O) (became : Turned) → is_last became ≡ true
    → TakesIn remaining reads_old reads_new before after became → ReadsNoMore remaining reads_old reads_new
no_more remaining reads_old reads_new before after turned.Again last takes = absurd (let e : false ≡ true = last in cc)
no_more remaining reads_old reads_new before after turned.Waits last takes = absurd (let e : false ≡ true = last in cc)
no_more remaining reads_old reads_new before after turned.Full last takes = absurd takes
no_more remaining reads_old reads_new before after turned.Done last takes = absurd takes
no_more remaining reads_old reads_new before after turned.End last (same, nothing, buffer, took, at_end) = inr (buffer, took)
no_more remaining reads_old reads_new before after turned.Stopped last (same, stopped) = inl stopped

module _ {S R O : Type 0} (engine : Engine S) (remaining : R → Option (List ℕ)) (old : Pause S) (state : S) (work : Work R O) (is : IsPause state work.kept_old old) where
  -- nothing was read or answered
  pub rests : work.kept_new.left ≡ work.kept_old.left → work.kept_new.intake ≡ work.kept_old.intake → work.reads_new ≡ work.reads_old → Gave work [] → Rests engine remaining old state work
  rests same_left same_intake unread gave = record { same = same_pause state work.kept_old work.kept_new old same_left same_intake is; unread = unread; gave = gave }

  -- the last turn, if nothing is answered
  pub turned_last : (before after : Backlog O) (became : Turned) → is_last became ≡ true → TakesIn remaining work.reads_old work.reads_new before after became → before.left ≡ work.kept_old.left
      → before.intake ≡ work.kept_old.intake → work.kept_new.left ≡ after.left → work.kept_new.intake ≡ after.intake → Gave work []
      → length work.kept_new.held.bytes.items ≤ 65536 → IsTurned engine remaining old state work became
  turned_last before after turned.Again last takes b_left b_intake a_left a_intake gave few = absurd (let e : false ≡ true = last in cc)
  turned_last before after turned.Waits last takes b_left b_intake a_left a_intake gave few = absurd (let e : false ≡ true = last in cc)
  turned_last before after turned.Full last takes b_left b_intake a_left a_intake gave few = absurd takes
  turned_last before after turned.Done last takes b_left b_intake a_left a_intake gave few = absurd takes
  turned_last before after turned.End last (same, nothing, buffer, took, at_end) b_left b_intake a_left a_intake gave few = record {
    same =
        same_pause state work.kept_old work.kept_new old (a_left ∙ ap (λ (b : Backlog O). b.left) same ∙ b_left) (a_intake ∙ ap (λ (b : Backlog O). b.intake) same ∙ b_intake) is;
    none_left = (left_none work.kept_old.left work.kept_old.intake old.kept old.left (sym b_left ∙ nothing) is.left_is).0;
    buffer = buffer;
    took = took;
    at_end = at_end;
    gave = gave;
    few = few;
  }
  turned_last before after turned.Stopped last (same, stopped) b_left b_intake a_left a_intake gave few = record {
    gave = gave;
    few = few;
    stopped =
        inl (
          same_pause state work.kept_old work.kept_new old (a_left ∙ ap (λ (b : Backlog O). b.left) same ∙ b_left) (a_intake ∙ ap (λ (b : Backlog O). b.intake) same ∙ b_intake) is,
          stopped,
        );
  }

  -- the events that this turn has to answer
  pub found_here : (before after : Backlog O) (became : Turned) → is_last became ≡ false → TakesIn remaining work.reads_old work.reads_new before after became → before.left ≡ work.kept_old.left
      → before.intake ≡ work.kept_old.intake → (found : FindsEvents remaining work.reads_old work.reads_new old.kept old.left after) × (became ≡ turned.Waits → found.read ≡ Some [])
  found_here before after became more takes b_left b_intake =
      finds remaining work.reads_old work.reads_new before after became old.kept old.left more takes
      (left_in work.kept_old.left before.left work.kept_old.intake before.intake old.kept old.left b_left b_intake is.left_is)

  -- a turn fails to begin
  pub turned_stopped : (new : S) (after : Backlog O) → FindsEvents remaining work.reads_old work.reads_new old.kept old.left after → engine.stops state new → Gave work [] → length work.kept_new.held.bytes.items ≤ 65536
      → Stops engine remaining old new work
  turned_stopped new after found stops gave few =
      record { gave = gave; few = few; stopped = inr (found.read, found.reads, subst (λ (s : S). engine.stops s new) (sym is.state_is) stops) }

  -- nothing was answered, and some prefix of what was held was written
  pub part_idle : (new : S) (read : Option (List ℕ)) → Reads remaining work.reads_old work.reads_new read → WrotePart (work.kept_old.held.bytes.items ++ []) work.output_old work.output_new
      → TurnsInPart engine remaining old new work
  part_idle new read reads wrote = record { read = read; text = []; reads = inl reads; part = inl refl; wrote = wrote }

  -- the same, if reading ended
  pub part_last : (new : S) → ReadsNoMore remaining work.reads_old work.reads_new → WrotePart (work.kept_old.held.bytes.items ++ []) work.output_old work.output_new → TurnsInPart engine remaining old new work
  part_last new reads wrote = record { read = None; text = []; reads = inr (refl, refl, reads); part = inl refl; wrote = wrote }

  -- a prefix of the answers was written
  pub part_turn : (begun new : S) (now : ℕ) (after : Backlog O) (p : Option (List ℕ)) (found : FindsEvents remaining work.reads_old work.reads_new old.kept old.left after) → engine.begins state now begun
      → Gives [] work.kept_old.held.bytes.items after.held.bytes.items work.output_old p → GivesPart engine now begun found.brought after.held.bytes.items p work.output_new → TurnsInPart engine remaining old new work
  part_turn begun new now after p found begins gives part = record {
    read = found.read;
    text = part.text;
    reads = inl found.reads;
    part = inr (record {
      now = now;
      begun = begun;
      begins = subst (λ (s : S). engine.begins s now begun) (sym is.state_is) begins;
      brought = found.brought;
      kept = found.next;
      has = found.has;
      new = part.new;
      answered = part.answered;
    });
    wrote = wrote_after [] part.text work.kept_old.held.bytes.items after.held.bytes.items work.output_old p work.output_new gives part.wrote;
  }

  -- a turn was made
  pub turns_made : (begun new : S) (now : ℕ) (after answered : Backlog O) (p q : Option (List ℕ)) (found : FindsEvents remaining work.reads_old work.reads_new old.kept old.left after)
      → engine.is_done state ≡ false → engine.begins state now begun → Gives [] work.kept_old.held.bytes.items after.held.bytes.items work.output_old p → length after.held.bytes.items ≤ 65536
      → (left : AnswersLeft engine now begun found.brought found.next new answered after.held.bytes.items p q) → Gives [] answered.held.bytes.items work.kept_new.held.bytes.items q work.output_new
      → work.kept_new.left ≡ answered.left → work.kept_new.intake ≡ answered.intake → (turns : Turns engine remaining old new work) × (turns.new.left ≡ left.left) × (turns.call.read ≡ found.read)
  turns_made begun new now after answered p q found goes_on begins gives room left then same_left same_intake =
      let pause : Pause S = record { state = new; kept = found.next; left = left.left } in (
        record {
          held = after.held.bytes.items;
          output = p;
          went = gives;
          room = room;
          new = pause;
          new_is = record { state_is = refl; left_is = left_in answered.left work.kept_new.left answered.intake work.kept_new.intake found.next left.left same_left same_intake left.left_is };
          call = record { read = found.read; moment = now };
          text = left.text;
          read = found.reads;
          answered = record {
            goes_on = ap engine.is_done is.state_is ∙ goes_on;
            begun = begun;
            begins = subst (λ (s : S). engine.begins s now begun) (sym is.state_is) begins;
            brought = found.brought;
            has = found.has;
            answered = left.some;
            leaves = left.leaves;
          };
          gave = gives_and_goes left.text after.held.bytes.items answered.held.bytes.items work.kept_new.held.bytes.items p q work.output_new left.gave then;
        },
        refl,
        refl,
      )

  -- a turn was made that isn't cut
  pub turned_over : (new : S) (became : Turned) (turns : Turns engine remaining old new work) (read : Option (List ℕ)) → is_last became ≡ false → (became ≡ turned.Full → ⊥) → turns.new.left ≡ None
      → engine.is_done new ≡ false → turns.call.read ≡ read → (became ≡ turned.Waits → read ≡ Some []) → IsTurned engine remaining old new work became
  turned_over new turned.Again turns read more full none goes_on same waits = (turns, none, goes_on)
  turned_over new turned.Waits turns read more full none goes_on same waits = (turns, none, goes_on, same ∙ waits refl)
  turned_over new turned.Full turns read more full none goes_on same waits = absurd (full refl)
  turned_over new turned.Done turns read more full none goes_on same waits = absurd (let e : true ≡ false = more in cc)
  turned_over new turned.End turns read more full none goes_on same waits = absurd (let e : true ≡ false = more in cc)
  turned_over new turned.Stopped turns read more full none goes_on same waits = absurd (let e : true ≡ false = more in cc)

-- a turn that continues isn't full
pub not_full : {R O : Type 0} (remaining : R → Option (List ℕ)) (reads_old reads_new : CountedReads R) (before after : Backlog O) (became : Turned) → TakesIn remaining reads_old reads_new before after became
    → became ≡ turned.Full → ⊥
not_full remaining reads_old reads_new before after became takes full = subst (TakesIn remaining reads_old reads_new before after) full takes

-- nothing is left, if few enough bytes are held and something is left to do
pub none_is_left : (left : Option (List Event)) (done : Bool) (held : List ℕ) → (left ≡ None) ⊎ ((done ≡ true) ⊎ (65536 < length held)) → done ≡ false → length held ≤ 65536 → left ≡ None
none_is_left left done held (inl none) goes_on few = none
none_is_left left done held (inr (inl all)) goes_on few = absurd (let e : true ≡ false = sym all ∙ goes_on in cc)
none_is_left left done held (inr (inr full)) goes_on few = absurd (omega arith)
