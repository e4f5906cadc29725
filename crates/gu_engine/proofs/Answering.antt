-- What a turn brings, answered event by event.
use Rattle.gu_engine.proofs.Words.{◌≡◌, ◌<◌, ◌≤◌, ◌⊎◌, ℕ, true, false, List, [], ◌∷◌, ◌++◌, length, Option, None, Some, inl, inr, refl, sym, ap, subst, ◌∙◌, append_assoc, arith, append-nil, WrotePart, wrote_none, AnswersPartOfIt, AnswersWhatIsLeft, TakesEvent, TakesLast, Answers, AnswersSome, Engine, brought_in, is_more, Gives, GivesAnswers, GivesPart, IsReady, IsLeft, Backlog, Left, Event}
use Rattle.gu_engine.specs.declared.event.Event.TheVariants.{Frame, Silence, More, Over}
use Rattle.gu_engine.proofs.Holding.{gives_then, wrote_after}
use Rattle.gu_engine.proofs.InTurn.{each_one, each_then}

-- the events brought by some events followed by others
pub brought-append : (first others : List Event) → brought_in (first ++ others) ≡ brought_in first ++ brought_in others
brought-append [] others = refl
brought-append (Frame frame ∷ first) others = ap (λ (es : List Event). Frame frame ∷ es) (brought-append first others)
brought-append (Silence ∷ first) others = ap (λ (es : List Event). Silence ∷ es) (brought-append first others)
brought-append (More ∷ first) others = brought-append first others
brought-append (Over ∷ first) others = ap (λ (es : List Event). Over ∷ es) (brought-append first others)

-- an event that isn't `More` is brought
pub brought_one : (event : Event) → is_more event ≡ false → brought_in (event ∷ []) ≡ event ∷ []
brought_one (Frame frame) is = refl
brought_one Silence is = refl
brought_one More is = absurd (let e : true ≡ false = is in cc)
brought_one Over is = refl

-- both parts of nothing are nothing
both_none : {X : Type 0} (first others : List X) → [] ≡ first ++ others → (first ≡ []) × (others ≡ [])
both_none [] others none = (refl, sym none)
both_none (x ∷ first) others none = absurd (let e : [] ≡ x ∷ (first ++ others) = none in cc)

module _ {S : Type 0} (engine : Engine S) (now : ℕ) where
  -- nothing is answered
  pub some_none : (old : S) (brought : List Event) → AnswersSome engine now old brought [] old
  some_none old brought = record { events = []; others = brought; split = refl; answered = (refl, refl) }

  -- one event
  pub some_one : (old new : S) (event : Event) (text : List ℕ) → Answers engine now old event text new → AnswersSome engine now old (brought_in (event ∷ [])) text new
  some_one old new event text step =
      record { events = event ∷ []; others = []; split = sym (append-nil (brought_in (event ∷ []))); answered = each_one (Answers engine now) old new event text step }

  -- an event that was brought
  pub event_some : (old new : S) (event : Event) (text : List ℕ) → is_more event ≡ false → Answers engine now old event text new → (some : AnswersSome engine now old (event ∷ []) text new) × (some.others ≡ [])
  event_some old new event text is step = (
    record { events = event ∷ []; others = []; split = sym (brought_one event is) ∙ sym (append-nil (brought_in (event ∷ []))); answered = each_one (Answers engine now) old new event text step },
    refl,
  )

  -- if nothing was brought, nothing is left
  pub none_other : (old new : S) (text : List ℕ) (some : AnswersSome engine now old [] text new) → (brought_in some.events ≡ []) × (some.others ≡ [])
  none_other old new text some = both_none (brought_in some.events) some.others some.split

  -- some of the events brought are answered, and what is due follows the last of them
  pub some_due : (old mid new : S) (brought : List Event) (text more : List ℕ) (first : AnswersSome engine now old brought text mid) → first.others ≡ [] → AnswersSome engine now mid [] more new
      → (some : AnswersSome engine now old brought (text ++ more) new) × (some.others ≡ [])
  some_due old mid new brought text more first none then =
      let rest = none_other mid new more then in (
        record {
          events = first.events ++ then.events;
          others = [];
          split =
              first.split
              ∙ ap (λ (es : List Event). brought_in first.events ++ es) (none ∙ sym rest.0)
              ∙ sym (brought-append first.events then.events)
              ∙ sym (append-nil (brought_in (first.events ++ then.events)));
          answered = each_then (Answers engine now) old mid new first.events then.events text more first.answered then.answered;
        },
        refl,
      )

  -- one more part of what is due
  pub due_more : (old mid new : S) (text more : List ℕ) → AnswersSome engine now old [] text mid → Answers engine now mid More more new → AnswersSome engine now old [] (text ++ more) new
  due_more old mid new text more first step = (some_due old mid new [] text more first (none_other old mid text first).1 (some_one mid new More more step)).0

  -- nothing was written
  pub part_none : (old : S) (brought : List Event) (held : List ℕ) (o : Option (List ℕ)) → GivesPart engine now old brought held o o
  part_none old brought held o = record { text = []; new = old; answered = some_none old brought; wrote = wrote_none (held ++ []) o }

  -- an event is answered, and a prefix was written
  pub part_one : (old new : S) (event : Event) (text held mid : List ℕ) (o p : Option (List ℕ)) → Answers engine now old event text new → mid ≡ held ++ text → WrotePart mid o p → GivesPart engine now old (brought_in (event ∷ [])) held o p
  part_one old new event text held mid o p step is part =
      record { text = text; new = new; answered = some_one old new event text step; wrote = subst (λ (t : List ℕ). WrotePart t o p) is part }

  -- some of the events brought are some of more events
  pub some_more : (old new : S) (brought more : List Event) (text : List ℕ) → AnswersSome engine now old brought text new → AnswersSome engine now old (brought ++ more) text new
  some_more old new brought more text some = record {
    events = some.events;
    others = some.others ++ more;
    split = ap (λ (es : List Event). es ++ more) some.split ∙ append_assoc (brought_in some.events) some.others more;
    answered = some.answered;
  }

  -- the same for what was written
  pub part_more : (old : S) (brought more : List Event) (held : List ℕ) (o p : Option (List ℕ)) → GivesPart engine now old brought held o p → GivesPart engine now old (brought ++ more) held o p
  part_more old brought more held o p part = record { text = part.text; new = part.new; answered = some_more old part.new brought more part.text part.answered; wrote = part.wrote }

  -- an event is answered, and a prefix of what is then due was written
  pub part_due : (old mid : S) (event : Event) (text held kept : List ℕ) (o p q : Option (List ℕ)) → is_more event ≡ false → Answers engine now old event text mid → Gives text held kept o p
      → GivesPart engine now mid [] kept p q → GivesPart engine now old (event ∷ []) held o q
  part_due old mid event text held kept o p q is step gives part =
      let one = event_some old mid event text is step in
      record {
        text = text ++ part.text;
        new = part.new;
        answered = (some_due old mid part.new (event ∷ []) text part.text one.0 one.1 part.answered).0;
        wrote = wrote_after text part.text held kept o p q gives part.wrote;
      }

  -- some of what is due was given, and a prefix of more
  pub part_more_due : (old mid : S) (text held kept : List ℕ) (o p q : Option (List ℕ)) → AnswersSome engine now old [] text mid → Gives text held kept o p → GivesPart engine now mid [] kept p q → GivesPart engine now old [] held o q
  part_more_due old mid text held kept o p q some gives part = record {
    text = text ++ part.text;
    new = part.new;
    answered = (some_due old mid part.new [] text part.text some (none_other old mid text some).1 part.answered).0;
    wrote = wrote_after text part.text held kept o p q gives part.wrote;
  }

  -- what is due was given, or so much is held that some of it is left
  pub due_gives : (old new : S) (text held kept : List ℕ) (o p : Option (List ℕ)) → AnswersSome engine now old [] text new → Gives text held kept o p → IsReady engine new ⊎ (65536 < length kept)
      → GivesAnswers engine now old [] new held kept o p
  due_gives old new text held kept o p some gives ends = record { text = text; some = some; none = (none_other old new text some).1; gave = gives; ends = ends }

  -- an event is answered, and what is then due was given
  pub event_gives : (old mid new : S) (event : Event) (text held kept next : List ℕ) (o p q : Option (List ℕ)) → is_more event ≡ false → Answers engine now old event text mid → Gives text held kept o p
      → GivesAnswers engine now mid [] new kept next p q → GivesAnswers engine now old (event ∷ []) new held next o q
  event_gives old mid new event text held kept next o p q is step gives due =
      let one = event_some old mid event text is step in
      let both = some_due old mid new (event ∷ []) text due.text one.0 one.1 due.some in
      record { text = text ++ due.text; some = both.0; none = both.1; gave = gives_then text due.text held kept next o p q gives due.gave; ends = due.ends }

  -- what was already due comes first
  pub some_begin : (old mid : S) (brought : List Event) (text : List ℕ) → AnswersSome engine now old [] text mid → (some : AnswersSome engine now old brought text mid) × (some.others ≡ brought)
  some_begin old mid brought text due =
      (record { events = due.events; others = brought; split = ap (λ (es : List Event). es ++ brought) (sym (none_other old mid text due).0); answered = due.answered }, refl)

  -- then some of what wasn't answered yet
  some_next : (old mid new : S) (brought next others : List Event) (text more : List ℕ) (first : AnswersSome engine now old brought text mid) → first.others ≡ next ++ others
      → (then : AnswersSome engine now mid next more new) → (some : AnswersSome engine now old brought (text ++ more) new) × (some.others ≡ then.others ++ others)
  some_next old mid new brought next others text more first left then = (
    record {
      events = first.events ++ then.events;
      others = then.others ++ others;
      split =
          first.split
          ∙ ap (λ (es : List Event). brought_in first.events ++ es)
          (left ∙ ap (λ (es : List Event). es ++ others) then.split ∙ append_assoc (brought_in then.events) then.others others)
          ∙ sym (append_assoc (brought_in first.events) (brought_in then.events) (then.others ++ others))
          ∙ ap (λ (es : List Event). es ++ (then.others ++ others)) (sym (brought-append first.events then.events));
      answered = each_then (Answers engine now) old mid new first.events then.events text more first.answered then.answered;
    },
    refl,
  )

  -- all of what comes next
  pub some_and_next : (old mid new : S) (brought next others : List Event) (text more : List ℕ) (first : AnswersSome engine now old brought text mid) → first.others ≡ next ++ others
      → (then : AnswersSome engine now mid next more new) → then.others ≡ [] → (some : AnswersSome engine now old brought (text ++ more) new) × (some.others ≡ others)
  some_and_next old mid new brought next others text more first left then none =
      let both = some_next old mid new brought next others text more first left then in
      (both.0, both.1 ∙ ap (λ (es : List Event). es ++ others) none)

  -- or a prefix of the answers to what comes next was written
  pub part_next : (old mid : S) (brought next others : List Event) (text held kept : List ℕ) (o p q : Option (List ℕ)) (first : AnswersSome engine now old brought text mid)
      → first.others ≡ next ++ others → Gives text held kept o p → GivesPart engine now mid next kept p q → GivesPart engine now old brought held o q
  part_next old mid brought next others text held kept o p q first left gives part = record {
    text = text ++ part.text;
    new = part.new;
    answered = (some_next old mid part.new brought next others text part.text first left part.answered).0;
    wrote = wrote_after text part.text held kept o p q gives part.wrote;
  }

  -- some of the events brought are answered, and a prefix of what is held was written
  pub part_some : (old mid : S) (brought : List Event) (text held kept : List ℕ) (o p q : Option (List ℕ)) → AnswersSome engine now old brought text mid → Gives text held kept o p → WrotePart kept p q
      → GivesPart engine now old brought held o q
  part_some old mid brought text held kept o p q some gives part = record {
    text = text;
    new = mid;
    answered = some;
    wrote =
        subst (λ (t : List ℕ). WrotePart (held ++ t) o q) (append-nil text)
        (wrote_after text [] held kept o p q gives (subst (λ (t : List ℕ). WrotePart t p q) (sym (append-nil kept)) part));
  }

-- whatever was left, the first of it is answered so far, its answers were given, and the others are left
abbrev pub SoFar : {S O : Type 0} → Engine S → ℕ → S → S → Backlog O → Backlog O → Option (List ℕ) → Option (List ℕ) → Type 0
SoFar engine now old new before after o p = (kept : List ℕ) (brought : List Event) → IsLeft before.left before.intake kept (Some brought)
    → (text : List ℕ) × (some : AnswersSome engine now old brought text new) × IsLeft after.left after.intake kept (Some some.others)
    × Gives text before.held.bytes.items after.held.bytes.items o p

-- nothing is due, if few enough bytes are held and something is left to do
pub idle_now : {S : Type 0} (engine : Engine S) (state : S) (held : List ℕ) → IsReady engine state ⊎ (65536 < length held) → engine.is_done state ≡ false → length held ≤ 65536 → engine.is_due state ≡ false
idle_now engine state held (inl (inl idle)) goes_on few = idle
idle_now engine state held (inl (inr done)) goes_on few = absurd (let e : true ≡ false = sym done ∙ goes_on in cc)
idle_now engine state held (inr full) goes_on few = absurd (omega arith)

module _ {S O : Type 0} (engine : Engine S) (now : ℕ) (old : S) (before : Backlog O) (o : Option (List ℕ)) where
  -- initially only what is due was given
  pub so_far_begins : (mid : S) (after : Backlog O) (p : Option (List ℕ)) → GivesAnswers engine now old [] mid before.held.bytes.items after.held.bytes.items o p → after.left ≡ before.left
      → after.intake ≡ before.intake → SoFar engine now old mid before after o p
  so_far_begins mid after p due same_left same_intake kept brought is =
      let first = some_begin engine now old mid brought due.text due.some in (
        due.text,
        first.0,
        subst (λ (l : Left). IsLeft l after.intake kept (Some first.0.others)) (sym same_left)
            (subst (λ (bytes : List ℕ). IsLeft before.left bytes kept (Some first.0.others)) (sym same_intake) (subst (λ (es : List Event). IsLeft before.left before.intake kept (Some es)) (sym first.1) is)),
        due.gave,
      )

  -- one more event
  pub so_far_more : (mid new : S) (run taken after : Backlog O) (event : Event) (p q : Option (List ℕ)) → SoFar engine now old mid before run o p → TakesEvent run event taken
      → GivesAnswers engine now mid (event ∷ []) new run.held.bytes.items after.held.bytes.items p q → after.left ≡ taken.left → after.intake ≡ taken.intake → SoFar engine now old new before after o q
  so_far_more mid new run taken after event p q so_far takes step same_left same_intake kept brought is =
      let (text, some, lies, gives) = so_far kept brought is in
      let (others, split, lies_on) = takes kept some.others lies in
      let both = some_and_next engine now old mid new brought (event ∷ []) others text step.text some split step.some step.none in (
        text ++ step.text,
        both.0,
        subst (λ (l : Left). IsLeft l after.intake kept (Some both.0.others)) (sym same_left)
            (subst (λ (bytes : List ℕ). IsLeft taken.left bytes kept (Some both.0.others)) (sym same_intake) (subst (λ (es : List Event). IsLeft taken.left taken.intake kept (Some es)) (sym both.1) lies_on)),
        gives_then text step.text before.held.bytes.items run.held.bytes.items after.held.bytes.items o p q gives step.gave,
      )

  -- no event can be taken, and nothing more was written
  pub so_far_fails : (mid : S) (run : Backlog O) (p : Option (List ℕ)) → SoFar engine now old mid before run o p → AnswersPartOfIt engine now old before o p
  so_far_fails mid run p so_far kept brought is =
      let (text, some, lies, gives) = so_far kept brought is in
      part_some engine now old mid brought text before.held.bytes.items run.held.bytes.items o p p some gives (wrote_none run.held.bytes.items p)

  -- a prefix of the answers to one more event was written
  pub so_far_part : (mid : S) (run taken : Backlog O) (event : Event) (p q : Option (List ℕ)) → SoFar engine now old mid before run o p → TakesEvent run event taken
      → GivesPart engine now mid (event ∷ []) run.held.bytes.items p q → AnswersPartOfIt engine now old before o q
  so_far_part mid run taken event p q so_far takes part kept brought is =
      let (text, some, lies, gives) = so_far kept brought is in
      let (others, split, lies_on) = takes kept some.others lies in
      part_next engine now old mid brought (event ∷ []) others text before.held.bytes.items run.held.bytes.items o p q some split gives part

  -- no event is left, and nothing is due
  pub so_far_ends : (mid : S) (run after : Backlog O) (p : Option (List ℕ)) → SoFar engine now old mid before run o p → TakesLast run after → engine.is_due mid ≡ false
      → after.held.bytes.items ≡ run.held.bytes.items → AnswersWhatIsLeft engine now old before mid after o p
  so_far_ends mid run after p so_far takes idle same kept brought is =
      let (text, some, lies, gives) = so_far kept brought is in
      let (none, lies_on) = takes kept some.others lies in
      record {
        text = text;
        some = some;
        gave = subst (λ (held : List ℕ). Gives text before.held.bytes.items held o p) (sym same) gives;
        left = None;
        left_is = lies_on;
        leaves = (none, idle);
        cut = inl refl;
      }

  -- the others are left, because too much is held or nothing is left to do
  pub so_far_cut : (mid : S) (run : Backlog O) (p : Option (List ℕ)) → SoFar engine now old mid before run o p → (engine.is_done mid ≡ true) ⊎ (65536 < length run.held.bytes.items)
      → AnswersWhatIsLeft engine now old before mid run o p
  so_far_cut mid run p so_far cut kept brought is =
      let (text, some, lies, gives) = so_far kept brought is in
      record { text = text; some = some; gave = gives; left = Some some.others; left_is = lies; leaves = refl; cut = inr cut }

  -- a prefix of what was already due was written
  pub so_far_none : (p : Option (List ℕ)) → GivesPart engine now old [] before.held.bytes.items o p → AnswersPartOfIt engine now old before o p
  so_far_none p part kept brought is = part_more engine now old [] brought before.held.bytes.items o p part
