-- What the lines of a journal play to.
use Rattle.gu_days.proofs.Words.{◌≡◌, ℕ, ◌<◌, Bool, true, false, nat_le, List, [], ◌∷◌, ◌++◌, length, take, Option, Some, None, is_some, IsTrue, refl, sym, ap, ◌∙◌, subst, arith, inl, inr, append-nil, append_assoc, length-append, take_all, get_or-set_same, length-set, if◌then◌else◌, Command, Day, Entry, Asked, Swept, SweepEntry, Group, Tables, GroupView, State as Standing, answer, answer_in, state_of, IsLegal, MayFollow, open_day, version_of, group_view, Course, IsRun, beginning, command_said, days_apart, entry_said, said_after, HasLineText, HasText, IsTextOfLines, SayAll, sweeper, ArePlayedBack, IsPlayedBack, played}
use Rattle.std.proofs.lemmas.Bool.Decides.{nat_tests}
use Rattle.gu_terms.specs.declared.reply.Reply.{Reply}
use Rattle.gu_ref.specs.Reference.{is_group}
use Rattle.gu_rules.specs.BookState.{BookState}
use Rattle.gu_rules.specs.Sweeps.{IsSweepOf, MaySweep}
use Rattle.gu_world.specs.Steps.{LeadsTo, Look, ProposesOn, State, committed_on, first_touch_above, is_full, is_overtaken, look_of, with_entry, with_look, with_proposal}
use Rattle.gu_world.specs.declared.outcome.Outcome.{Outcome}
use Rattle.gu_world.specs.declared.step.Step.{Step}
use Rattle.gu_world.specs.declared.step.Step.TheVariants.{Enter, See, Propose, Commit}
use Rattle.gu_world.proofs.Touches.{versions_and_touches}
use Rattle.gu_text.specs.Lines.{is_silent}
use Rattle.gu_text.specs.Scripts.{Says}
use Rattle.gu_text.specs.declared.script_line.Line.{Line}
use Rattle.gu_text.specs.declared.script_line.Line.TheVariants as line
use Rattle.gu_days.specs.Resumed.{IsDayAgain}
use Rattle.gu_days.proofs.Alike.{AreAlike, alike-append, alike-group_view, alike-length, alike-state_of, one_book}
use Rattle.gu_days.proofs.OneChoice.{same_sweep}
use Rattle.gu_days.proofs.ViewRooms.{rooms_of}
use Rattle.gu_days.proofs.Played.{alike-entry, follows-here, legal-on, open_day-step, played-answered, played_back_alike}

-- ---- what lines say is one thing

-- a line says one thing
abbrev pub OneThing : Type 0
OneThing = (text : List ℕ) (a b : Line) → Says text a → Says text b → a ≡ b

says_none : (text : List ℕ) (said : Line) → IsTrue (is_silent text) → Says text said → ⊥
says_none text said silent says = let none : false ≡ true = sym says.speaks ∙ silent in absurd cc

say_once : OneThing → (texts : List (List ℕ)) (a b : List Line) → SayAll texts a → SayAll texts b → a ≡ b
say_once once [] [] [] p q = refl
say_once once [] [] (y ∷ b) p q = absurd q
say_once once [] (x ∷ a) b p q = absurd p
say_once once (text ∷ texts) [] [] p q = refl
say_once once (text ∷ texts) [] (y ∷ b) p (inl q) = say_once once texts [] (y ∷ b) p.1 q.1
say_once once (text ∷ texts) [] (y ∷ b) p (inr q) = absurd (says_none text y p.0 q.0)
say_once once (text ∷ texts) (x ∷ a) [] (inl p) q = say_once once texts (x ∷ a) [] p.1 q.1
say_once once (text ∷ texts) (x ∷ a) [] (inr p) q = absurd (says_none text x q.0 p.0)
say_once once (text ∷ texts) (x ∷ a) (y ∷ b) (inl p) (inl q) = say_once once texts (x ∷ a) (y ∷ b) p.1 q.1
say_once once (text ∷ texts) (x ∷ a) (y ∷ b) (inl p) (inr q) = absurd (says_none text y p.0 q.0)
say_once once (text ∷ texts) (x ∷ a) (y ∷ b) (inr p) (inl q) = absurd (says_none text x q.0 p.0)
say_once once (text ∷ texts) (x ∷ a) (y ∷ b) (inr p) (inr q) =
    let one = once text x y p.0 q.0 in
    let rest = say_once once texts a b p.1 q.1 in
    λ i. one i ∷ rest i

-- ---- a command

other_part : (b : Bool) (x y : Outcome × State) → b ≡ false → (if b then x else y).1 ≡ y.1
other_part true x y e = absurd cc
other_part false x y e = refl

first_part : (b : Bool) (x y : Outcome × State) → b ≡ true → (if b then x else y).1 ≡ x.1
first_part true x y e = refl
first_part false x y e = absurd cc

has_room : (n : ℕ) → n < 1000000 → nat_le 1000000 n ≡ false
has_room n room = grind (arith, nat_tests)

one_step : (old new : State) (step : Step) (outcomes : List Outcome) → IsRun old (step ∷ []) outcomes new → (outcome : Outcome) × LeadsTo old step outcome new
one_step old new step [] h = absurd h
one_step old new step (outcome ∷ []) h = (outcome, subst (λ (s : State). LeadsTo old step outcome s) (sym h.2) h.1)
one_step old new step (outcome ∷ other ∷ outcomes) h = absurd h.2

enter_plays : (old new : State) (command : Command) (outcome : Outcome) → LeadsTo old (Enter command) outcome new → length old.book.history < 1000000
    → new ≡ with_entry old (Asked command (answer old.book.reference old.book.history command))
enter_plays old new command outcome h room = ap (λ (p : Outcome × State). p.1) h.1 ∙ other_part (is_full old) _ _ (has_room (length old.book.history) room)

-- ---- a whole sweep

-- a sweep was committed that may follow
record Sweeps (old new : State) (group : Group) : Type 0 where
  sweep : SweepEntry
  own : sweep.group ≡ group
  may : MaySweep old.book.reference old.book.history sweep
  entered : new.book ≡ (with_entry old (Swept sweep)).book
  looks : length new.looks ≡ length old.looks

read_back : (state : State) (look : Option Look) → sweeper < length state.looks → look_of (with_look state sweeper look) sweeper ≡ look
read_back state look within = get_or-set_same state.looks sweeper look None within

-- nobody has touched the group since all that there is
not_overtaken : (history : List Entry) (group : Group) → is_some (first_touch_above history group (length history)) ≡ false
not_overtaken history group =
    let all : take (length history) history ≡ history = take_all (length history) history (omega arith) in
    (versions_and_touches history (length history) group (omega arith)).0 (ap (λ (h : List Entry). version_of h group) all)

module _ (old : State) (group : Group) (known : is_group old.book.reference group ≡ true) (room : length old.book.history < 1000000) (within : sweeper < length old.looks) where
  abbrev look : Look
  look = record { group = group; seen = length old.book.history; proposal = None }

  abbrev seen : State
  seen = with_look old sweeper (Some look)

  seen-within : sweeper < length seen.looks
  seen-within = omega (arith, within, length-set old.looks sweeper (Some look))

  abbrev proposed : SweepEntry → State
  proposed sweep = with_look seen sweeper (Some (with_proposal look sweep))

  proposed-within : (sweep : SweepEntry) → sweeper < length (proposed sweep).looks
  proposed-within sweep = omega (arith, seen-within, length-set seen.looks sweeper (Some (with_proposal look sweep)))

  commits : (sweep : SweepEntry) → (committed_on (look_of (proposed sweep) sweeper) (proposed sweep) sweeper).1 ≡ with_entry (with_look (proposed sweep) sweeper None) (Swept sweep)
  commits sweep =
      let found = read_back seen (Some (with_proposal look sweep)) seen-within in
      let free = has_room (length old.book.history) room in
      let quiet = not_overtaken old.book.history group in
      ap (λ (l : Option Look). (committed_on l (proposed sweep) sweeper).1) found
      ∙ other_part (is_full (with_look (proposed sweep) sweeper None)) _ _ free
      ∙ other_part (is_overtaken (with_look (proposed sweep) sweeper None) (with_proposal look sweep)) _ _ quiet

  sweep_plays : (new : State) (outcomes : List Outcome) → IsRun old (See sweeper group ∷ Propose sweeper ∷ Commit sweeper ∷ []) outcomes new → Sweeps old new group
  sweep_plays new [] h = absurd h
  sweep_plays new (a ∷ []) h = absurd h.2
  sweep_plays new (a ∷ b ∷ []) h = absurd h.2.2
  sweep_plays new (a ∷ b ∷ c ∷ d ∷ outcomes) h = absurd h.2.2.2
  sweep_plays new (a ∷ b ∷ c ∷ []) h =
      let s1 : State = h.0 in
      let s2 : State = h.2.0 in
      let s3 : State = h.2.2.0 in
      let sees : s1 ≡ seen = ap (λ (p : Outcome × State). p.1) h.1 ∙ first_part (is_group old.book.reference group) _ _ known in
      let found = read_back old (Some look) within in
      let proposes = subst (λ (l : Option Look). ProposesOn l seen sweeper b s2) found (subst (λ (s : State). ProposesOn (look_of s sweeper) s sweeper b s2) sees h.2.1) in
      let there : s2 ≡ proposed proposes.sweep = proposes.new_is in
      let last : new ≡ with_look (with_entry (proposed proposes.sweep) (Swept proposes.sweep)) sweeper None =
      h.2.2.2 ∙ ap (λ (p : Outcome × State). p.1) h.2.2.1
      ∙ ap (λ (s : State). (committed_on (look_of s sweeper) s sweeper).1) there
      ∙ commits proposes.sweep in
      record {
        sweep = proposes.sweep;
        own = proposes.own;
        may = subst (λ (h : List Entry). MaySweep old.book.reference h proposes.sweep) (take_all (length old.book.history) old.book.history (omega arith)) proposes.right;
        entered = ap (λ (s : State). s.book) last;
        looks =
            let size = ap (λ (s : State). length s.looks) last in
            omega (arith, size, length-set (proposed proposes.sweep).looks sweeper None, length-set seen.looks sweeper (Some (with_proposal look proposes.sweep)), length-set old.looks sweeper (Some look));
      }

-- ---- an entry

-- the line of an entry makes one that it is played back as, and the 64 workers stay
record PlaysEntry (old new : State) (today : Option Day) (entry : Entry) : Type 0 where
  other : Entry
  back : IsPlayedBack today entry other
  entered : new.book ≡ (with_entry old other).book
  looks : length new.looks ≡ length old.looks

entry_plays : (old new : Course) (before : List Entry) (entry : Entry) (text : List ℕ) → AreAlike before old.state.book.history → MayFollow old.state.book.reference before entry
    → length before < 1000000 → sweeper < length old.state.looks → HasLineText old (entry_said (open_day before) entry) text new
    → PlaysEntry old.state new.state (open_day before) entry
entry_plays old new before (Asked command reply) text alike may room within h = by (days_apart (open_day before) command) refl h
  where
    reference : Tables
    reference = old.state.book.reference

    size : length old.state.book.history < 1000000
    size = omega (arith, room, alike-length before old.state.book.history alike)

    -- the played command has the reply that the command had
    replied : (days : Option (Day × Day)) → days_apart (open_day before) command ≡ days → answer reference old.state.book.history (played command days) ≡ reply
    replied days e =
        ap (λ (s : Standing). answer_in reference s (played command days)) (alike-state_of reference before old.state.book.history alike)
        ∙ ap (λ (d : Option (Day × Day)). answer_in reference (state_of reference before) (played command d)) (sym e)
        ∙ played-answered reference (state_of reference before) command
        ∙ sym may

    by : (days : Option (Day × Day)) → days_apart (open_day before) command ≡ days → HasLineText old (command_said command days) text new → PlaysEntry old.state new.state (open_day before) (Asked command reply)
    by days e g =
        let step : HasLineText old (line.Step (Enter (played command days))) text new = of days g in
        let lead = one_step old.state new.state (Enter (played command days)) step.outcomes step.run in
        let new_is = enter_plays old.state new.state (played command days) lead.0 lead.1 size in
        let same : Asked (played command days) (answer reference old.state.book.history (played command days)) ≡ Asked (played command (days_apart (open_day before) command)) reply =
        ap (λ (r : Reply). Asked (played command days) r) (replied days e) ∙ ap (λ (d : Option (Day × Day)). Asked (played command d) reply) (sym e) in
        record {
          other = Asked (played command days) (answer reference old.state.book.history (played command days));
          back = same;
          entered = ap (λ (s : State). s.book) new_is;
          looks = ap (λ (s : State). length s.looks) new_is;
        }
      where
        of : (days : Option (Day × Day)) → HasLineText old (command_said command days) text new → HasLineText old (line.Step (Enter (played command days))) text new
        of None k = k
        of (Some days) k = k
entry_plays old new before (Swept sweep) text alike may room within h =
    let reference = old.state.book.reference in
    let history = old.state.book.history in
    let size : length history < 1000000 = omega (arith, room, alike-length before history alike) in
    let made = sweep_plays old.state sweep.group may.known size within new.state h.outcomes h.run in
    let view : group_view reference history sweep.group ≡ group_view reference before sweep.group = alike-group_view reference before history alike sweep.group in
    let own : IsSweepOf (group_view reference history sweep.group) made.sweep = subst (λ (g : Group). IsSweepOf (group_view reference history g) made.sweep) made.own made.may.sweeps in
    let theirs : IsSweepOf (group_view reference before sweep.group) made.sweep = subst (λ (v : GroupView). IsSweepOf v made.sweep) view own in
    record {
      other = Swept made.sweep;
      back = same_sweep (group_view reference before sweep.group) sweep made.sweep may.sweeps theirs (rooms_of reference before sweep.group) made.own;
      entered = made.entered;
      looks = made.looks;
    }

-- ---- a journal

-- entries were played to others, which follow what was there
record PlaysEntries (old new : State) (today : Option Day) (entries : List Entry) : Type 0 where
  others : List Entry
  back : ArePlayedBack today entries others
  history : new.book.history ≡ old.book.history ++ others

plays : (before later : List Entry) (old new : Course) (text : List ℕ) → IsLegal old.state.book.reference (before ++ later) → AreAlike before old.state.book.history
    → sweeper < length old.state.looks → HasText old (said_after (open_day before) later) text new → PlaysEntries old.state new.state (open_day before) later
plays before [] old new text legal alike within h = record {
  others = [];
  back = tt;
  history = ap (λ (c : Course). c.state.book.history) h.1 ∙ sym (append-nil old.state.book.history);
}
plays before (entry ∷ later) old new text legal alike within h =
    let reference = old.state.book.reference in
    let history = old.state.book.history in
    let mid : Course = h.2 in
    let may = follows-here reference before later entry legal in
    let room : length before < 1000000 = omega (arith, legal.within, length-append before (entry ∷ later)) in
    let one = entry_plays old mid before entry h.0 alike may room within h.3 in
    let kept : mid.state.book.reference ≡ reference = ap (λ (b : BookState). b.reference) one.entered in
    let grown : mid.state.book.history ≡ history ++ one.other ∷ [] = ap (λ (b : BookState). b.history) one.entered in
    let mid-legal = subst (λ (r : Tables). IsLegal r ((before ++ entry ∷ []) ++ later)) (sym kept) (legal-on reference before later entry legal) in
    let mid-alike = subst (AreAlike (before ++ entry ∷ [])) (sym grown) (alike-append before (entry ∷ []) history (one.other ∷ []) alike (alike-entry reference before entry one.other may one.back, tt)) in
    let mid-within : sweeper < length mid.state.looks = omega (arith, within, one.looks) in
    let day = open_day-step before entry in
    let text-on = subst (λ (d : Option Day). HasText mid (said_after d later) h.1 new) day h.5 in
    let rest = plays (before ++ entry ∷ []) later mid new h.1 mid-legal mid-alike mid-within text-on in
    record {
      others = one.other ∷ rest.others;
      back = (one.back, subst (λ (d : Option Day). ArePlayedBack d later rest.others) (sym day) rest.back);
      history = rest.history ∙ ap (λ (l : List Entry). l ++ rest.others) grown ∙ append_assoc history (one.other ∷ []) rest.others;
    }

-- lines that say the entries of a legal history play to that day again
pub day_again : OneThing → (reference : Tables) (history : List Entry) (texts : List (List ℕ)) (text : List ℕ) (course : Course)
    → IsLegal reference history → SayAll texts (said_after None history) → IsTextOfLines (beginning reference) texts text course
    → IsDayAgain reference history course.state.book.history
day_again once reference history texts text course legal say h =
    let same : h.said ≡ said_after None history = say_once once texts h.said (said_after None history) h.all say in
    let has = subst (λ (l : List Line). HasText (beginning reference) l text course) same h.has_text in
    let done = plays [] history (beginning reference) course text legal tt (omega arith) has in
    let back = subst (ArePlayedBack None history) (sym done.history) done.back in
    record { back = back; book = one_book reference history course.state.book.history (played_back_alike reference history course.state.book.history legal back) }
