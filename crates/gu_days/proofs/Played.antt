-- Entries that are played back as others say the same.
use Rattle.gu_days.proofs.Words.{◌≡◌, ℕ, zero, suc, Bool, true, false, nat_lt, List, [], ◌∷◌, ◌++◌, length, slice_get, Option, Some, None, refl, sym, ap, ◌∙◌, subst, arith, append_assoc, if◌then◌else◌, option_map_or, option_or, Command, Day, Entry, Asked, Swept, SweepEntry, Group, Tables, State, answer_in, state_of, IsLegal, MayFollow, open_day, opened_day, report_on, is_of_group, touches, days_apart, open_after, ArePlayedBack, IsPlayedBack, IsSameSweep, played}
use Rattle.std.proofs.Math.Seq.{take-append_seam}
use Rattle.gu_terms.specs.Days.{date_number}
use Rattle.gu_terms.specs.Same.{same_day, same_group}
use Rattle.gu_terms.specs.declared.command.Command.TheVariants.{OpenDay, ReportSide, Claim, Refuse, Reverse}
use Rattle.gu_terms.specs.declared.command.ReportSide.{ReportSide as ReportSideOf}
use Rattle.gu_terms.specs.declared.refusal.Refusal.{Refusal}
use Rattle.gu_terms.specs.declared.refusal.Refusal.TheVariants.{WrongDay}
use Rattle.gu_terms.specs.declared.reply.Done.TheVariants.{Reported, Claimed, Refused, Reversed}
use Rattle.gu_terms.specs.declared.reply.Reply.{Reply}
use Rattle.gu_terms.specs.declared.reply.Reply.TheVariants.{Accepted, Denied}
use Rattle.gu_rules.specs.Offers.{offers_of}
use Rattle.gu_rules.proofs.Growing.{last-given, last-kept}
use Rattle.gu_days.proofs.Alike.{AreAlike, IsAlike}

-- two days are apart unless they are the same
abbrev unless_same : Bool → Day × Day → Option (Day × Day)
unless_same same days = if same then None else Some days

-- ---- entries that say the same

of_group-same : (before others : List Entry) (group : Group) → offers_of others ≡ offers_of before → (n : ℕ) → is_of_group others group n ≡ is_of_group before group n
of_group-same before others group h zero = refl
of_group-same before others group h (suc place) = ap (λ offers. option_map_or (λ o. same_group o.group group) (slice_get offers place) false) h

touched-same : (before others : List Entry) (group : Group) → offers_of others ≡ offers_of before → (entry : Entry) → touches others group entry ≡ touches before group entry
touched-same before others group h (Asked (Claim it) (Accepted (Claimed lots))) = of_group-same before others group h it.offer
touched-same before others group h (Asked (Refuse it) (Accepted (Refused lots))) = of_group-same before others group h it.offer
touched-same before others group h (Asked (Reverse it) (Accepted (Reversed lots))) = of_group-same before others group h it.offer
touched-same before others group h entry = refl

alike-self : (entry : Entry) → IsAlike entry entry
alike-self entry = record {
  opened = refl;
  reported = λ today. refl;
  lines = refl;
  taken = λ n. refl;
  given = λ n. refl;
  closed = λ n. refl;
  gave = λ firm id. refl;
  set = λ group key. refl;
  touched = λ before others group h. touched-same before others group h entry;
}

module _ (it : ReportSideOf) where
  abbrev report : Option Day → Command
  report day = ReportSide (record it { day = day })

  undated-reported : (day today : Option Day) (reply : Reply) → report_on today (Asked (report None) reply) ≡ report_on today (Asked (report day) reply)
  undated-reported day None reply = refl
  undated-reported day (Some today) (Accepted (Reported matched)) = refl
  undated-reported day (Some today) reply = refl

  -- the day that a report names makes no difference to what its entry says
  alike-undated : (day : Option Day) (reply : Reply) → IsAlike (Asked (report day) reply) (Asked (report None) reply)
  alike-undated day reply = record {
    opened = refl;
    reported = λ today. undated-reported day today reply;
    lines = refl;
    taken = λ n. refl;
    given = λ n. refl;
    closed = λ n. refl;
    gave = λ by own. refl;
    set = λ group key. refl;
    touched = λ before others group h. refl;
  }

  unreported : (day today : Option Day) (opens : Day) (why : Refusal) → report_on today (Asked (OpenDay (record { day = opens })) (Denied why)) ≡ report_on today (Asked (report day) (Denied why))
  unreported day None opens why = refl
  unreported day (Some today) opens why = refl

  -- a report and an opening that are refused say nothing
  alike-refused : (day : Option Day) (opens : Day) (why : Refusal) → IsAlike (Asked (report day) (Denied why)) (Asked (OpenDay (record { day = opens })) (Denied why))
  alike-refused day opens why = record {
    opened = refl;
    reported = λ today. unreported day today opens why;
    lines = refl;
    taken = λ n. refl;
    given = λ n. refl;
    closed = λ n. refl;
    gave = λ by own. refl;
    set = λ group key. refl;
    touched = λ before others group h. refl;
  }

  -- a report of another day than the open one is refused for its day
  wrong_day : (reference : Tables) (state : State) (today day : Option Day) (days : Day × Day) → state.today ≡ today → days_apart today (report day) ≡ Some days
      → answer_in reference state (report day) ≡ Denied WrongDay
  wrong_day reference state None day days is apart = absurd cc
  wrong_day reference state (Some today) None days is apart = absurd cc
  wrong_day reference state (Some today) (Some day) days is apart = by (same_day today day) refl apart
    where
      by : (b : Bool) → same_day today day ≡ b → unless_same b (day, today) ≡ Some days → answer_in reference state (report (Some day)) ≡ Denied WrongDay
      by true e h = absurd cc
      by false e h = rw (is, e) refl

  -- and any other is answered as one that names no day
  undated-answered : (reference : Tables) (state : State) (today day : Option Day) → state.today ≡ today → days_apart today (report day) ≡ None
      → answer_in reference state (report None) ≡ answer_in reference state (report day)
  undated-answered reference state None day is apart = rw is refl
  undated-answered reference state (Some today) None is apart = refl
  undated-answered reference state (Some today) (Some day) is apart = by (same_day today day) refl apart
    where
      by : (b : Bool) → same_day today day ≡ b → unless_same b (day, today) ≡ None → answer_in reference state (report None) ≡ answer_in reference state (report (Some day))
      by true e h = rw (is, e) refl
      by false e h = absurd cc

-- the open day isn't opened again
not_opened : (reference : Tables) (state : State) (today : Day) → state.today ≡ Some today → answer_in reference state (OpenDay (record { day = today })) ≡ Denied WrongDay
not_opened reference state today is =
    let same : nat_lt (date_number today.year today.month today.day) (date_number today.year today.month today.day) ≡ false = grind arith in
    rw (is, same) refl

-- ---- what is played

-- a command that is no report
abbrev pub IsOther : Command → Type 0
IsOther (ReportSide it) = ⊥
IsOther command = Unit {0}

-- has no days apart
pub none_apart : (today : Option Day) (command : Command) → IsOther command → days_apart today command ≡ None
none_apart None command is = refl
none_apart (Some today) (ReportSide it) is = absurd is
none_apart (Some today) command is = refl

-- a command that is played is answered as the one that was asked
pub played-answered : (reference : Tables) (state : State) (command : Command)
    → answer_in reference state (played command (days_apart state.today command)) ≡ answer_in reference state command
played-answered reference state (ReportSide it) = by (days_apart state.today (ReportSide it)) refl
  where
    by : (days : Option (Day × Day)) → days_apart state.today (ReportSide it) ≡ days
        → answer_in reference state (played (ReportSide it) days)
        ≡ answer_in reference state (ReportSide it)
    by None e = undated-answered it reference state state.today it.day refl e
    by (Some days) e =
        let there = apart-today state.today it.day days e in
        not_opened reference state days.1 there ∙ sym (wrong_day it reference state state.today it.day days refl e)
      where
        apart-today : (today day : Option Day) (days : Day × Day) → days_apart today (report it day) ≡ Some days → today ≡ Some days.1
        apart-today None day days h = absurd cc
        apart-today (Some today) None days h = absurd cc
        apart-today (Some today) (Some day) days h = of (same_day today day) h
          where
            of : (b : Bool) → unless_same b (day, today) ≡ Some days → Some today ≡ Some days.1
            of true g = absurd cc
            of false g = let same : (day, today) ≡ days = cc in ap (λ (d : Day × Day). Some d.1) same
played-answered reference state command = ap (λ (days : Option (Day × Day)). answer_in reference state (played command days)) (none_apart state.today command tt)

-- the same sweep says the same
alike-swept : (sweep other : SweepEntry) → IsSameSweep sweep other → IsAlike (Swept sweep) (Swept other)
alike-swept sweep other same = record {
  opened = refl;
  reported = none;
  lines = refl;
  taken = same.takes;
  given = λ n. refl;
  closed = λ n. refl;
  gave = λ firm id. refl;
  set = λ group key. refl;
  touched = λ before others group h. ap (λ (g : Group). same_group g group) same.group;
}
  where
    none : (today : Option Day) → report_on today (Swept other) ≡ report_on today (Swept sweep)
    none None = refl
    none (Some today) = refl

-- a command that is played back with the answer that it had says the same
pub alike-asked : (reference : Tables) (state : State) (command : Command) (reply : Reply) → reply ≡ answer_in reference state command
    → IsAlike (Asked command reply) (Asked (played command (days_apart state.today command)) reply)
alike-asked reference state (ReportSide it) reply is = by (days_apart state.today (ReportSide it)) refl
  where
    by : (days : Option (Day × Day)) → days_apart state.today (ReportSide it) ≡ days
        → IsAlike (Asked (ReportSide it) reply) (Asked (played (ReportSide it) days) reply)
    by None e = alike-undated it it.day reply
    by (Some days) e =
        let denied : Denied WrongDay ≡ reply = sym (is ∙ wrong_day it reference state state.today it.day days refl e) in
        subst (λ (r : Reply). IsAlike (Asked (ReportSide it) r) (Asked (OpenDay (record { day = days.1 })) r)) denied
        (alike-refused it it.day days.1 WrongDay)
alike-asked reference state command reply is =
    subst (λ (days : Option (Day × Day)). IsAlike (Asked command reply) (Asked (played command days) reply)) (sym (none_apart state.today command tt)) (alike-self (Asked command reply))

pub alike-entry : (reference : Tables) (before : List Entry) (entry other : Entry) → MayFollow reference before entry → IsPlayedBack (open_day before) entry other → IsAlike entry other
alike-entry reference before (Asked command reply) other may back =
    subst (IsAlike (Asked command reply)) (sym back) (alike-asked reference (state_of reference before) command reply may)
alike-entry reference before (Swept sweep) (Swept other) may back = alike-swept sweep other back
alike-entry reference before (Swept sweep) (Asked command reply) may back = absurd back

-- the day that is open one entry on
pub open_day-step : (before : List Entry) (entry : Entry) → open_after (open_day before) entry ≡ open_day (before ++ entry ∷ [])
open_day-step before entry = by (opened_day entry) refl
  where
    by : (opened : Option Day) → opened_day entry ≡ opened → option_or opened (open_day before) ≡ open_day (before ++ entry ∷ [])
    by None e = sym (last-kept opened_day before entry e)
    by (Some day) e = sym (last-given opened_day before entry day e)

-- of a legal history the entry after these may follow them
pub follows-here : (reference : Tables) (before later : List Entry) (entry : Entry) → IsLegal reference (before ++ entry ∷ later) → MayFollow reference before entry
follows-here reference before later entry legal =
    subst (λ (front : List Entry). MayFollow reference front entry) (take-append_seam before (entry ∷ later))
    (legal.each (length before) entry (there before))
  where
    there : (front : List Entry) → slice_get (front ++ entry ∷ later) (length front) ≡ Some entry
    there [] = refl
    there (first ∷ front) = there front

pub legal-on : (reference : Tables) (before later : List Entry) (entry : Entry) → IsLegal reference (before ++ entry ∷ later) → IsLegal reference ((before ++ entry ∷ []) ++ later)
legal-on reference before later entry legal = subst (IsLegal reference) (sym (append_assoc before (entry ∷ []) later)) legal

-- what entries of a legal history are played back as says the same
played_alike : (reference : Tables) (before entries others : List Entry) → IsLegal reference (before ++ entries) → ArePlayedBack (open_day before) entries others → AreAlike entries others
played_alike reference before [] [] legal back = tt
played_alike reference before [] (other ∷ others) legal back = absurd back
played_alike reference before (entry ∷ entries) [] legal back = absurd back
played_alike reference before (entry ∷ entries) (other ∷ others) legal back =
    let may = follows-here reference before entries entry legal in
    let rest = subst (λ (day : Option Day). ArePlayedBack day entries others) (open_day-step before entry) back.1 in
    (alike-entry reference before entry other may back.0, played_alike reference (before ++ entry ∷ []) entries others (legal-on reference before entries entry legal) rest)

pub played_back_alike : (reference : Tables) (history other : List Entry) → IsLegal reference history → ArePlayedBack None history other → AreAlike history other
played_back_alike reference history other legal back = played_alike reference [] history other legal back
