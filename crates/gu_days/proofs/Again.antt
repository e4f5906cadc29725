-- What is played back says the same lines again, and what a crash leaves of a journal plays to a beginning of its day.
use Rattle.gu_days.proofs.Words.{◌≡◌, ℕ, zero, suc, List, [], ◌∷◌, ◌++◌, take, drop, slice_get, Option, Some, None, refl, sym, ap, ◌∙◌, subst, arith, append_assoc, length-append, take-append-drop, option_or, Command, Day, Entry, Asked, Swept, Tables, IsLegal, MayFollow, open_day, command_said, days_apart, entry_said, open_after, said_after, ArePlayedBack, IsPlayedBack, played}
use Rattle.std.proofs.lemmas.List.{take-append-le}
use Rattle.std.proofs.lemmas.Option.{slice_get_within}
use Rattle.gu_terms.specs.declared.command.Command.TheVariants.{OpenDay, ReportSide}
use Rattle.gu_text.specs.WrittenCommands.{undated}
use Rattle.gu_text.specs.declared.script_line.Line.TheVariants as line
use Rattle.gu_days.proofs.Played.{alike-entry, follows-here, legal-on, none_apart, open_day-step}

-- ---- the same lines

-- a report that names no day has no days apart, and is itself without one
none_undated : (today : Option Day) (command : Command) → days_apart today (undated command) ≡ None
none_undated None (ReportSide it) = refl
none_undated (Some today) (ReportSide it) = refl
none_undated today command = none_apart today command tt

command_said-again : (today : Option Day) (command : Command) (days : Option (Day × Day)) → command_said (played command days) (days_apart today (played command days)) ≡ command_said command days
command_said-again today command None =
    ap (command_said (undated command)) (none_undated today command) ∙ twice command
  where
    twice : (c : Command) → command_said (undated c) None ≡ command_said c None
    twice (ReportSide it) = refl
    twice c = refl
command_said-again today command (Some days) = ap (command_said (OpenDay (record { day = days.1 }))) (none_apart today (OpenDay (record { day = days.1 })) tt)

entry_said-again : (today : Option Day) (entry other : Entry) → IsPlayedBack today entry other → entry_said today other ≡ entry_said today entry
entry_said-again today (Asked command reply) other back = ap (entry_said today) back ∙ command_said-again today command (days_apart today command)
entry_said-again today (Swept sweep) (Swept other) back = ap line.Sweep back.group
entry_said-again today (Swept sweep) (Asked command reply) back = absurd back

said-again : (reference : Tables) (before entries others : List Entry) → IsLegal reference (before ++ entries) → ArePlayedBack (open_day before) entries others
    → said_after (open_day before) others ≡ said_after (open_day before) entries
said-again reference before [] [] legal back = refl
said-again reference before [] (other ∷ others) legal back = absurd back
said-again reference before (entry ∷ entries) [] legal back = absurd back
said-again reference before (entry ∷ entries) (other ∷ others) legal back =
    let may = follows-here reference before entries entry legal in
    let one = entry_said-again (open_day before) entry other back.0 in
    let same = alike-entry reference before entry other may back.0 in
    let day : open_after (open_day before) other ≡ open_after (open_day before) entry = ap (λ (d : Option Day). option_or d (open_day before)) same.opened in
    let step = open_day-step before entry in
    let rest = subst (λ (d : Option Day). ArePlayedBack d entries others) step back.1 in
    let later = said-again reference (before ++ entry ∷ []) entries others (legal-on reference before entries entry legal) rest in
    let after : said_after (open_after (open_day before) other) others ≡ said_after (open_after (open_day before) entry) entries =
    ap (λ (d : Option Day). said_after d others) (day ∙ step) ∙ later ∙ ap (λ (d : Option Day). said_after d entries) (sym step) in
    λ i. one i ∷ after i

pub says_again : (reference : Tables) (history other : List Entry) → IsLegal reference history → ArePlayedBack None history other → said_after None other ≡ said_after None history
says_again reference history other legal back = said-again reference [] history other legal back

-- ---- a beginning

there_first : (xs ys : List Entry) (k : ℕ) (entry : Entry) → slice_get xs k ≡ Some entry → slice_get (xs ++ ys) k ≡ Some entry
there_first [] ys k entry at = absurd cc
there_first (x ∷ xs) ys zero entry at = at
there_first (x ∷ xs) ys (suc k) entry at = there_first xs ys k entry at

-- a beginning of a legal history is one
pub legal_first : (reference : Tables) (first later : List Entry) → IsLegal reference (first ++ later) → IsLegal reference first
legal_first reference first later legal = record {
  within = omega (arith, legal.within, length-append first later);
  entered = λ k entry at. legal.entered k entry (there_first first later k entry at);
  each = λ k entry at.
      let inside = slice_get_within first k entry at in
      let front : take k (first ++ later) ≡ take k first = take-append-le k first later (omega (arith, inside)) in
      subst (λ (before : List Entry). MayFollow reference before entry) front (legal.each k entry (there_first first later k entry at));
}

-- so is one with the first ones of what came after
pub legal_taken : (reference : Tables) (before entries : List Entry) (count : ℕ) → IsLegal reference (before ++ entries) → IsLegal reference (before ++ take count entries)
legal_taken reference before entries count legal =
    let parts : before ++ entries ≡ (before ++ take count entries) ++ drop count entries =
    ap (λ (l : List Entry). before ++ l) (sym (take-append-drop count entries)) ∙ sym (append_assoc before (take count entries) (drop count entries)) in
    legal_first reference (before ++ take count entries) (drop count entries) (subst (IsLegal reference) parts legal)
