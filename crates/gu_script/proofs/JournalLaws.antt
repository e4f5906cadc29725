-- The lines of a journal say the entries of its history.
use Rattle.gu_script.proofs.Words.{◌≡◌, ◌++◌, ◌∷◌, [], ℕ, List, Option, None, Some, map, refl, sym, ap, subst, inl, inr, AllByRecursion, lines, Day, Entry, Asked, Swept, Line, IsWritableEntry, command_said, days_apart, entry_rows, entry_said, journal_text, open_after, rows_after, rows_apart, said_after, SayAll}
use Rattle.gu_terms.specs.declared.command.Command.{Command}
use Rattle.gu_terms.specs.declared.command.Command.TheVariants.{OpenDay}
use Rattle.gu_text.specs.ReadBack.{AreWords, joined}
use Rattle.gu_text.specs.WrittenCommands.{IsSilentLineOf, IsWritableCommand, sweep_remarks}
use Rattle.gu_text.proofs.ReadBackLemmas.{lines_of_rows}
use Rattle.gu_text.proofs.WrittenCommandLemmas.{command_says, remark_is_silent, sweep_says, swept_is_silent}

-- rows are lines, and say this followed by what later rows say
record SayFirst (rows : List (List (List ℕ))) (said : Line) : Type 0 where
  are : AllByRecursion AreWords rows
  say : (texts : List (List ℕ)) (others : List Line) → SayAll texts others → SayAll (map joined rows ++ texts) (said ∷ others)

-- silent rows are lines, and only later rows say anything
silent_are_lines : (rows : List (List (List ℕ))) → AllByRecursion IsSilentLineOf rows → AllByRecursion AreWords rows
silent_are_lines [] all = tt
silent_are_lines (row ∷ rows) all = (all.0.are, silent_are_lines rows all.1)

silent_say : (rows : List (List (List ℕ))) → AllByRecursion IsSilentLineOf rows → (texts : List (List ℕ)) (others : List Line) → SayAll texts others → SayAll (map joined rows ++ texts) others
silent_say [] all texts others say = say
silent_say (row ∷ rows) all texts [] say = (all.0.silent, silent_say rows all.1 texts [] say)
silent_say (row ∷ rows) all texts (said ∷ others) say = inl (all.0.silent, silent_say rows all.1 texts (said ∷ others) say)

-- for a command with its two days
apart_says : (command : Command) (days : Option (Day × Day)) → IsWritableCommand command → SayFirst (rows_apart command days) (command_said command days)
apart_says command None is =
    let row = command_says command is in
    record { are = (row.are, tt); say = λ texts others all. inr (row.says, all) }
apart_says command (Some days) is =
    let remark = remark_is_silent command days.0 is in
    let opening = command_says (OpenDay (record { day = days.1 })) tt in
    record { are = (remark.are, (opening.are, tt)); say = λ texts others all. inl (remark.silent, inr (opening.says, all)) }

entry_says : (today : Option Day) (entry : Entry) → IsWritableEntry entry → SayFirst (entry_rows today entry) (entry_said today entry)
entry_says today (Asked command reply) is = apart_says command (days_apart today command) is
entry_says today (Swept sweep) is =
    let row = sweep_says sweep.group is.group in
    let remarks = sweep_remarks sweep in
    let silent = swept_is_silent sweep is in
    record { are = (row.are, silent_are_lines remarks silent); say = λ texts others all. inr (row.says, silent_say remarks silent texts others all) }

both_are_lines : (xs ys : List (List (List ℕ))) → AllByRecursion AreWords xs → AllByRecursion AreWords ys → AllByRecursion AreWords (xs ++ ys)
both_are_lines [] ys p q = q
both_are_lines (x ∷ xs) ys p q = (p.0, both_are_lines xs ys p.1 q)

map-append : (xs ys : List (List (List ℕ))) → map joined (xs ++ ys) ≡ map joined xs ++ map joined ys
map-append [] ys = refl
map-append (x ∷ xs) ys = ap (λ (ls : List (List ℕ)). joined x ∷ ls) (map-append xs ys)

rows_are_lines : (today : Option Day) (history : List Entry) → AllByRecursion IsWritableEntry history → AllByRecursion AreWords (rows_after today history)
rows_are_lines today [] all = tt
rows_are_lines today (entry ∷ later) all =
    both_are_lines (entry_rows today entry) (rows_after (open_after today entry) later)
    (entry_says today entry all.0).are
    (rows_are_lines (open_after today entry) later all.1)

rows_say : (today : Option Day) (history : List Entry) → AllByRecursion IsWritableEntry history → SayAll (map joined (rows_after today history)) (said_after today history)
rows_say today [] all = tt
rows_say today (entry ∷ later) all =
    let next = open_after today entry in
    let rest = rows_say next later all.1 in
    subst (λ (texts : List (List ℕ)). SayAll texts (entry_said today entry ∷ said_after next later))
    (sym (map-append (entry_rows today entry) (rows_after next later)))
    ((entry_says today entry all.0).say (map joined (rows_after next later)) (said_after next later) rest)

pub journal_says : (history : List Entry) → AllByRecursion IsWritableEntry history → SayAll (lines (journal_text history)) (said_after None history)
journal_says history all =
    subst (λ (texts : List (List ℕ)). SayAll texts (said_after None history))
    (sym (lines_of_rows (rows_after None history) (rows_are_lines None history all)))
    (rows_say None history all)
