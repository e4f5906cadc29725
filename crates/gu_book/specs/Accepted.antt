-- Machinery: applying an accepted command to the totals kept beside a history.
use Rattle.std.specs.Prelude.{◌++◌, List, [], ◌∷◌}
use Rattle.gu_terms.specs.declared.command.Command.{Command}
use Rattle.gu_terms.specs.declared.entry.Entry.{Entry}
use Rattle.gu_ref.specs.Tables.{Tables}
use Rattle.gu_rules.specs.Legal.{IsAccepted, accepted_entry}
use Rattle.gu_book.specs.Beside.{IsKept}
use Rattle.gu_book.specs.Deeds.{Deed, IsDeedOf}
use Rattle.gu_book.specs.declared.totals.Totals.{Totals}

-- a command is accepted after some history with these totals
pub record MayTakeIn (reference : Tables) (totals : Totals) (command : Command) : Type 0 where
  pub history : List Entry
  pub kept : IsKept reference history totals
  pub accepted : IsAccepted reference history command

-- some command with this effect is accepted
pub record MayDo (reference : Tables) (totals : Totals) (deed : Deed) : Type 0 where
  pub command : Command
  pub may : MayTakeIn reference totals command
  pub is : IsDeedOf reference totals command deed

-- old totals of a history after which the command is accepted become those of the history with the command's entry
abbrev pub TakesIn : Tables → Totals → Totals → Command → Type 0
TakesIn reference old new command =
    (history : List Entry) → IsKept reference history old → IsAccepted reference history command → IsKept reference (history ++ accepted_entry reference history command ∷ []) new

-- this holds for each command with this effect
abbrev pub TakesDeed : Totals → Totals → Deed → Type 0
TakesDeed old new deed = (reference : Tables) (command : Command) → IsDeedOf reference old command deed → TakesIn reference old new command
