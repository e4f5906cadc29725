-- What the lines of a journal play to: the entries of its history, where a report that names its day or another one is as the journal says it.
use Rattle.std.specs.Prelude.{◌≡◌, ℕ, List, [], ◌∷◌, Option, Some, None}
use Rattle.gu_terms.specs.Takes.{lots_of}
use Rattle.gu_terms.specs.declared.command.Command.{Command}
use Rattle.gu_terms.specs.declared.command.Command.TheVariants.{OpenDay}
use Rattle.gu_terms.specs.declared.day.Day.{Day}
use Rattle.gu_terms.specs.declared.entry.Entry.{Entry}
use Rattle.gu_terms.specs.declared.entry.Entry.TheVariants.{Asked, Swept}
use Rattle.gu_terms.specs.declared.entry.SweepEntry.{SweepEntry}
use Rattle.gu_text.specs.WrittenCommands.{undated}
use Rattle.gu_view.specs.Nearest.{AreSame}
use Rattle.gu_script.specs.Journals.{days_apart, open_after}

-- the command that is played for a command, where these are its days apart: the report of a day that isn't open is an opening of the open day, which is
-- refused for its day too, and any other report names no day
abbrev pub played : Command → Option (Day × Day) → Command
played command None = undated command
played command (Some days) = OpenDay (record { day = days.1 })

-- the same sweep: of the same group, with the same lots from each offer and in all, and a cut with the same keys and the same offers
pub record IsSameSweep (sweep other : SweepEntry) : Type 0 where
  pub group : other.group ≡ sweep.group
  pub lots : other.lots ≡ sweep.lots
  pub takes : (number : ℕ) → lots_of other.takes number ≡ lots_of sweep.takes number
  pub cut : AreSame sweep.cut other.cut

-- an entry is played back as another, where this day was open before: the command has the same reply, and the sweep is the same
abbrev pub IsPlayedBack : Option Day → Entry → Entry → Type 0
IsPlayedBack today (Asked command reply) other = other ≡ Asked (played command (days_apart today command)) reply
IsPlayedBack today (Swept sweep) (Swept other) = IsSameSweep sweep other
IsPlayedBack today (Swept sweep) (Asked command reply) = ⊥

-- entries are played back as others, one by one, where this day was open before them
abbrev pub ArePlayedBack : Option Day → List Entry → List Entry → Type 0
ArePlayedBack today [] [] = Unit {0}
ArePlayedBack today [] (other ∷ others) = ⊥
ArePlayedBack today (entry ∷ entries) [] = ⊥
ArePlayedBack today (entry ∷ entries) (other ∷ others) = IsPlayedBack today entry other × ArePlayedBack (open_after today entry) entries others
