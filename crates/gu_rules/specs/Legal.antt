-- Legal histories: each entry may follow those before it.
use Rattle.std.specs.Prelude.{◌≡◌, ℕ, ◌+◌, ◌≤◌, List, [], ◌∷◌, ◌++◌, length, take, Some, slice_get, Bool, true, false, ◌<◌}
use Rattle.gu_terms.specs.declared.entry.Entry.{Entry}
use Rattle.gu_terms.specs.declared.entry.Entry.TheVariants.{Asked, Swept}
use Rattle.gu_terms.specs.declared.reply.Reply.TheVariants.{Accepted, Denied}
use Rattle.gu_terms.specs.declared.reply.Reply.{Reply}
use Rattle.gu_terms.specs.declared.command.Command.{Command}
use Rattle.gu_terms.specs.Commands.{MayBeAsked}
use Rattle.gu_ref.specs.Tables.{Tables}
use Rattle.gu_rules.specs.Answer.{answer, done_of, state_of}
use Rattle.gu_rules.specs.Sweeps.{MaySweep}

-- an entry may follow these: a command with the answer that they give, or a sweep of a group as it is after them
abbrev pub MayFollow : Tables → List Entry → Entry → Type 0
MayFollow reference before (Asked command reply) = reply ≡ answer reference before command
MayFollow reference before (Swept sweep) = MaySweep reference before sweep

-- an entry may be entered: its command is well formed, or it is a sweep
abbrev pub MayBeEntered : Entry → Type 0
MayBeEntered (Asked command reply) = MayBeAsked command
MayBeEntered (Swept sweep) = Unit {0}

-- at most 1,000,000 entries, each of which may be entered and may follow those before it
pub record IsLegal (reference : Tables) (history : List Entry) : Type 0 where
  pub within : length history ≤ 1000000
  pub entered : (k : ℕ) (entry : Entry) → slice_get history k ≡ Some entry → MayBeEntered entry
  pub each : (k : ℕ) (entry : Entry) → slice_get history k ≡ Some entry → MayFollow reference (take k history) entry

-- the entry is the last of some legal history with this number of entries
pub record StandsLast (reference : Tables) (number : ℕ) (entry : Entry) : Type 0 where
  pub before : List Entry
  pub legal : IsLegal reference (before ++ entry ∷ [])
  pub number_is : number ≡ length before + 1

-- a reply accepts a command
abbrev pub accepts : Reply → Bool
accepts (Accepted done) = true
accepts (Denied why) = false

-- a command is accepted after a history that isn't full
pub record IsAccepted (reference : Tables) (history : List Entry) (command : Command) : Type 0 where
  pub room : length history < 1000000
  pub accepted : answer reference history command ≡ Accepted (done_of reference (state_of reference history) command)

-- the entry for an accepted command
abbrev pub accepted_entry : Tables → List Entry → Command → Entry
accepted_entry reference history command = Asked command (Accepted (done_of reference (state_of reference history) command))
