-- Steps: commands are entered, and workers look at groups, propose sweeps of what they saw, and commit them.
use Rattle.std.specs.Prelude.{◌≡◌, ℕ, ◌+◌, ◌++◌, nat_le, nat_lt, Bool, false, IsSome, List, [], ◌∷◌, length, take, replicate, Option, Some, None, is_some, slice_index_or, slice_set, if◌then◌else◌}
use Rattle.std.specs.List.{find}
use Rattle.std.specs.Option.{option_map_or}
use Rattle.gu_terms.specs.Commands.{MayBeAsked}
use Rattle.gu_terms.specs.declared.command.Command.{Command}
use Rattle.gu_terms.specs.declared.entry.Entry.{Entry}
use Rattle.gu_terms.specs.declared.entry.Entry.TheVariants.{Asked as AskedEntry, Swept as SweptEntry}
use Rattle.gu_terms.specs.declared.entry.SweepEntry.{SweepEntry}
use Rattle.gu_terms.specs.declared.group.Group.{Group}
use Rattle.gu_terms.specs.declared.receipt.Receipt.{Receipt}
use Rattle.gu_ref.specs.Reference.{is_group}
use Rattle.gu_ref.specs.Tables.{Tables}
use Rattle.gu_view.specs.View.{GroupView}
use Rattle.gu_rules.specs.Answer.{answer}
use Rattle.gu_rules.specs.BookState.{BookState}
use Rattle.gu_rules.specs.Sweeps.{MaySweep}
use Rattle.gu_rules.specs.Versions.{touching, version_of}
use Rattle.gu_rules.specs.Views.{group_view}
use Rattle.gu_world.specs.declared.answered.Answered.{Answered}
use Rattle.gu_world.specs.declared.outcome.Outcome.{Outcome}
use Rattle.gu_world.specs.declared.outcome.Outcome.TheVariants.{Asked, Full, Seen, NoGroup, Proposed, Swept, Stale, Nothing}
use Rattle.gu_world.specs.declared.step.Step.{Step}
use Rattle.gu_world.specs.declared.step.Step.TheVariants.{Enter, See, Propose, Commit}

-- a worker's look: the group, the number of entries that the book had then, and the sweep that the worker proposes, if it does
pub record Look : Type 0 where
  pub group : Group
  pub seen : ℕ
  pub proposal : Option SweepEntry

-- a book, and the look of each worker
pub record State : Type 0 where
  pub book : BookState
  pub looks : List (Option Look)

-- an empty book, and 64 workers that haven't looked
abbrev pub start : Tables → State
start reference = record { book = record { reference = reference; history = [] }; looks = replicate 64 None }

-- the look of a worker
abbrev pub look_of : State → ℕ → Option Look
look_of state worker = slice_index_or state.looks worker None

-- the same state with another look of a worker
abbrev pub with_look : State → ℕ → Option Look → State
with_look state worker look = record { book = state.book; looks = slice_set state.looks worker look }

-- the same state with one more entry
abbrev pub with_entry : State → Entry → State
with_entry state entry = record { book = record { reference = state.book.reference; history = state.book.history ++ entry ∷ [] }; looks = state.looks }

-- the receipt for the next entry
abbrev pub next_receipt : State → Entry → Receipt
next_receipt state entry = record { number = length state.book.history + 1; entry = entry }

-- the book has 1,000,000 entries
abbrev pub is_full : State → Bool
is_full state = nat_le 1000000 (length state.book.history)

-- the entries that a worker saw
abbrev pub seen_history : State → Look → List Entry
seen_history state look = take look.seen state.book.history

-- the view that a worker saw
abbrev pub view_seen : State → Look → GroupView
view_seen state look = group_view state.book.reference (seen_history state look) look.group

-- the first entry after a number that touches a group
abbrev pub first_touch_above : List Entry → Group → ℕ → Option ℕ
first_touch_above history group n = find (nat_lt n) (touching history group)

-- an entry after those that a worker saw touches its group
abbrev pub is_overtaken : State → Look → Bool
is_overtaken state look = is_some (first_touch_above state.book.history look.group look.seen)

-- if a worker's look has a proposal and wasn't overtaken, this is the view of its group as the book is now
abbrev pub ShowsProposed : State → ℕ → Option GroupView → Type 0
ShowsProposed state worker view =
    (look : Look) → look_of state worker ≡ Some look → IsSome look.proposal → is_overtaken state look ≡ false
    → view ≡ Some (group_view state.book.reference state.book.history look.group)

-- the outcome of a command, given the answer to it: the receipt of its entry, or Full if there is no answer
abbrev pub outcome_of : Command → Option Answered → Outcome
outcome_of command None = Full
outcome_of command (Some answered) = Asked (record { number = answered.number; entry = AskedEntry command answered.reply })

-- a command is entered with its answer; nothing is entered in a full book
abbrev pub entered : State → Command → Outcome × State
entered state command =
    let entry = AskedEntry command (answer state.book.reference state.book.history command) in
    if is_full state then (Full, state) else (Asked (next_receipt state entry), with_entry state entry)

-- a worker looks at a group, which replaces its earlier look or proposal; if the reference lacks the group, it keeps what it had
abbrev pub looked : State → ℕ → Group → Outcome × State
looked state worker group =
    if is_group state.book.reference group
    then (
      Seen (version_of state.book.history group),
      with_look state worker (Some (record { group = group; seen = length state.book.history; proposal = None })),
    )
    else (NoGroup, state)

-- the look with this proposal
abbrev pub with_proposal : Look → SweepEntry → Look
with_proposal look sweep = record { group = look.group; seen = look.seen; proposal = Some sweep }

-- a worker proposes some sweep of its group that may follow the entries that it saw
pub record ProposesFor (old : State) (worker : ℕ) (look : Look) (outcome : Outcome) (new : State) : Type 0 where
  pub sweep : SweepEntry
  pub own : sweep.group ≡ look.group
  pub right : MaySweep old.book.reference (seen_history old look) sweep
  pub outcome_is : outcome ≡ Proposed sweep.lots
  pub new_is : new ≡ with_look old worker (Some (with_proposal look sweep))

-- the same; without a look, nothing happens
abbrev pub ProposesOn : Option Look → State → ℕ → Outcome → State → Type 0
ProposesOn None old worker outcome new = (outcome ≡ Nothing) × (new ≡ old)
ProposesOn (Some look) old worker outcome new = ProposesFor old worker look outcome new

-- a proposed sweep is entered, unless the book is full or the look was overtaken: then the outcome has the version seen and the one now
abbrev pub committed_for : State → Look → SweepEntry → Outcome × State
committed_for state look sweep =
    if is_full state then (Full, state)
    else if is_overtaken state look
    then (Stale (version_of (seen_history state look) look.group) (version_of state.book.history look.group), state)
    else (Swept (next_receipt state (SweptEntry sweep)), with_entry state (SweptEntry sweep))

-- a worker commits: without a proposal nothing happens, and its look stays; with one, its look and proposal are gone, whatever the outcome
abbrev pub committed_on : Option Look → State → ℕ → Outcome × State
committed_on None state worker = (Nothing, state)
committed_on (Some look) state worker = option_map_or (committed_for (with_look state worker None) look) look.proposal (Nothing, state)

-- a step leads from one state to another, with an outcome; a command must be one that may be entered
abbrev pub LeadsTo : State → Step → Outcome → State → Type 0
LeadsTo old (Enter command) outcome new = MayBeAsked command × ((outcome, new) ≡ entered old command)
LeadsTo old (See worker group) outcome new = (outcome, new) ≡ looked old worker group
LeadsTo old (Propose worker) outcome new = ProposesOn (look_of old worker) old worker outcome new
LeadsTo old (Commit worker) outcome new = (outcome, new) ≡ committed_on (look_of old worker) old worker
