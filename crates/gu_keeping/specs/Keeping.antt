-- What a keeper keeps of a day.
use Rattle.std.specs.Prelude.{◌≡◌, ℕ, ◌≤◌, List, [], ◌∷◌, ◌++◌, Option, Some, None, length, map, take}
use Rattle.std.specs.List.{flat_map}
use Rattle.gu_terms.specs.declared.entry.Entry.{Entry}
use Rattle.gu_journal.specs.declared.sink.SinkError.{SinkError}
use Rattle.gu_journal.specs.declared.stopped.Stopped.{Stopped}
use Rattle.gu_journal.specs.Crashes.{LeavesOnly}
use Rattle.gu_journal.specs.Sink.{HasBegun}
use Rattle.gu_journal.specs.Text.{IsWholeLines}
use Rattle.gu_desk.specs.declared.origin.Origin.{Origin}
use Rattle.gu_keeping.specs.Batches.{IsBatchText}
use Rattle.gu_keeping.specs.Chains.{chain_after, chain_after_all, empty_chain}
use Rattle.gu_keeping.specs.declared.chain.Chain.{Chain}
use Rattle.gu_keeping.specs.declared.error.Unkept.{Unkept}
use Rattle.gu_keeping.specs.declared.error.Unkept.TheVariants.{Memory, Missing, TooLong, Failed}

-- the entries kept: the first of those taken from the desk
abbrev pub kept_entries : Chain → List Entry → List Entry
kept_entries chain front = take chain.count front

-- if a failure returned the keeper or sink, it has this property
abbrev pub IfGivenBack : {T P : Type 0} → Unkept T P → (T → Type 0) → Type 0
IfGivenBack (Memory back) P = P back
IfGivenBack (Missing back) P = P back
IfGivenBack (TooLong back) P = P back
IfGivenBack (Failed stopped) P = Unit {0}

-- if the sink stopped, what is left has this property
abbrev pub IfStopped : {T P : Type 0} → Unkept T P → (Stopped P SinkError → Type 0) → Type 0
IfStopped (Failed stopped) P = P stopped
IfStopped unkept P = Unit {0}

-- a text is written to a sink: if its place is honest, a crash at any moment leaves what was kept, and a prefix of the text in whole lines
abbrev pub Writes : {P : Type 0} → (P → Type 0) → (P → ℕ) → (P → ℕ → Option (List ℕ) → Type 0) → P → P → List ℕ → List ℕ → Type 0
Writes is_honest moment left_since old new kept text = is_honest new → LeavesOnly moment left_since old new (HasBegun kept text)

-- the next entries after those of a chain, each with its origin, and their batch
pub record IsNextBatch (origins : List Origin) (chain : Chain) (entries : List Entry) (text : List ℕ) : Type 0 where
  pub some : 1 ≤ length entries
  pub within : length entries ≤ length origins
  pub batch : IsBatchText chain (map Some (take (length entries) origins)) entries text

-- no known origin, for each of these entries
abbrev pub unknown_origins : List Entry → List (Option Origin)
unknown_origins entries = map (λ entry. None) entries

-- batches of these parts of a day's entries, one after another, following those of a chain
abbrev pub AreBatches : Chain → List (List Entry) → List ℕ → Type 0
AreBatches chain [] text = text ≡ []
AreBatches chain (part ∷ parts) text =
    (first : List ℕ) × (others : List ℕ)
    × IsBatchText chain (unknown_origins part) part first × AreBatches (chain_after chain part) parts others × (text ≡ first ++ others)

-- the entries of a history after those of a chain, up to a number, and their batch
pub record IsNextPart (history : List Entry) (chain : Chain) (count : ℕ) (entries : List Entry) (text : List ℕ) : Type 0 where
  pub entries_are : take count history ≡ take chain.count history ++ entries
  pub batch : IsBatchText chain (unknown_origins entries) entries text
  pub whole : IsWholeLines text

-- the opening of a day: the entries of a history in batches, and the chain after these
pub record IsOpening (entries : List Entry) (chain : Chain) (text : List ℕ) : Type 0 where
  pub parts : List (List Entry)
  pub all : flat_map (λ part. part) parts ≡ entries
  pub batches : AreBatches empty_chain parts text
  pub chain_is : chain ≡ chain_after_all empty_chain parts
