-- The day that a text records.
use Rattle.std.specs.Prelude.{◌≡◌, ℕ, ◌+◌, ◌≤◌, ◌<◌, ◌^◌, List, [], ◌++◌, Option, Some, None, length, take, IsTrue}
use Rattle.std.specs.List.{AllByRecursion}
use Rattle.std.specs.Str.Lines.{lines}
use Rattle.gu_terms.specs.Names.{is_name}
use Rattle.gu_terms.specs.Numbers.{IsMoment}
use Rattle.gu_terms.specs.declared.entry.Entry.{Entry}
use Rattle.gu_journal.specs.Sink.{HasBegun}
use Rattle.gu_text.specs.LineFeeds.{LeavesOpen}
use Rattle.gu_desk.specs.declared.origin.FirmMessage.{FirmMessage}
use Rattle.gu_desk.specs.declared.origin.Origin.{Origin}
use Rattle.gu_script.specs.Journals.{IsWritableEntry, said_after}
use Rattle.gu_script.specs.Replaying.{SayAll}
use Rattle.gu_keeping.specs.Batches.{IsBatchText}
use Rattle.gu_keeping.specs.Chains.{IsChainOf}
use Rattle.gu_keeping.specs.declared.chain.Chain.{Chain}

-- a text records a day with these entries: each of its lines is ended, and is silent or says the next entry
pub record SaysDay (text : List ℕ) (entries : List Entry) : Type 0 where
  pub ended : LeavesOpen text (lines text) []
  pub says : SayAll (lines text) (said_after None entries)

-- the invariants of a message's types
abbrev pub IsWritableMessage : Option FirmMessage → Type 0
IsWritableMessage None = Unit {0}
IsWritableMessage (Some message) = IsTrue (is_name message.firm.name) × (message.connection < 2 ^ 64) × (message.number < 2 ^ 64)

-- the invariants of an origin's types
abbrev pub IsWritableOrigin : Option Origin → Type 0
IsWritableOrigin None = Unit {0}
IsWritableOrigin (Some origin) = IsMoment origin.moment × IsWritableMessage origin.message

-- the invariants of a batch's types; a script can write each of its entries, and there are at most 1,000,000 with those before
pub record AreWritable (before : List Entry) (origins : List (Option Origin)) (entries : List Entry) : Type 0 where
  pub origins_are : AllByRecursion IsWritableOrigin origins
  pub entries_are : AllByRecursion IsWritableEntry entries
  pub few : length before + length entries ≤ 1000000

-- if a text records a day, then with a batch after it it records the day with the batch's entries, whatever the batches before
abbrev pub ABatchSaysItsEntries : Type 0
ABatchSaysItsEntries =
    (chain : Chain) (before : List Entry) (origins : List (Option Origin)) (entries : List Entry) (kept text : List ℕ)
    → IsChainOf chain before → AreWritable before origins entries → SaysDay kept before → IsBatchText chain origins entries text
    → SaysDay (kept ++ text) (before ++ entries)

-- the text found after a crash records a day with all entries kept, followed by the first entries of the batch in progress
pub record SaysFirstEntries (before entries : List Entry) (kept : List ℕ) (outcome : Option (List ℕ)) : Type 0 where
  pub lines_more : List ℕ
  pub count : ℕ
  pub found : outcome ≡ Some (kept ++ lines_more)
  pub within : count ≤ length entries
  pub says : SaysDay (kept ++ lines_more) (before ++ take count entries)

abbrev pub ACrashLeavesFirstEntries : Type 0
ACrashLeavesFirstEntries =
    (chain : Chain) (before : List Entry) (origins : List (Option Origin)) (entries : List Entry) (kept text : List ℕ)
    → IsChainOf chain before → AreWritable before origins entries → SaysDay kept before → IsBatchText chain origins entries text
    → (outcome : Option (List ℕ)) → HasBegun kept text outcome → SaysFirstEntries before entries kept outcome
