-- A summary of a day's entries: their number, the day that is open after them, and a digest of what they show.
use Rattle.std.specs.Prelude.{◌≡◌, ℕ, ◌+◌, List, [], ◌∷◌, ◌++◌, Option, None, codes, length, replicate}
use Rattle.std.specs.Fmt.{decimal}
use Rattle.std.specs.List.{flat_map}
use Rattle.sha2.specs.Sha256.{sha256}
use Rattle.gu_terms.specs.declared.day.Day.{Day}
use Rattle.gu_terms.specs.declared.entry.Entry.{Entry}
use Rattle.gu_terms.specs.declared.entry.Entry.TheVariants.{Asked, Swept}
use Rattle.gu_terms.specs.declared.entry.SweepEntry.{SweepEntry}
use Rattle.gu_text.specs.Replies.{reply_text}
use Rattle.gu_text.specs.Texts.{line_of}
use Rattle.gu_text.specs.WrittenCommands.{sweep_rows}
use Rattle.gu_script.specs.Journals.{open_after}
use Rattle.gu_keeping.specs.declared.chain.Chain.{Chain}

-- what is shown of a sweep: `number SWEPT group lots`, followed by its lines
abbrev pub swept_text : ℕ → SweepEntry → List ℕ
swept_text number sweep =
    line_of (decimal number ∷ codes "SWEPT" ∷ sweep.group.name ∷ decimal sweep.lots ∷ []) ++ flat_map line_of (sweep_rows sweep)

-- what is shown of an entry: the reply to a command, or what a sweep took
abbrev pub shown_text : ℕ → Entry → List ℕ
shown_text number (Asked command reply) = reply_text number reply
shown_text number (Swept sweep) = swept_text number sweep

-- what is shown of entries that follow this many others, one after another
abbrev pub shown_after : ℕ → List Entry → List ℕ
shown_after count [] = []
shown_after count (entry ∷ later) = shown_text (count + 1) entry ++ shown_after (count + 1) later

-- the day that is open after entries, given the day that is open before them
abbrev pub open_from : Option Day → List Entry → Option Day
open_from today [] = today
open_from today (entry ∷ later) = open_from (open_after today entry) later

-- a day without entries has the digest of 32 zeros
abbrev pub empty_chain : Chain
empty_chain = record { count = 0; today = None; digest = replicate 32 0 }

-- a day with one more batch: its digest is SHA-256 of the previous digest followed by what is shown of all the batch's entries. A batch
-- without entries changes nothing
abbrev pub chain_after : Chain → List Entry → Chain
chain_after chain [] = chain
chain_after chain (entry ∷ later) = record {
  count = chain.count + length (entry ∷ later);
  today = open_from chain.today (entry ∷ later);
  digest = sha256 (chain.digest ++ shown_after chain.count (entry ∷ later));
}

-- a day with more batches, one after another
abbrev pub chain_after_all : Chain → List (List Entry) → Chain
chain_after_all chain [] = chain
chain_after_all chain (batch ∷ later) = chain_after_all (chain_after chain batch) later

-- these entries, cut into batches, have this chain
pub record IsCutTo (chain : Chain) (entries : List Entry) : Type 0 where
  pub batches : List (List Entry)
  pub all : flat_map (λ batch. batch) batches ≡ entries
  pub chain_is : chain ≡ chain_after_all empty_chain batches

-- the chain of these entries, cut into batches in some way
abbrev pub IsChainOf : Chain → List Entry → Type 0
IsChainOf chain entries = ∥ IsCutTo chain entries ∥₁
