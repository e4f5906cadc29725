-- Machinery: a batch while it is made.
use Rattle.std.specs.Prelude.{◌≡◌, ℕ, ◌+◌, ◌<◌, List, ◌++◌, Option, length}
use Rattle.std.specs.List.{flat_map}
use Rattle.gu_terms.specs.declared.entry.Entry.{Entry}
use Rattle.gu_text.specs.Texts.{line_of}
use Rattle.gu_desk.specs.declared.origin.Origin.{Origin}
use Rattle.gu_script.specs.Journals.{open_after}
use Rattle.gu_keeping.specs.Batches.{AreEntryRows, AreRows}
use Rattle.gu_keeping.specs.Chains.{open_from, shown_after, shown_text}
use Rattle.gu_keeping.specs.declared.batch.Batch.{Batch}
use Rattle.gu_keeping.specs.declared.batch.TheConstants.{MOST_LINES}
use Rattle.gu_keeping.specs.declared.chain.Chain.{Chain}
use Rattle.gu_keeping.specs.declared.chain.Link.{Link}

-- these entries follow a chain
pub record IsLinkOf (chain : Chain) (entries : List Entry) (link : Link) : Type 0 where
  pub chain_is : link.chain ≡ chain
  pub count_is : link.count ≡ chain.count + length entries
  pub today_is : link.today ≡ open_from chain.today entries
  pub shown_is : link.shown.items ≡ shown_after chain.count entries

-- an entry follows the others, and what is shown of it follows what is shown of them
pub record AddsToLink (entry : Entry) (old new : Link) : Type 0 where
  pub chain_is : new.chain ≡ old.chain
  pub count_is : new.count ≡ old.count + 1
  pub today_is : new.today ≡ open_after old.today entry
  pub shown_is : new.shown.items ≡ old.shown.items ++ shown_text (old.count + 1) entry

-- the lines of these entries, which follow those of a chain
pub record IsBatchOf (chain : Chain) (origins : List (Option Origin)) (entries : List Entry) (batch : Batch) : Type 0 where
  pub rows : List (List (List ℕ))
  pub are : AreRows chain.today origins entries rows
  pub text_is : batch.text.items ≡ flat_map line_of rows
  pub link : IsLinkOf chain entries batch.link

-- an entry is added: its lines follow those of the batch
pub record AddsEntry (origin : Option Origin) (entry : Entry) (old new : Batch) : Type 0 where
  pub rows : List (List (List ℕ))
  pub are : AreEntryRows old.link.today origin entry rows
  pub text_is : new.text.items ≡ old.text.items ++ flat_map line_of rows
  pub link : AddsToLink entry old.link new.link

-- with the lines of this entry the batch would be too long
pub record HasNoRoomFor (origin : Option Origin) (entry : Entry) (old : Batch) : Type 0 where
  pub rows : List (List (List ℕ))
  pub are : AreEntryRows old.link.today origin entry rows
  pub long : MOST_LINES < length (old.text.items ++ flat_map line_of rows)
