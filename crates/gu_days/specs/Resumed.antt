-- What is played after a crash.
use Rattle.std.specs.Prelude.{ℕ, ◌≤◌, ◌++◌, List, None, length, take}
use Rattle.gu_terms.specs.declared.entry.Entry.{Entry}
use Rattle.gu_ref.specs.Tables.{Tables}
use Rattle.gu_days.specs.PlayedBack.{ArePlayedBack}
use Rattle.gu_days.specs.SameBooks.{AreOneBook}

-- a history is played back as another, and both come to one book
pub record IsDayAgain (reference : Tables) (history other : List Entry) : Type 0 where
  pub back : ArePlayedBack None history other
  pub book : AreOneBook reference history other

-- all entries that were kept are there again, and after them the first ones of the batch that was under way
pub record BeginsDay (reference : Tables) (kept batch other : List Entry) : Type 0 where
  pub count : ℕ
  pub within : count ≤ length batch
  pub again : IsDayAgain reference (kept ++ take count batch) other
