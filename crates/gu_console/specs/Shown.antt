-- The journal of a history, stretch by stretch.
use Rattle.std.specs.Prelude.{◌≡◌, ℕ, ◌+◌, ◌<◌, ◌≤◌, ◌⊎◌, ◌++◌, List, [], ◌∷◌, Option, None, length, take}
use Rattle.std.specs.List.{flat_map}
use Rattle.gu_terms.specs.declared.day.Day.{Day}
use Rattle.gu_terms.specs.declared.entry.Entry.{Entry}
use Rattle.gu_text.specs.Texts.{line_of}
use Rattle.gu_script.specs.Journals.{journal_text, open_after, rows_after}

-- the day that is open after entries, where this one is open before them
abbrev pub day_after : Option Day → List Entry → Option Day
day_after today [] = today
day_after today (entry ∷ later) = day_after (open_after today entry) later

-- so many entries of a history were shown, and this day is open after them
abbrev pub HasShown : List Entry → ℕ → Option Day → Type 0
HasShown history shown today = (shown ≤ length history) × (today ≡ day_after None (take shown history))

-- the lines of entries, where this day is open before them
abbrev pub lines_after : Option Day → List Entry → List ℕ
lines_after today entries = flat_map line_of (rows_after today entries)

-- the journal of the first entries of a history
abbrev pub journal_to : List Entry → ℕ → List ℕ
journal_to history count = journal_text (take count history)

-- a stretch of a journal goes on where the last one ended: with the text of all stretches so far it makes the journal of the entries that are
-- shown then. It is empty only where all entries are shown; it has at most 256 entries, and past the first at most 65,536 bytes; and it
-- ends only where there is no more, or where one entry more would be too many or too long
pub record IsStretch (history : List Entry) (old new : ℕ) (text : List ℕ) : Type 0 where
  pub text_is : journal_to history new ≡ journal_to history old ++ text
  pub within : new ≤ length history
  pub few : (old ≤ new) × (new ≤ old + 256)
  pub some : old < length history → old < new
  pub short : (length text ≤ 65536) ⊎ (new ≡ old + 1)
  pub whole : (new ≡ length history) ⊎ (new ≡ old + 256) ⊎ (65536 + length (journal_to history old) < length (journal_to history (new + 1)))
