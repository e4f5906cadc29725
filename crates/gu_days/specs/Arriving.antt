-- A day's text that is played while it still arrives.
use Rattle.std.specs.Prelude.{ℕ, List}
use Rattle.gu_ref.specs.Tables.{Tables}
use Rattle.gu_text.specs.LineFeeds.{LeavesOpen}
use Rattle.gu_world.specs.Runs.{beginning}
use Rattle.gu_script.specs.Replaying.{IsTextOfLines}
use Rattle.gu_script.specs.ScriptPieces.{Place}

-- the lines of a text that are ended led from a book without entries to this place in it, and the bytes after them wait there
pub record IsPlayedSoFar (reference : Tables) (text : List ℕ) (place : Place) : Type 0 where
  pub ended : List (List ℕ)
  pub answers : List ℕ
  pub leaves : LeavesOpen text ended place.rest
  pub of_lines : IsTextOfLines (beginning reference) ended answers place.course
