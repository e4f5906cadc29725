-- A text that is played piece by piece.
use Rattle.gu_days.proofs.Words.{◌≡◌, ℕ, List, [], ◌++◌, sym, subst, lines, Tables, Course, beginning, IsTextOfLines}
use Rattle.gu_text.proofs.LineFeedLaws.{leaves_all, leaves_on, leaves_with, lines-left}
use Rattle.gu_script.specs.ScriptPieces.{Place, TakesPiece}
use Rattle.gu_script.specs.ScriptSteps.{AnswersLines}
use Rattle.gu_script.proofs.ReplayTexts.{lines_none, lines_then}
use Rattle.gu_days.specs.Arriving.{IsPlayedSoFar}

-- nothing has arrived
pub none_played : (reference : Tables) → IsPlayedSoFar reference [] (record { course = beginning reference; count = 0; rest = [] })
none_played reference = record { ended = []; answers = []; leaves = leaves_all []; of_lines = lines_none (beginning reference) }

-- one more piece has arrived
pub piece_played : (reference : Tables) (text piece answers : List ℕ) (old new : Place) → IsPlayedSoFar reference text old → TakesPiece old piece answers new
    → IsPlayedSoFar reference (text ++ piece) new
piece_played reference text piece answers old new so_far takes =
    let more = takes.answers in
    record {
      ended = so_far.ended ++ more.ended;
      answers = so_far.answers ++ answers;
      leaves = leaves_on (text ++ piece) (old.rest ++ piece) new.rest so_far.ended more.ended (leaves_with text piece old.rest so_far.ended so_far.leaves) more.leaves;
      of_lines = lines_then (beginning reference) old.course new.course so_far.ended more.ended so_far.answers answers so_far.of_lines more.of_lines;
    }

-- nothing more arrives: what waits is the last line
pub all_played : (reference : Tables) (text before after : List ℕ) (old : Place) (new : Course) → IsPlayedSoFar reference text old
    → AnswersLines old.course (lines old.rest) before new after → (answers : List ℕ) × IsTextOfLines (beginning reference) (lines text) answers new
all_played reference text before after old new so_far last = (
  so_far.answers ++ last.text,
  subst (λ (texts : List (List ℕ)). IsTextOfLines (beginning reference) texts (so_far.answers ++ last.text) new)
      (sym (lines-left text old.rest so_far.ended so_far.leaves))
      (lines_then (beginning reference) old.course new so_far.ended (lines old.rest) so_far.answers last.text so_far.of_lines last.of_lines),
)
