-- Reading sweep sheets piece by piece.
use Rattle.std.specs.Prelude.{◌≡◌, ℕ, List, ◌++◌, length}
use Rattle.std.specs.Str.Lines.{lines}
use Rattle.gu_text.specs.LineFeeds.{LeavesOpen}
use Rattle.gu_text.specs.Reading.{IsReadTo}
use Rattle.gu_text.specs.Sheets.{IsFirstBad}
use Rattle.gu_text.specs.declared.sheet_so_far.SheetSoFar.{SheetSoFar}

-- a place in a sheet: the content of the lines so far, their number, and the bytes after the last LF
pub record SheetPlace : Type 0 where
  pub so_far : SheetSoFar
  pub count : ℕ
  pub rest : List ℕ

-- this number of lines of a text are ended and read, and these bytes of it are left
pub record IsReadUpTo (text : List ℕ) (so_far : SheetSoFar) (count : ℕ) (left : List ℕ) : Type 0 where
  pub ended : List (List ℕ)
  pub leaves : LeavesOpen text ended left
  pub read : IsReadTo ended so_far
  pub count_is : count ≡ length ended

-- a text is read so far: its ended lines are read, and the rest waits
abbrev pub IsReadSoFar : List ℕ → SheetPlace → Type 0
IsReadSoFar text place = IsReadUpTo text place.so_far place.count place.rest

-- all lines of a text are read, and this is their number
pub record IsReadWhole (text : List ℕ) (so_far : SheetSoFar) (count : ℕ) : Type 0 where
  pub read : IsReadTo (lines text) so_far
  pub count_is : count ≡ length (lines text)

-- whatever follows a text, its first bad line has this number
abbrev pub IsBadHowever : List ℕ → ℕ → Type 0
IsBadHowever text number = (more : List ℕ) → IsFirstBad (lines (text ++ more)) number
