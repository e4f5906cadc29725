-- Sweep sheets: which lines make one, and what it shows.
use Rattle.std.specs.Prelude.{◌≡◌, ℕ, ◌+◌, ◌⊎◌, Bool, false, not, ◌&&◌, ◌==◌, nat_le, nat_lt, List, length, map, take, slice_get, Option, Some, None, IsTrue, IsPermutation}
use Rattle.std.specs.List.{filter_map}
use Rattle.std.specs.Str.Lines.{lines}
use Rattle.gu_terms.specs.Cuts.{has_number}
use Rattle.gu_terms.specs.LimitKeys.{has_key}
use Rattle.gu_terms.specs.Takes.{IsAscending}
use Rattle.gu_terms.specs.declared.takes.Take.{Take}
use Rattle.gu_view.specs.Making.{MakesView, view_of}
use Rattle.gu_text.specs.Lines.{is_silent}
use Rattle.gu_text.specs.SheetLines.{says}
use Rattle.gu_text.specs.SheetParts.{SheetParts, part_of, rank_of, parts_of}
use Rattle.gu_text.specs.declared.error.TextError.{TextError}
use Rattle.gu_text.specs.declared.error.TextError.TheVariants.{Memory, BadLine}
use Rattle.gu_text.specs.declared.sheet.Sheet.{Sheet}
use Rattle.gu_text.specs.declared.sheet_line.Part.{Part}
use Rattle.gu_text.specs.declared.sheet_line.Part.TheVariants as part
use Rattle.gu_text.specs.declared.sheet_line.SheetLine.{SheetLine}
use Rattle.gu_text.specs.declared.sheet_line.SheetLine.TheVariants as line

-- the head is first and occurs once, nothing follows the end, and no line follows one of a later part
abbrev pub comes_after : Option Part → Part → Bool
comes_after None next = rank_of next == 0
comes_after (Some last) next = nat_lt 0 (rank_of next) && nat_lt (rank_of last) 5 && nat_le (rank_of last) (rank_of next)

-- there was already a take from this offer, or this member of the cut
abbrev pub is_repeated : SheetParts → SheetLine → Bool
is_repeated parts (line.Take t) = has_number (map (λ (s : Take). s.offer) parts.takes) t.offer
is_repeated parts (line.CutKey key) = has_key parts.cut.keys key
is_repeated parts (line.CutOffer number) = has_number parts.cut.offers number
is_repeated parts _ = false

-- a line may follow those with these parts, apart from the test that the end makes
abbrev pub fits_after : SheetParts → SheetLine → Bool
fits_after parts line = comes_after parts.last (part_of line) && not (is_repeated parts line)

-- a line may follow these: it fits, and if it is the end, the offers and rooms make a view
pub record MayFollow (said : List SheetLine) (next : SheetLine) : Type 0 where
  pub fits : IsTrue (fits_after (parts_of said) next)
  pub view : next ≡ line.End → MakesView (parts_of said).offers (parts_of said).rooms

-- the content of these lines
abbrev pub said_in : List (List ℕ) → List SheetLine
said_in lines = filter_map says lines

-- a line is silent, or its content may follow
abbrev pub IsRightAfter : List SheetLine → List ℕ → Type 0
IsRightAfter said line = IsTrue (is_silent line) ⊎ ((next : SheetLine) × (says line ≡ Some next) × MayFollow said next)

-- each line is right after those before it
abbrev pub AreRight : List (List ℕ) → Type 0
AreRight lines = (place : ℕ) (line : List ℕ) → slice_get lines place ≡ Some line → IsRightAfter (said_in (take place lines)) line

-- the first line that isn't right has this number, counted from 1
pub record IsFirstBad (lines : List (List ℕ)) (number : ℕ) : Type 0 where
  pub place : ℕ
  pub line : List ℕ
  pub at : slice_get lines place ≡ Some line
  pub before : AreRight (take place lines)
  pub bad : ¬ IsRightAfter (said_in (take place lines)) line
  pub number_is : number ≡ place + 1

-- each line is right but the end is missing; this is the number after the last line
pub record IsUnended (lines : List (List ℕ)) (number : ℕ) : Type 0 where
  pub right : AreRight lines
  pub unended : ¬ ((parts_of (said_in lines)).last ≡ Some part.End)
  pub number_is : number ≡ length lines + 1

-- why a text isn't a sheet: out of memory, its first bad line, or a missing end
abbrev pub Refuses : List ℕ → TextError → Type 0
Refuses text Memory = Unit {0}
Refuses text (BadLine number) = IsFirstBad (lines text) number ⊎ IsUnended (lines text) number

-- the same takes, in ascending order of offers
pub record AreTakes (listed takes : List Take) : Type 0 where
  pub same : IsPermutation listed takes
  pub ascending : IsAscending takes

-- the sheet that lines make: they are right, the last is the end, and they give the view, the takes and the cut
pub record IsSheetOf (lines : List (List ℕ)) (sheet : Sheet) : Type 0 where
  pub right : AreRight lines
  pub ended : (parts_of (said_in lines)).last ≡ Some part.End
  pub header : (parts_of (said_in lines)).header ≡ Some (record { group = sheet.view.group; version = sheet.view.version })
  pub view : sheet.view
      ≡ view_of sheet.view.group sheet.view.version (parts_of (said_in lines)).offers (parts_of (said_in lines)).rooms
  pub takes : AreTakes (parts_of (said_in lines)).takes sheet.takes
  pub cut : sheet.cut ≡ (parts_of (said_in lines)).cut

-- the sheet in a text
abbrev pub IsSheet : List ℕ → Sheet → Type 0
IsSheet text sheet = IsSheetOf (lines text) sheet
