-- Machinery: a sheet while its lines are read.
use Rattle.std.specs.Prelude.{◌≡◌, ℕ, ◌||◌, nat_lt, Bool, true, false, List, [], ◌∷◌, ◌++◌, length, take, Option, Some, None, if◌then◌else◌}
use Rattle.std.specs.Option.{option_map_or, option_or, option_to_list}
use Rattle.gu_view.specs.Making.{MakesView, view_of}
use Rattle.gu_view.specs.declared.view.ViewOffer.{ViewOffer}
use Rattle.gu_view.specs.declared.view.Room.{Room}
use Rattle.gu_text.specs.Lines.{is_silent}
use Rattle.gu_text.specs.SheetLines.{says}
use Rattle.gu_text.specs.SheetParts.{SheetParts, part_of, header_in, offer_in, room_in, take_in, key_in, number_in, parts_of}
use Rattle.gu_text.specs.Sheets.{fits_after, said_in, AreRight, AreTakes, IsSheetOf}
use Rattle.gu_text.specs.declared.sheet.Sheet.{Sheet}
use Rattle.gu_text.specs.declared.sheet_so_far.SheetSoFar.{SheetSoFar}
use Rattle.gu_text.specs.declared.sheet_so_far.SheetSoFar.TheVariants.{Open, Ended}
use Rattle.gu_text.specs.declared.error.TextError.{TextError}
use Rattle.gu_text.specs.declared.error.TextError.TheVariants.{Memory, BadLine}
use Rattle.gu_text.specs.declared.sheet_line.Part.{Part}
use Rattle.gu_text.specs.declared.sheet_line.Part.TheVariants as part
use Rattle.gu_text.specs.declared.sheet_line.SheetLine.{SheetLine}

-- the parts of no lines
abbrev pub no_parts : SheetParts
no_parts = record { last = None; header = None; offers = []; rooms = []; takes = []; cut = record { keys = []; offers = [] } }

-- the parts with one more line
abbrev pub with_line : SheetParts → SheetLine → SheetParts
with_line parts line = record {
  last = Some (part_of line);
  header = option_or (header_in line) parts.header;
  offers = parts.offers ++ option_to_list (offer_in line);
  rooms = parts.rooms ++ option_to_list (room_in line);
  takes = parts.takes ++ option_to_list (take_in line);
  cut = record { keys = parts.cut.keys ++ option_to_list (key_in line); offers = parts.cut.offers ++ option_to_list (number_in line) };
}

-- one offer more than a view may have
abbrev pub most_offers : ℕ
most_offers = 4097

-- one room more than a view may have
abbrev pub most_rooms : ℕ
most_rooms = 20481

-- the parts as stored: offers and rooms up to one more than a view may have, and everything else
abbrev pub kept : SheetParts → SheetParts
kept parts = record parts { offers = take most_offers parts.offers; rooms = take most_rooms parts.rooms }

-- the stored offers with one more, if there is room for it
abbrev pub more_offers : List ViewOffer → Option ViewOffer → List ViewOffer
more_offers offers None = offers
more_offers offers (Some offer) = if nat_lt (length offers) most_offers then offers ++ offer ∷ [] else offers

-- the stored rooms with one more, if there is room for it
abbrev pub more_rooms : List Room → Option Room → List Room
more_rooms rooms None = rooms
more_rooms rooms (Some room) = if nat_lt (length rooms) most_rooms then rooms ++ room ∷ [] else rooms

-- the stored parts with one more line
abbrev pub with_kept : SheetParts → SheetLine → SheetParts
with_kept parts line = record (with_line parts line) {
  offers = more_offers parts.offers (offer_in line);
  rooms = more_rooms parts.rooms (room_in line);
}

-- a part is the end
abbrev pub is_end : Option Part → Bool
is_end (Some part.End) = true
is_end _ = false

-- the last line was the end
abbrev pub is_ended : SheetParts → Bool
is_ended parts = is_end parts.last

-- a line is silent, or fits after these parts
abbrev pub line_fits : SheetParts → List ℕ → Bool
line_fits parts line = is_silent line || option_map_or (fits_after parts) (says line) false

-- the parts with the content of one more line
abbrev pub with_text_line : SheetParts → List ℕ → SheetParts
with_text_line parts line = option_map_or (with_line parts) (says line) parts

-- the stored parts with the content of one more line
abbrev pub with_kept_line : SheetParts → List ℕ → SheetParts
with_kept_line parts line = option_map_or (with_kept parts) (says line) parts

-- the sheet that parts make
pub record IsMadeOf (parts : SheetParts) (sheet : Sheet) : Type 0 where
  pub header : parts.header ≡ Some (record { group = sheet.view.group; version = sheet.view.version })
  pub view : sheet.view ≡ view_of sheet.view.group sheet.view.version parts.offers parts.rooms
  pub makes : MakesView parts.offers parts.rooms
  pub takes : AreTakes parts.takes sheet.takes
  pub cut : sheet.cut ≡ parts.cut

-- why offers and rooms make no view at the end, which has this number: out of memory, or they can't
abbrev pub MakesNoView : List ViewOffer → List Room → ℕ → TextError → Type 0
MakesNoView offers rooms number Memory = Unit {0}
MakesNoView offers rooms number (BadLine n) = (n ≡ number) × (¬ MakesView offers rooms)

-- why parts make no sheet at the end, which has this number
abbrev pub MakesNone : SheetParts → ℕ → TextError → Type 0
MakesNone parts number error = MakesNoView parts.offers parts.rooms number error

-- these lines are right, the end isn't among them, and these are their parts as stored
pub record AreOpen (lines : List (List ℕ)) (parts : SheetParts) : Type 0 where
  pub right : AreRight lines
  pub unended : is_ended parts ≡ false
  pub parts_are : parts ≡ kept (parts_of (said_in lines))

-- the content of the lines so far: parts before the end, the sheet after it
abbrev pub IsReadTo : List (List ℕ) → SheetSoFar → Type 0
IsReadTo lines (Open parts) = AreOpen lines parts
IsReadTo lines (Ended sheet) = IsSheetOf lines sheet
