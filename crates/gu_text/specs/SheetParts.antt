-- The content of the lines of a sweep sheet, part by part.
use Rattle.std.specs.Prelude.{ℕ, List, map, Option, Some, None}
use Rattle.std.specs.List.{filter_map, last_or}
use Rattle.gu_terms.specs.Cuts.{CutLists}
use Rattle.gu_terms.specs.declared.limit_key.LimitKey.{LimitKey}
use Rattle.gu_terms.specs.declared.takes.Take.{Take}
use Rattle.gu_view.specs.declared.view.ViewOffer.{ViewOffer}
use Rattle.gu_view.specs.declared.view.Room.{Room}
use Rattle.gu_text.specs.declared.sheet_line.Header.{Header}
use Rattle.gu_text.specs.declared.sheet_line.Part.{Part}
use Rattle.gu_text.specs.declared.sheet_line.Part.TheVariants as part
use Rattle.gu_text.specs.declared.sheet_line.SheetLine.{SheetLine}
use Rattle.gu_text.specs.declared.sheet_line.SheetLine.TheVariants as line

-- the part of a sheet that a line belongs to
abbrev pub part_of : SheetLine → Part
part_of (line.Sheet header) = part.Head
part_of (line.Offer offer) = part.Offers
part_of (line.Room room) = part.Rooms
part_of (line.Take t) = part.Takes
part_of (line.CutKey key) = part.Cut
part_of (line.CutOffer number) = part.Cut
part_of line.End = part.End

-- the parts in order
abbrev pub rank_of : Part → ℕ
rank_of part.Head = 0
rank_of part.Offers = 1
rank_of part.Rooms = 2
rank_of part.Takes = 3
rank_of part.Cut = 4
rank_of part.End = 5

-- the content of the lines of a sheet, part by part
pub record SheetParts : Type 0 where
  pub last : Option Part
  pub header : Option Header
  pub offers : List ViewOffer
  pub rooms : List Room
  pub takes : List Take
  pub cut : CutLists

-- the header in a line
abbrev pub header_in : SheetLine → Option Header
header_in (line.Sheet header) = Some header
header_in _ = None

-- the offer in a line
abbrev pub offer_in : SheetLine → Option ViewOffer
offer_in (line.Offer offer) = Some offer
offer_in _ = None

-- the room in a line
abbrev pub room_in : SheetLine → Option Room
room_in (line.Room room) = Some room
room_in _ = None

-- the take in a line
abbrev pub take_in : SheetLine → Option Take
take_in (line.Take t) = Some t
take_in _ = None

-- the key that a line adds to the cut
abbrev pub key_in : SheetLine → Option LimitKey
key_in (line.CutKey key) = Some key
key_in _ = None

-- the offer that a line adds to the cut
abbrev pub number_in : SheetLine → Option ℕ
number_in (line.CutOffer number) = Some number
number_in _ = None

-- the content of lines: the last line's part, the last header, and offers, rooms, takes and the cut's members in the order of their lines
abbrev pub parts_of : List SheetLine → SheetParts
parts_of said = record {
  last = last_or None (map part_of said);
  header = last_or None (filter_map header_in said);
  offers = filter_map offer_in said;
  rooms = filter_map room_in said;
  takes = filter_map take_in said;
  cut = record { keys = filter_map key_in said; offers = filter_map number_in said };
}
