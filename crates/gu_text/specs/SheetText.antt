-- A written sweep sheet: a view, takes and a cut, line by line, each part in the order of the view.
use Rattle.std.specs.Prelude.{ℕ, List, [], ◌∷◌, ◌++◌, codes, map, if◌then◌else◌}
use Rattle.std.specs.Fmt.{decimal}
use Rattle.std.specs.List.{flat_map}
use Rattle.gu_terms.specs.Cuts.{CutLists, has_number}
use Rattle.gu_terms.specs.LimitKeys.{has_key, name_of_key}
use Rattle.gu_terms.specs.Takes.{lots_of}
use Rattle.gu_terms.specs.declared.limit_key.LimitKey.{LimitKey}
use Rattle.gu_terms.specs.declared.takes.Take.{Take}
use Rattle.gu_view.specs.View.{GroupView}
use Rattle.gu_view.specs.declared.view.ViewOffer.{ViewOffer}
use Rattle.gu_view.specs.declared.view.Room.{Room}
use Rattle.gu_text.specs.Replies.{key_words}
use Rattle.gu_text.specs.Texts.{line_of}

-- `SHEET group version`
abbrev pub head_words : GroupView → List (List ℕ)
head_words view = codes "SHEET" ∷ view.group.name ∷ decimal view.version ∷ []

-- the names on a path except its agreement's: executing firm, account, carrying firm, and the guarantor if there is one
abbrev pub path_words : List LimitKey → List (List ℕ)
path_words (executing ∷ agreement ∷ others) = name_of_key executing ∷ map name_of_key others
path_words _ = []

-- `OFFER number lots agreement`, and the rest of the path
abbrev pub offer_words : ViewOffer → List (List ℕ)
offer_words offer = codes "OFFER" ∷ decimal offer.number ∷ decimal offer.lots ∷ offer.agreement.name ∷ path_words offer.path

-- `ROOM KIND name lots`
abbrev pub room_words : Room → List (List ℕ)
room_words room = codes "ROOM" ∷ key_words room.key ++ decimal room.lots ∷ []

-- `TAKE number lots`
abbrev pub take_words : ℕ → ℕ → List (List ℕ)
take_words number lots = codes "TAKE" ∷ decimal number ∷ decimal lots ∷ []

-- `CUT KIND name`
abbrev pub cut_key_words : LimitKey → List (List ℕ)
cut_key_words key = codes "CUT" ∷ key_words key

-- `CUT OFFER number`
abbrev pub cut_offer_words : ℕ → List (List ℕ)
cut_offer_words number = codes "CUT" ∷ codes "OFFER" ∷ decimal number ∷ []

-- the lines for the head, an offer and a room
abbrev pub head_line : GroupView → List ℕ
head_line view = line_of (head_words view)

abbrev pub offer_line : ViewOffer → List ℕ
offer_line offer = line_of (offer_words offer)

abbrev pub room_line : Room → List ℕ
room_line room = line_of (room_words room)

-- the lots taken from an offer, even if 0
abbrev pub take_line : List Take → ViewOffer → List ℕ
take_line takes offer = line_of (take_words offer.number (lots_of takes offer.number))

-- the key of a room if it is in the cut
abbrev pub cut_key_line : CutLists → Room → List ℕ
cut_key_line cut room = if has_key cut.keys room.key then line_of (cut_key_words room.key) else []

-- the number of an offer if it is in the cut
abbrev pub cut_offer_line : CutLists → ViewOffer → List ℕ
cut_offer_line cut offer = if has_number cut.offers offer.number then line_of (cut_offer_words offer.number) else []

-- `END`
abbrev pub end_line : List ℕ
end_line = line_of (codes "END" ∷ [])

-- the sheet of takes and a cut of a view: its head, its offers, its rooms, a take for each offer, the cut's keys in the order of the rooms,
-- the cut's offers in the order of the offers, and the end
abbrev pub sheet_text : GroupView → List Take → CutLists → List ℕ
sheet_text view takes cut =
    head_line view ++ flat_map offer_line view.offers ++ flat_map room_line view.rooms ++ flat_map (take_line takes) view.offers
    ++ flat_map (cut_key_line cut) view.rooms ++ flat_map (cut_offer_line cut) view.offers ++ end_line
