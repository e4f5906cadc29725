-- The answer to a check, as a line.
use Rattle.std.specs.Prelude.{ℕ, List, [], ◌∷◌, codes, Result, Ok, Err}
use Rattle.std.specs.Fmt.{decimal}
use Rattle.gu_view.specs.Faults.{number_of, name_of}
use Rattle.gu_view.specs.declared.error.CutFault.{CutFault}
use Rattle.gu_view.specs.declared.error.CutFault.TheVariants.{OverOffer, OverLimit, Uncovered, RoomDiffers, Unknown, NotOldestFirst}
use Rattle.gu_view.specs.declared.error.Unknown.{Unknown as UnknownPart}
use Rattle.gu_view.specs.declared.error.Unknown.TheVariants.{Key, Offer}
use Rattle.gu_text.specs.Replies.{key_words}
use Rattle.gu_text.specs.Texts.{line_of}

-- what the view lacks: a key, or `OFFER` and the offer's number
abbrev pub lacking_words : UnknownPart → List (List ℕ)
lacking_words (Key key) = key_words key
lacking_words (Offer offer) = codes "OFFER" ∷ decimal offer ∷ []

-- what a fault names: an offer's number, a key, what the view lacks, or nothing if the room differs
abbrev pub named_words : CutFault → List (List ℕ)
named_words (OverOffer offer) = decimal offer ∷ []
named_words (OverLimit key) = key_words key
named_words (Uncovered offer) = decimal offer ∷ []
named_words RoomDiffers = []
named_words (Unknown lacking) = lacking_words lacking
named_words (NotOldestFirst offer) = decimal offer ∷ []

-- the answer to a check: `OK` and the lots, or `FAULT`, the fault's number, its name and what it names
abbrev pub verdict_words : Result ℕ CutFault → List (List ℕ)
verdict_words (Ok lots) = codes "OK" ∷ decimal lots ∷ []
verdict_words (Err fault) = codes "FAULT" ∷ decimal (number_of fault) ∷ name_of fault ∷ named_words fault

-- the line of these words
abbrev pub verdict_text : Result ℕ CutFault → List ℕ
verdict_text verdict = line_of (verdict_words verdict)
