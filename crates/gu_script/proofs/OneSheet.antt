-- Two sweeps of one view print the same sheet.
use Rattle.gu_script.proofs.Words.{◌≡◌, List, [], ◌∷◌, ◌++◌, Bool, refl, sym, ap, if◌then◌else◌, AllByRecursion, flat_map, SweepEntry, GroupView, IsView, ViewOffer}
use Rattle.gu_terms.specs.Cuts.{CutLists, has_number}
use Rattle.gu_terms.specs.LimitKeys.{has_key}
use Rattle.gu_terms.specs.Takes.{lots_of}
use Rattle.gu_terms.specs.declared.takes.Take.{Take}
use Rattle.gu_view.proofs.NearestCuts.{nearest_cut_is_one}
use Rattle.gu_view.specs.Nearest.{AreSame}
use Rattle.gu_view.specs.declared.view.Room.{Room}
use Rattle.gu_rules.specs.Sweeps.{IsSweepOf}
use Rattle.gu_text.specs.SheetText.{cut_key_line, cut_key_words, cut_offer_line, cut_offer_words, end_line, head_line, offer_line, room_line, sheet_text, take_line, take_words}
use Rattle.gu_text.specs.Texts.{line_of}
use Rattle.gu_script.proofs.OneChoice.{along}

-- ---- its parts

takes_alike : (takes others : List Take) (offers : List ViewOffer) → AllByRecursion (λ (o : ViewOffer). lots_of others o.number ≡ lots_of takes o.number) offers
    → flat_map (take_line others) offers ≡ flat_map (take_line takes) offers
takes_alike takes others [] same = refl
takes_alike takes others (o ∷ offers) same =
    let rest = takes_alike takes others offers same.1 in λ i. line_of (take_words o.number (same.0 i)) ++ rest i

keys_alike : (cut others : CutLists) → AreSame cut others → (rooms : List Room) → flat_map (cut_key_line others) rooms ≡ flat_map (cut_key_line cut) rooms
keys_alike cut others same [] = refl
keys_alike cut others same (r ∷ rooms) =
    let here = ap (λ (b : Bool). if b then line_of (cut_key_words r.key) else []) (sym (same.keys r.key)) in
    let rest = keys_alike cut others same rooms in
    λ i. here i ++ rest i

offers_alike : (cut others : CutLists) → AreSame cut others → (offers : List ViewOffer) → flat_map (cut_offer_line others) offers ≡ flat_map (cut_offer_line cut) offers
offers_alike cut others same [] = refl
offers_alike cut others same (o ∷ offers) =
    let here = ap (λ (b : Bool). if b then line_of (cut_offer_words o.number) else []) (sym (same.offers o.number)) in
    let rest = offers_alike cut others same offers in
    λ i. here i ++ rest i

-- ---- the sheet

pub one_sheet : (view : GroupView) (sweep other : SweepEntry) → IsView view → IsSweepOf view sweep → IsSweepOf view other
    → sheet_text view other.takes other.cut ≡ sheet_text view sweep.takes sweep.cut
one_sheet view sweep other sound mine theirs =
    let cut : AreSame sweep.cut other.cut = nearest_cut_is_one view sweep.cut other.cut sound mine.nearest theirs.nearest in
    let takes = takes_alike sweep.takes other.takes view.offers (along view sweep other mine theirs) in
    let keys = keys_alike sweep.cut other.cut cut view.rooms in
    let offers = offers_alike sweep.cut other.cut cut view.offers in
    λ i. head_line view ++ flat_map offer_line view.offers ++ flat_map room_line view.rooms ++ takes i ++ keys i ++ offers i ++ end_line
