-- Machinery: what a view stores beside what it shows, and what is known while it is made.
use Rattle.std.specs.Prelude.{◌≡◌, ◌≢◌, ℕ, ◌+◌, ◌*◌, ◌<◌, ◌≤◌, List, [], ◌∷◌, ◌==◌, Option, None, All, AllPairs, IsTrue, length, map, slice_index, slice_index_or, slice_range}
use Rattle.std.specs.List.{list_any}
use Rattle.gu_terms.specs.LimitKeys.{has_key}
use Rattle.gu_terms.specs.declared.limit_key.LimitKey.{LimitKey}
use Rattle.gu_view.specs.Making.{bad_offer, lots_given, path_differs}
use Rattle.gu_view.specs.Places.{places_where}
use Rattle.gu_view.specs.View.{GroupView, IsPath, IsView, keys_of, place_among, place_of, places_under}
use Rattle.gu_view.specs.declared.view.ViewOffer.{ViewOffer}
use Rattle.gu_view.specs.declared.view.Room.{Room}

-- the parts of one list that end at these positions, the first starting at `from`
abbrev pub lists_from : List ℕ → ℕ → List ℕ → List (List ℕ)
lists_from joined from [] = []
lists_from joined from (end ∷ ends) = slice_range joined from end ∷ lists_from joined end ends

-- ends ascend from here, and the last is the end of the whole list
abbrev pub AreEnds : ℕ → ℕ → List ℕ → Type 0
AreEnds whole from [] = from ≡ whole
AreEnds whole from (end ∷ ends) = (from ≤ end) × AreEnds whole end ends

-- the lists at these indexes
abbrev pub lists_at : List (List ℕ) → List ℕ → List (List ℕ)
lists_at lists places = map (λ place. slice_index_or lists place []) places

-- the offers' paths are whole; these are their keys in order of first mention, at most five an offer, and the indexes of each path's keys
pub record AreMentioned (offers : List ViewOffer) (keys : List LimitKey) (places : List (List ℕ)) : Type 0 where
  pub whole : All IsPath offers
  pub keys_are : keys ≡ keys_of offers
  pub few : length keys ≤ 5 * length offers
  pub places_are : places ≡ map (λ o. map (place_among keys) o.path) offers

-- no offer is bad, no path differs, and each is whole; these are the offers' keys, at most 20,480, and the indexes of each path's keys
pub record IsKeyed (offers : List ViewOffer) (keys : List LimitKey) (places : List (List ℕ)) : Type 0 where
  pub numbers : bad_offer offers ≡ None
  pub paths : path_differs offers ≡ None
  pub whole : All IsPath offers
  pub keys_are : keys ≡ keys_of offers
  pub few : length keys ≤ 20480
  pub places_are : places ≡ map (λ o. map (place_among keys) o.path) offers

-- a view of whole paths, its keys, the indexes of each offer's keys, and the indexes of each room's offers
pub record IsIndexed (view : GroupView) (keys : List LimitKey) (places members : List (List ℕ)) : Type 0 where
  pub sound : IsView view
  pub whole : All IsPath view.offers
  pub keys_are : keys ≡ map (λ r. r.key) view.rooms
  pub places_are : places ≡ map (λ o. map (place_of view.rooms) o.path) view.offers
  pub members_are : members ≡ map (λ r. places_under view.offers r.key) view.rooms

-- each of these rooms is needed, within its limit and given once, and these are the lots that they give
pub record IsGiven (keys : List LimitKey) (rooms : List Room) (lots : LimitKey → Option ℕ) : Type 0 where
  pub needed : All (λ r. IsTrue (has_key keys r.key)) rooms
  pub once : AllPairs (λ a b. a.key ≢ b.key) rooms
  pub limits : All (λ r. r.lots ≤ 1000000000) rooms
  pub lots_are : (k : LimitKey) → lots k ≡ lots_given rooms k

-- the indexes of the lists that contain a number
abbrev pub places_with : ℕ → List (List ℕ) → List ℕ
places_with n lists = places_where (λ l. list_any (λ m. m == n) l) lists

-- the starts of the lists of each number, one after another
abbrev pub AreStarts : List (List ℕ) → List ℕ → Type 0
AreStarts lists starts =
    (p : ℕ) → p + 1 < length starts → slice_index starts (p + 1) ≡ slice_index starts p + length (places_with p lists)
