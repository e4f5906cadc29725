-- Which offers and rooms make a view.
use Rattle.std.specs.Prelude.{◌≡◌, ◌≢◌, ℕ, ◌≤◌, ◌||◌, ◌&&◌, not, nat_lt, nat_le, ◌==◌, Bool, false, List, ◌∷◌, Option, Some, None, All, AllPairs, IsTrue, find, map, take, slice_get}
use Rattle.std.specs.List.{list_any, zip}
use Rattle.std.specs.Cmp.Lexicographic.{pointwise}
use Rattle.std.specs.Option.{option_map, option_map_or, option_or, unwrap_or}
use Rattle.gu_terms.specs.declared.group.Group.{Group}
use Rattle.gu_terms.specs.declared.limit_key.LimitKey.{LimitKey}
use Rattle.gu_terms.specs.declared.limit_key.LimitKey.TheVariants.{Agr}
use Rattle.gu_terms.specs.LimitKeys.{key_eq, has_key}
use Rattle.gu_view.specs.declared.view.ViewOffer.{ViewOffer}
use Rattle.gu_view.specs.declared.view.Room.{Room}
use Rattle.gu_view.specs.declared.error.ViewError.{ViewError}
use Rattle.gu_view.specs.declared.error.ViewError.TheVariants.{BadOffer, PathDiffers, BadRooms, Memory}
use Rattle.gu_view.specs.View.{GroupView, keys_of}

-- an offer is bad: its number isn't above the previous one, or its lots are 0 or above 1,000,000
abbrev pub is_bad : ℕ → ViewOffer → Bool
is_bad before o = nat_le o.number before || (o.lots == 0 || nat_lt 1000000 o.lots)

-- offers, each with the previous offer's number; 0 for the first
abbrev pub numbered : List ViewOffer → List (ℕ × ViewOffer)
numbered offers = zip (0 ∷ map (λ o. o.number) offers) offers

-- the number of the first bad offer among the first 4,096, or else of the next offer
abbrev pub bad_offer : List ViewOffer → Option ℕ
bad_offer offers =
    option_or
    (option_map (λ (p : ℕ × ViewOffer). p.1.number) (find (λ (p : ℕ × ViewOffer). is_bad p.0 p.1) (numbered (take 4096 offers))))
    (option_map (λ (o : ViewOffer). o.number) (slice_get offers 4096))

-- two offers are under the same agreement
abbrev pub same_agreement : ViewOffer → ViewOffer → Bool
same_agreement a b = key_eq (Agr a.agreement) (Agr b.agreement)

-- the second key of an offer's path is its own agreement
abbrev pub is_own : ViewOffer → Bool
is_own o = option_map_or (key_eq (Agr o.agreement)) (slice_get o.path 1) false

-- an older offer under the same agreement has another path
abbrev pub has_other_path : List ViewOffer → ViewOffer → Bool
has_other_path offers o =
    list_any (λ older. nat_lt older.number o.number && (same_agreement older o && not (pointwise key_eq older.path o.path))) offers

-- the number of the first offer whose path isn't that of its agreement
abbrev pub path_differs : List ViewOffer → Option ℕ
path_differs offers = option_map (λ (o : ViewOffer). o.number) (find (λ o. not (is_own o) || has_other_path offers o) offers)

-- these rooms are for exactly these keys, each once, and none is above 1,000,000,000 lots
pub record AreRooms (keys : List LimitKey) (rooms : List Room) : Type 0 where
  pub needed : All (λ r. IsTrue (has_key keys r.key)) rooms
  pub whole : All (λ k. IsTrue (list_any (λ r. key_eq r.key k) rooms)) keys
  pub once : AllPairs (λ a b. a.key ≢ b.key) rooms
  pub limits : All (λ r. r.lots ≤ 1000000000) rooms

-- the lots that rooms give for a key
abbrev pub lots_given : List Room → LimitKey → Option ℕ
lots_given rooms k = option_map (λ (r : Room). r.lots) (find (λ r. key_eq r.key k) rooms)

-- the rooms in the order of the keys
abbrev pub in_order : List LimitKey → List Room → List Room
in_order keys rooms = map (λ k. record { key = k; lots = unwrap_or (lots_given rooms k) 0 }) keys

-- the view made by these offers and rooms
abbrev pub view_of : Group → ℕ → List ViewOffer → List Room → GroupView
view_of group version offers rooms = record { group = group; version = version; offers = offers; rooms = in_order (keys_of offers) rooms }

-- these offers and rooms make a view
pub record MakesView (offers : List ViewOffer) (rooms : List Room) : Type 0 where
  pub numbers : bad_offer offers ≡ None
  pub paths : path_differs offers ≡ None
  pub exact : AreRooms (keys_of offers) rooms

-- what a refusal means for these offers and rooms; Memory means nothing about them
abbrev pub Refuses : List ViewOffer → List Room → ViewError → Type 0
Refuses offers rooms (BadOffer number) = bad_offer offers ≡ Some number
Refuses offers rooms (PathDiffers number) = (bad_offer offers ≡ None) × (path_differs offers ≡ Some number)
Refuses offers rooms BadRooms = (bad_offer offers ≡ None) × (path_differs offers ≡ None) × (¬ AreRooms (keys_of offers) rooms)
Refuses offers rooms Memory = Unit {0}
