-- The view of a group: its open offers, and the rooms of the keys on their paths.
use Rattle.std.specs.Prelude.{◌≡◌, ℕ, suc, ◌<◌, ◌≤◌, ◌==◌, not, List, [], ◌∷◌, Option, Some, All, AllPairs, IsTrue, filter, find, length, map, slice_get}
use Rattle.std.specs.List.{flat_map, position_or_len}
use Rattle.gu_terms.specs.declared.account.AccountId.{AccountId}
use Rattle.gu_terms.specs.declared.firm.FirmId.{FirmId}
use Rattle.gu_terms.specs.declared.group.Group.{Group}
use Rattle.gu_terms.specs.declared.limit_key.LimitKey.{LimitKey}
use Rattle.gu_terms.specs.declared.limit_key.LimitKey.TheVariants.{Agr, Acct, Carry}
use Rattle.gu_terms.specs.LimitKeys.{key_eq, has_key}
use Rattle.gu_terms.specs.Numbers.{IsLots}
use Rattle.gu_terms.specs.Paths.{path_through}
use Rattle.gu_view.specs.declared.view.ViewOffer.{ViewOffer}
use Rattle.gu_view.specs.declared.view.Room.{Room}
use Rattle.gu_view.specs.Places.{places_where}

-- a view: a group and its version, its open offers, and the room of each key on their paths
pub record GroupView : Type 0 where
  pub group : Group
  pub version : ℕ
  pub offers : List ViewOffer
  pub rooms : List Room

-- the keys without repetitions, in order of first occurrence
abbrev pub firsts : List LimitKey → List LimitKey
firsts [] = []
firsts (k ∷ keys) = k ∷ filter (λ j. not (key_eq k j)) (firsts keys)

-- the keys on the offers' paths, in order of first mention
abbrev pub keys_of : List ViewOffer → List LimitKey
keys_of offers = firsts (flat_map (λ o. o.path) offers)

-- the rules of every view
pub record IsView (view : GroupView) : Type 0 where
  pub few : length view.offers ≤ 4096
  pub ascending : AllPairs (λ a b. a.number < b.number) view.offers
  pub lots : All (λ o. IsLots o.lots) view.offers
  pub own : All (λ o. slice_get o.path 1 ≡ Some (Agr o.agreement)) view.offers
  pub one_path : AllPairs (λ a b. a.agreement ≡ b.agreement → a.path ≡ b.path) view.offers
  pub rooms : map (λ r. r.key) view.rooms ≡ keys_of view.offers
  pub few_rooms : length view.rooms ≤ 20480
  pub limits : All (λ r. r.lots ≤ 1000000000) view.rooms

-- the offer with this number
abbrev pub offer_of : List ViewOffer → ℕ → Option ViewOffer
offer_of offers number = find (λ o. o.number == number) offers

-- the index of a key among these keys
abbrev pub place_among : List LimitKey → LimitKey → ℕ
place_among keys k = position_or_len (λ j. key_eq j k) keys

-- the index of a key among these rooms
abbrev pub place_of : List Room → LimitKey → ℕ
place_of rooms k = position_or_len (λ r. key_eq r.key k) rooms

-- the indexes of the offers with a key on their path
abbrev pub places_under : List ViewOffer → LimitKey → List ℕ
places_under offers k = places_where (λ o. has_key o.path k) offers

-- a path: executing firm, the offer's own agreement, account, carrying firm, and that firm's guarantor if it has one
abbrev pub IsPath : ViewOffer → Type 0
IsPath o =
    (executing : FirmId) × (account : AccountId) × (carrying : FirmId) × (guarantor : Option FirmId)
    × (o.path ≡ path_through executing o.agreement account carrying guarantor)

-- the key that follows this one on a path
abbrev pub next_key : List LimitKey → LimitKey → Option LimitKey
next_key path k = slice_get path (suc (position_or_len (λ j. key_eq j k) path))

-- if two paths both have this key, they continue with the same key, or both end with it
abbrev pub GoOnAlike : LimitKey → List LimitKey → List LimitKey → Type 0
GoOnAlike k a b = IsTrue (has_key a k) → IsTrue (has_key b k) → next_key a k ≡ next_key b k

-- each path is whole, offers with one account have the same carrying firm's key, and those with one carrying firm the same guarantor's key,
-- or none
pub record IsNested (view : GroupView) : Type 0 where
  pub paths : All IsPath view.offers
  pub carriers : All (λ a. All (λ b. (account : AccountId) → GoOnAlike (Acct account) a.path b.path) view.offers) view.offers
  pub guarantors : All (λ a. All (λ b. (carrying : FirmId) → GoOnAlike (Carry carrying) a.path b.path) view.offers) view.offers
