-- Nested offers, through tests of their rooms.
use Rattle.gu_view.proofs.Words.{◌≡◌, ℕ, ◌<◌, Bool, true, false, List, [], ◌∷◌, Option, None, Some, length, get_or, slice_get, refl, sym, ap, ◌∙◌, zero-add, inl, inr, All, AllByRecursion, list_all, list_any, option_and_then, option_map_or, false≢true, or_cases, All-from_recursion, recursion_from_All, AllPass-from_list_all, list_all-from_AllPass, slice_get-get_or, key_eq, has_key, AccountId, AgreementId, FirmId, LimitKey, Exec, Agr, Acct, Carry, Guar, path_through, key_eq-same, key_eq-refl, behind, have_one_key, key_on, room_agrees, same_key, GoOnAlike, GroupView, IsNested, IsPath, IsView, next_key, place_of, places_under, ViewOffer, Room, along, position_or_len-within}
use Rattle.gu_view.proofs.PassingPlaces.{at_places, each_place}
use Rattle.gu_view.proofs.RoomLemmas.{on_path_at, roomed}
use Rattle.gu_view.proofs.TakesLemmas.{key_at_place}

-- the account of a path that has an account key
account_is : (e : FirmId) (own : AgreementId) (a : AccountId) (c : FirmId) (g : Option FirmId) (x : AccountId) → has_key (path_through e own a c g) (Acct x) ≡ true → key_eq (Acct a) (Acct x) ≡ true
account_is e own a c None x h = elim (or_cases (key_eq (Acct a) (Acct x)) false h) [ inl hit ↦ hit | inr never ↦ absurd (false≢true never) ]
account_is e own a c (Some g) x h = elim (or_cases (key_eq (Acct a) (Acct x)) false h) [ inl hit ↦ hit | inr never ↦ absurd (false≢true never) ]

-- the carrying firm of a path that has a carrying firm's key
carrying_is : (e : FirmId) (own : AgreementId) (a : AccountId) (c : FirmId) (g : Option FirmId) (x : FirmId) → has_key (path_through e own a c g) (Carry x) ≡ true → key_eq (Carry c) (Carry x) ≡ true
carrying_is e own a c None x h = elim (or_cases (key_eq (Carry c) (Carry x)) false h) [ inl hit ↦ hit | inr never ↦ absurd (false≢true never) ]
carrying_is e own a c (Some g) x h = elim (or_cases (key_eq (Carry c) (Carry x)) false h) [ inl hit ↦ hit | inr never ↦ absurd (false≢true never) ]

-- the key that follows one that paths share
after : (e : FirmId) (own : AgreementId) (a : AccountId) (c : FirmId) (g : Option FirmId) (k : LimitKey) (depth : ℕ) → behind k ≡ Some depth
    → has_key (path_through e own a c g) k ≡ true → next_key (path_through e own a c g) k ≡ slice_get (path_through e own a c g) depth
after e own a c g (Acct x) depth at h = let here : 3 ≡ depth = cc in rw (← here) (rw (account_is e own a c g x h) refl)
after e own a c None (Carry x) depth at h = let here : 4 ≡ depth = cc in rw (← here) (rw (carrying_is e own a c None x h) refl)
after e own a c (Some g) (Carry x) depth at h = let here : 4 ≡ depth = cc in rw (← here) (rw (carrying_is e own a c (Some g) x h) refl)
after e own a c g (Exec x) depth at h = cc
after e own a c g (Agr x) depth at h = cc
after e own a c g (Guar x) depth at h = cc

-- on the path of an offer
pub after_on : (o : ViewOffer) (k : LimitKey) (depth : ℕ) → behind k ≡ Some depth → IsPath o → has_key o.path k ≡ true → next_key o.path k ≡ slice_get o.path depth
after_on o k depth at (e, a, c, g, is) on = rw is (after e o.agreement a c g k depth at (rw is at on))

-- keys that pass are equal
same_key-same : (j k : Option LimitKey) → same_key j k ≡ true → j ≡ k
same_key-same (Some j) (Some k) h = ap (λ k. Some k) (key_eq-same j k h)
same_key-same None None h = refl
same_key-same _ _ h = absurd (false≢true h)

-- a key passes with itself
same_key-refl : (k : Option LimitKey) → same_key k k ≡ true
same_key-refl (Some k) = key_eq-refl k
same_key-refl None = refl

module _ (offers : List ViewOffer) (depth : ℕ) where
  -- the key at this depth on the path of the offer at an index
  key_on-inside : (i : ℕ) (d : ViewOffer) → i < length offers → key_on offers depth i ≡ slice_get (get_or offers i d).path depth
  key_on-inside i d inside = ap (option_and_then (λ (o : ViewOffer). slice_get o.path depth)) (slice_get-get_or offers i d inside)

  -- the key of the first of these indexes
  abbrev first_key : List ℕ → Option LimitKey
  first_key [] = None
  first_key (place ∷ places) = key_on offers depth place

  -- if the offers at these indexes have the same key there, it is that of the first
  like_first : (places : List ℕ) → have_one_key offers depth places ≡ true → AllByRecursion (λ p. key_on offers depth p ≡ first_key places) places
  like_first [] h = tt
  like_first (first ∷ others) h =
      let test : ℕ → Bool = λ p. same_key (key_on offers depth first) (key_on offers depth p) in
      (refl, along (λ p. test p ≡ true) (λ p. key_on offers depth p ≡ key_on offers depth first) others (λ p hit. sym (same_key-same (key_on offers depth first) (key_on offers depth p) hit)) (recursion_from_All (λ p. test p ≡ true) others (AllPass-from_list_all test others h)))

  -- so any two offers under a key have the same
  alike_under : (k : LimitKey) (i j : ℕ) (d e : ViewOffer) → have_one_key offers depth (places_under offers k) ≡ true → i < length offers → j < length offers
      → has_key (get_or offers i d).path k ≡ true → has_key (get_or offers j e).path k ≡ true → slice_get (get_or offers i d).path depth ≡ slice_get (get_or offers j e).path depth
  alike_under k i j d e one inside within on also =
      let under : ViewOffer → Bool = λ o. has_key o.path k in
      let key = first_key (places_under offers k) in
      let all = like_first (places_under offers k) one in
      let mine : key_on offers depth i ≡ key = rw zero-add at (at_places (λ p. key_on offers depth p ≡ key) under 0 offers all i d inside on) in
      let theirs : key_on offers depth j ≡ key = rw zero-add at (at_places (λ p. key_on offers depth p ≡ key) under 0 offers all j e within also) in
      sym (key_on-inside i d inside) ∙ mine ∙ sym theirs ∙ key_on-inside j e within

  -- a place of an offer under a key
  abbrev IsUnder : LimitKey → ℕ → Type 0
  IsUnder k place = (d : ViewOffer) × (place < length offers) × (has_key (get_or offers place d).path k ≡ true)

  -- indexes of which any two have the same key there
  one_key : (P : ℕ → Type 0) (places : List ℕ) → ((p q : ℕ) → P p → P q → same_key (key_on offers depth p) (key_on offers depth q) ≡ true) → AllByRecursion P places → have_one_key offers depth places ≡ true
  one_key P [] alike h = refl
  one_key P (first ∷ others) alike h =
      let test : ℕ → Bool = λ p. same_key (key_on offers depth first) (key_on offers depth p) in
      list_all-from_AllPass test others (All-from_recursion (λ p. test p ≡ true) others (along P (λ p. test p ≡ true) others (λ p k. alike first p h.0 k) h.1))

-- a view is nested if its paths are whole and its rooms agree
pub nested_from : (view : GroupView) → IsView view → All IsPath view.offers → list_all (room_agrees view.offers) view.rooms ≡ true → IsNested view
nested_from view sound paths agree =
    record {
      paths = paths;
      carriers = λ i d inside j e within x. go_on (Acct x) 3 refl i d inside j e within;
      guarantors = λ i d inside j e within x. go_on (Carry x) 4 refl i d inside j e within;
    }
  where
    one : (k : LimitKey) (depth : ℕ) → behind k ≡ Some depth → list_any (λ (o : ViewOffer). has_key o.path k) view.offers ≡ true → have_one_key view.offers depth (places_under view.offers k) ≡ true
    one k depth at on =
        let d : Room = record { key = k; lots = 0 } in
        let inside : place_of view.rooms k < length view.rooms = position_or_len-within (λ r. key_eq r.key k) view.rooms (roomed view sound k on) in
        rw at at (rw (key_at_place view.rooms k d inside) at (AllPass-from_list_all (room_agrees view.offers) view.rooms agree (place_of view.rooms k) d inside))

    go_on : (k : LimitKey) (depth : ℕ) → behind k ≡ Some depth → (i : ℕ) (d : ViewOffer) → i < length view.offers → (j : ℕ) (e : ViewOffer) → j < length view.offers → GoOnAlike k (get_or view.offers i d).path (get_or view.offers j e).path
    go_on k depth at i d inside j e within on also =
        let offers = view.offers in
        after_on (get_or offers i d) k depth at (paths i d inside) on
        ∙ alike_under offers depth k i j d e (one k depth at (on_path_at offers i (get_or offers i d) k (slice_get-get_or offers i d inside) on)) inside within on also
        ∙ sym (after_on (get_or offers j e) k depth at (paths j e within) also)

-- the rooms of a nested view agree
pub rooms_agree : (view : GroupView) → IsNested view → list_all (room_agrees view.offers) view.rooms ≡ true
rooms_agree view nested = list_all-from_AllPass (room_agrees view.offers) view.rooms (λ i d inside. under (get_or view.rooms i d).key)
  where
    alike : (k : LimitKey) (depth : ℕ) → behind k ≡ Some depth
        → ((p : ℕ) (d : ViewOffer) → p < length view.offers → (q : ℕ) (e : ViewOffer) → q < length view.offers → GoOnAlike k (get_or view.offers p d).path (get_or view.offers q e).path)
        → (p q : ℕ) → IsUnder view.offers depth k p → IsUnder view.offers depth k q → same_key (key_on view.offers depth p) (key_on view.offers depth q) ≡ true
    alike k depth at go p q (d, inside, on) (e, within, also) =
        let offers = view.offers in
        let a = get_or offers p d in
        let b = get_or offers q e in
        let same : slice_get a.path depth ≡ slice_get b.path depth =
        sym (after_on a k depth at (nested.paths p d inside) on) ∙ go p d inside q e within on also ∙ after_on b k depth at (nested.paths q e within) also in
        rw (key_on-inside offers depth p d inside, key_on-inside offers depth q e within, sym same) (same_key-refl (slice_get a.path depth))

    all_under : (k : LimitKey) (depth : ℕ) → behind k ≡ Some depth
        → ((p : ℕ) (d : ViewOffer) → p < length view.offers → (q : ℕ) (e : ViewOffer) → q < length view.offers → GoOnAlike k (get_or view.offers p d).path (get_or view.offers q e).path)
        → have_one_key view.offers depth (places_under view.offers k) ≡ true
    all_under k depth at go =
        one_key view.offers depth (IsUnder view.offers depth k) (places_under view.offers k) (alike k depth at go)
        (each_place (IsUnder view.offers depth k) (λ (o : ViewOffer). has_key o.path k) 0 view.offers (λ j d inside hit. (d, rw zero-add inside, rw zero-add hit)))

    under : (k : LimitKey) → option_map_or (λ depth. have_one_key view.offers depth (places_under view.offers k)) (behind k) true ≡ true
    under (Acct x) = all_under (Acct x) 3 refl (λ p d inside q e within. nested.carriers p d inside q e within x)
    under (Carry x) = all_under (Carry x) 4 refl (λ p d inside q e within. nested.guarantors p d inside q e within x)
    under (Exec x) = refl
    under (Agr x) = refl
    under (Guar x) = refl
