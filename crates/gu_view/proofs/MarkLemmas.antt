-- Marks for the rooms and offers that a cut names.
use Rattle.gu_view.proofs.Words.{◌≡◌, ℕ, ◌+◌, ◌<◌, ◌||◌, ◌==◌, not, Bool, true, false, List, [], ◌∷◌, Some, None, length, map, take, get_or, set, refl, sym, ap, ◌∙◌, arith, inl, inr, AllPairs, find, position, AllByRecursion, list_any, position_or_len, cases_order, ne_eqb, eqb-true, eq-eqb, lt-ltb, le-ltb, ltb-true, or_left, false_from_ne_true, ◌≤◌, nat_lt, AllWithin, recursion_from_All, prefix_len_is, or-true, or-false, list_any_more, list_any_at, LimitKey, has_number, key_eq, has_key, key_eq-same, key_eq-refl, ViewOffer, Room, GroupView, IsView, place_of, along, marked, position_or_len-within, replicate, take-replicate, get_or-map, CutLists, is_covered, AreMarks}
use Rattle.std.specs.List.Sorted.{IsPartitionedBy}
use Rattle.std.proofs.Math.Nat.{eq-or-lt_of_le}
use Rattle.std.proofs.lemmas.List.Quantifiers.{position-Some}
use Rattle.gu_view.proofs.TakesLemmas.{key_at_place}
use Rattle.gu_view.proofs.RoomLemmas.{apart, on_own_path, roomed}

-- all these names are known, and the marks say which elements have one of them
pub record AreMarked {X N : Type 0} (xs : List X) (known : N → Bool) (has : X → List N → Bool) (names : List N) (marks : List Bool) : Type 0 where
  pub known_all : find (λ n. not (known n)) names ≡ None
  pub marks_are : marks ≡ map (λ x. has x names) xs

-- the room of one more key is marked
pub mark_key : (view : GroupView) → IsView view → (keys : List LimitKey) (i : ℕ) (d : LimitKey) (place : ℕ) → i < length keys
    → position (λ r. key_eq r.key (get_or keys i d)) view.rooms ≡ Some place
    → set (map (λ (r : Room). has_key (take i keys) r.key) view.rooms) place true ≡ map (λ (r : Room). has_key (take (i + 1) keys) r.key) view.rooms
mark_key view sound keys i d place inside at =
    let k = get_or keys i d in
    let e : Room = record { key = k; lots = 0 } in
    let found = position-Some (λ (r : Room). key_eq r.key k) view.rooms place e at in
    marked (λ (r : Room). has_key (take i keys) r.key) (λ (r : Room). has_key (take (i + 1) keys) r.key) view.rooms place true e found.0
    (list_any_more (λ j. key_eq j (get_or view.rooms place e).key) keys i d inside ∙ rw (key_eq-same (get_or view.rooms place e).key k found.1) (rw (key_eq-refl k) (or-true _)))
    (λ n within other.
    let same : (get_or view.rooms place e).key ≡ k = key_eq-same (get_or view.rooms place e).key k found.1 in
    let differs : key_eq k (get_or view.rooms n e).key ≡ false = rw same at (apart view sound place n e found.0 within (λ h. other (sym h))) in
    list_any_more (λ j. key_eq j (get_or view.rooms n e).key) keys i d inside ∙ rw differs (or-false _))

-- the offer of one more number is marked
pub mark_offer : (offers : List ViewOffer) → AllPairs (λ a b. a.number < b.number) offers → (numbers : List ℕ) (i place : ℕ) (d : ℕ) → i < length numbers
    → position (λ o. o.number == get_or numbers i d) offers ≡ Some place
    → set (map (λ (o : ViewOffer). has_number (take i numbers) o.number) offers) place true ≡ map (λ (o : ViewOffer). has_number (take (i + 1) numbers) o.number) offers
mark_offer [] ascending numbers i place d inside at = cc
mark_offer (o ∷ others) ascending numbers i place d inside at =
    let offers = o ∷ others in
    let n = get_or numbers i d in
    let found = position-Some (λ (o : ViewOffer). o.number == n) offers place o at in
    let same : (get_or offers place o).number ≡ n = eqb-true (get_or offers place o).number n found.1 in
    marked (λ (o : ViewOffer). has_number (take i numbers) o.number) (λ (o : ViewOffer). has_number (take (i + 1) numbers) o.number) offers place true o found.0
    (list_any_more (λ m. m == (get_or offers place o).number) numbers i d inside ∙ rw same (rw (eq-eqb n n refl) (or-true _)))
    (λ k within other.
    let differs : (n == (get_or offers k o).number) ≡ false =
    ne_eqb n (get_or offers k o).number (λ e. elim (cases_order k place) [
      | inl h ↦ absurd (other h)
      | inr order ↦ elim order [
        | inl before ↦ absurd (omega (arith, ascending k place o before found.0))
        | inr after ↦ absurd (omega (arith, ascending place k o after within))
      ]
    ]) in
    list_any_more (λ m. m == (get_or offers k o).number) numbers i d inside ∙ rw differs (or-false _))

-- an index that a look-up didn't find
pub not_there : {X : Type 0} (p : X → Bool) (xs : List X) → position p xs ≡ None → list_any p xs ≡ false
not_there p xs none =
    false_from_ne_true (list_any p xs) (λ hit.
    let inside = position_or_len-within p xs hit in
    let there : position p xs ≡ Some (position_or_len p xs) = rw (lt-ltb (position_or_len p xs) (length xs) inside) refl in
    let never : Some (position_or_len p xs) ≡ None = sym there ∙ none in
    some_none never)
  where
    some_none : {n : ℕ} → Some n ≡ None → ⊥
    some_none h = cc

-- an index that it found
pub there : {X : Type 0} (p : X → Bool) (xs : List X) (place : ℕ) → position p xs ≡ Some place → list_any p xs ≡ true
there p [] place at = cc
there p (x ∷ xs) place at =
    let found = position-Some p (x ∷ xs) place x at in
    list_any_at p (x ∷ xs) place x found.0 found.1

-- if nothing passes, there is no first index
pub position-none : {X : Type 0} (p : X → Bool) (xs : List X) → AllByRecursion (λ x. p x ≡ false) xs → position p xs ≡ None
position-none p xs none = rw (le-ltb (position_or_len p xs) (length xs) (far xs none)) refl
  where
    far : (xs : List _) → AllByRecursion (λ x. p x ≡ false) xs → length xs ≤ position_or_len p xs
    far [] none = omega arith
    far (x ∷ xs) none = rw none.0 (omega (arith, far xs none.1))

-- the offers before an index have smaller numbers
pub smaller_first : (offers : List ViewOffer) (n : ℕ) → AllPairs (λ a b. a.number < b.number) offers → IsPartitionedBy (λ o. nat_lt o.number n) offers
smaller_first offers n h i j d le within smaller = lt-ltb _ _ (below (ltb-true _ _ smaller))
  where
    below : (get_or offers j d).number < n → (get_or offers i d).number < n
    below before = elim (eq-or-lt_of_le le) [ inl e ↦ rw e before | inr lt ↦ omega (arith, h i j d lt within) ]

module _ (offers : List ViewOffer) (n place : ℕ) (before : AllWithin (λ o. o.number < n) offers 0 place) where
  -- the offer at that index has the number
  pub place_found : (d : ViewOffer) → place < length offers → (get_or offers place d).number ≡ n → position (λ o. o.number == n) offers ≡ Some place
  place_found d inside is =
      let first : position_or_len (λ (o : ViewOffer). o.number == n) offers ≡ place =
      prefix_len_is (λ (o : ViewOffer). not (o.number == n)) offers place d (omega arith)
      (λ k low. rw (ne_eqb (get_or offers k d).number n (λ e. absurd (omega (arith, before k d (omega arith) low)))) refl)
      (λ _. rw (eq-eqb (get_or offers place d).number n is) refl) in
      rw (first, lt-ltb place (length offers) inside) refl

  -- no offer has it
  pub place_past : length offers ≤ place → position (λ o. o.number == n) offers ≡ None
  place_past past =
      position-none (λ (o : ViewOffer). o.number == n) offers
      (recursion_from_All (λ (o : ViewOffer). (o.number == n) ≡ false) offers (λ k d inside. ne_eqb (get_or offers k d).number n (λ e. absurd (omega (arith, before k d (omega arith) (omega arith))))))

  pub place_other : AllPairs (λ a b. a.number < b.number) offers → AllWithin (λ o. n ≤ o.number) offers place (length offers) → place < length offers
      → ((d : ViewOffer) → (get_or offers place d).number ≡ n → ⊥) → position (λ o. o.number == n) offers ≡ None
  place_other ascending behind inside other =
      position-none (λ (o : ViewOffer). o.number == n) offers
      (recursion_from_All (λ (o : ViewOffer). (o.number == n) ≡ false) offers (λ k d within. ne_eqb (get_or offers k d).number n (λ e. elim (cases_order k place) [
        | inl same ↦ other d (rw same at e)
        | inr order ↦ elim order [
          | inl low ↦ absurd (omega (arith, before k d (omega arith) low))
          | inr high ↦ absurd (omega (arith, behind place d (omega arith) inside, ascending place k d high within))
        ]
      ])))

module _ {X : Type 0} where
  no_marks : (xs : List X) → replicate (length xs) false ≡ map (λ (x : X). false) xs
  no_marks [] = refl
  no_marks (x ∷ xs) = ap (λ l. false ∷ l) (no_marks xs)

  -- new marks
  pub fresh_marks : (xs : List X) (n m : ℕ) → n ≡ length xs → n ≤ m → take n (replicate m false) ≡ map (λ (x : X). false) xs
  fresh_marks xs n m same le = take-replicate n m false le ∙ rw same (no_marks xs)

-- the test by marks at indexes agrees with the test of the keys
pub marks_tell : (rooms : List Room) (marks : List Bool) (test : LimitKey → Bool) → AreMarks rooms marks (λ r. test r.key) → (path : List LimitKey)
    → AllByRecursion (λ k. place_of rooms k < length rooms) path → list_any (λ p. get_or marks p false) (map (place_of rooms) path) ≡ list_any test path
marks_tell rooms marks test are [] inside = refl
marks_tell [] marks test are (k ∷ path) inside = absurd (omega (arith, inside.0))
marks_tell (r ∷ rooms) marks test are (k ∷ path) inside =
    let here : get_or marks (place_of (r ∷ rooms) k) false ≡ test k =
    ap (λ l. get_or l (place_of (r ∷ rooms) k) false) are ∙ get_or-map (λ (r : Room). test r.key) (r ∷ rooms) (place_of (r ∷ rooms) k) r false inside.0 ∙ ap test (key_at_place (r ∷ rooms) k r inside.0) in
    rw (here, marks_tell (r ∷ rooms) marks test are path inside.1) refl

-- each key of an offer's path has an index among the rooms
pub path_inside : (view : GroupView) → IsView view → (i : ℕ) (o : ViewOffer) → i < length view.offers → o ≡ get_or view.offers i o → AllByRecursion (λ k. place_of view.rooms k < length view.rooms) o.path
path_inside view sound i o inside is =
    along (λ k. has_key o.path k ≡ true) (λ k. place_of view.rooms k < length view.rooms) o.path
    (λ k on_path. position_or_len-within (λ (r : Room). key_eq r.key k) view.rooms (roomed view sound k (list_any_at (λ (o : ViewOffer). has_key o.path k) view.offers i o inside (ap (λ (o : ViewOffer). has_key o.path k) (sym is) ∙ on_path))))
    (on_own_path o.path)

-- an offer's marks say whether the cut covers it
pub cover_told : (view : GroupView) → IsView view → (cut : CutLists) (keys numbers : List Bool) (i : ℕ) (o : ViewOffer) (places : List ℕ) → AreMarks view.rooms keys (λ r. has_key cut.keys r.key) → AreMarks view.offers numbers (λ o. has_number cut.offers o.number)
    → i < length view.offers → o ≡ get_or view.offers i o → places ≡ map (place_of view.rooms) o.path
    → is_covered cut o ≡ (get_or numbers i false || list_any (λ p. get_or keys p false) places)
cover_told view sound cut keys numbers i o places key-marks number-marks inside is at =
    let number : get_or numbers i false ≡ has_number cut.offers o.number =
    ap (λ l. get_or l i false) number-marks ∙ get_or-map (λ (o : ViewOffer). has_number cut.offers o.number) view.offers i o false inside ∙ ap (λ (o : ViewOffer). has_number cut.offers o.number) (sym is) in
    let key : list_any (λ p. get_or keys p false) places ≡ list_any (has_key cut.keys) o.path =
    ap (list_any (λ p. get_or keys p false)) at ∙ marks_tell view.rooms keys (has_key cut.keys) key-marks o.path (path_inside view sound i o inside is) in
    rw (number, key) refl

-- an offer that is itself marked is covered
pub cover_any : (view : GroupView) → IsView view → (cut : CutLists) (numbers : List Bool) (i : ℕ) (o : ViewOffer) → AreMarks view.offers numbers (λ o. has_number cut.offers o.number)
    → i < length view.offers → o ≡ get_or view.offers i o → get_or numbers i false ≡ true → is_covered cut o ≡ true
cover_any view sound cut numbers i o number-marks inside is hit =
    or_left (has_number cut.offers o.number) (list_any (has_key cut.keys) o.path)
    (ap (λ (o : ViewOffer). has_number cut.offers o.number) is ∙ sym (get_or-map (λ (o : ViewOffer). has_number cut.offers o.number) view.offers i o false inside) ∙ ap (λ l. get_or l i false) (sym number-marks) ∙ hit)
