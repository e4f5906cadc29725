-- No takes exceed the room of a cut that covers.
use Rattle.gu_view.proofs.Words.{◌≡◌, ℕ, ◌+◌, ◌≤◌, Bool, true, false, cond, List, [], ◌∷◌, sym, subst, arith, inl, inr, sum_by, AllByRecursion, list_any, or_cases, or_left, or_right, cond-true, recursion_from_All, list_any_at, sum_by-cons, CutLists, has_number, key_eq, has_key, LimitKey, key_eq-same, key_eq-refl, has_room, Covers, is_covered, room_of, IsAdmissible, IsGreatest, lots_under, total, GroupView, IsView, ViewOffer, Room, along, along2, sum_by-add, sum_by-mono, sum_by-swap, sum_by-zeros}
use Rattle.gu_view.proofs.RoomLemmas.{on_own_path, roomed}

-- a sum over the rooms is at least the term for a key's room
at_room : (k : LimitKey) (g : Room → ℕ) (n : ℕ) → ((r : Room) → r.key ≡ k → n ≤ g r) → (rooms : List Room) → has_room rooms k ≡ true → n ≤ sum_by g rooms
at_room k g n here [] found = cc
at_room k g n here (r ∷ rooms) found =
    elim (or_cases (key_eq r.key k) (has_room rooms k) found) [
      | inl same ↦ omega (arith, here r (key_eq-same r.key k same), sum_by-cons g r rooms)
      | inr later ↦ omega (arith, at_room k g n here rooms later, sum_by-cons g r rooms)
    ]

-- a key of a path that passes a test and has a room
record Found (test : LimitKey → Bool) (rooms : List Room) (path : List LimitKey) : Type 0 where
  key : LimitKey
  passes : test key ≡ true
  on_path : has_key path key ≡ true
  has_room : has_room rooms key ≡ true

find_key : (test : LimitKey → Bool) (rooms : List Room) (path : List LimitKey) → AllByRecursion (λ k. has_room rooms k ≡ true) path → list_any test path ≡ true → Found test rooms path
find_key test rooms [] roomed found = cc
find_key test rooms (k ∷ path) roomed found =
    elim (or_cases (test k) (list_any test path) found) [
      | inl here ↦ record { key = k; passes = here; on_path = or_left (key_eq k k) (has_key path k) (key_eq-refl k); has_room = roomed.0 }
      | inr later ↦
          let f = find_key test rooms path roomed.1 later in
          record { key = f.key; passes = f.passes; on_path = or_right (key_eq k f.key) (has_key path f.key) f.on_path; has_room = f.has_room }
    ]

parts : (b : Bool) (room : ℕ) (f : ViewOffer → ℕ) (offers : List ViewOffer) → sum_by f offers ≤ room → sum_by (λ o. cond b (f o) 0) offers ≤ cond b room 0
parts true room f offers within = within
parts false room f offers within = omega (arith, sum_by-zeros offers)

own_parts : (b : Bool) (n lots : ℕ) → n ≤ lots → cond b n 0 ≤ cond b lots 0
own_parts true n lots within = within
own_parts false n lots within = omega arith

module _ (view : GroupView) (cut : CutLists) (lots : ℕ → ℕ) where
  -- what an offer counts for under a room of the cut
  share : Room → ViewOffer → ℕ
  share r o = cond (has_key cut.keys r.key) (cond (has_key o.path r.key) (lots o.number) 0) 0

  -- what it counts for by itself
  own : ViewOffer → ℕ
  own o = cond (has_number cut.offers o.number) (lots o.number) 0

  whole : (r : Room) (o : ViewOffer) → has_key cut.keys r.key ≡ true → has_key o.path r.key ≡ true → lots o.number ≤ share r o
  unfolding share
  whole r o in_cut on_path =
      rw (cond-true (has_key cut.keys r.key) (cond (has_key o.path r.key) (lots o.number) 0) 0 in_cut, cond-true (has_key o.path r.key) (lots o.number) 0 on_path) (omega arith)

  -- a covered offer's lots count at least once
  counted : (o : ViewOffer) → is_covered cut o ≡ true → AllByRecursion (λ k. has_room view.rooms k ≡ true) o.path → lots o.number ≤ own o + sum_by (λ r. share r o) view.rooms
  unfolding share own
  counted o covered roomed =
      elim (or_cases (has_number cut.offers o.number) (list_any (has_key cut.keys) o.path) covered) [
        | inl itself ↦ omega (arith, cond-true (has_number cut.offers o.number) (lots o.number) 0 itself)
        | inr by_key ↦
            let f = find_key (has_key cut.keys) view.rooms o.path roomed by_key in
            let enough : lots o.number ≤ sum_by (λ r. share r o) view.rooms =
            at_room f.key (λ r. share r o) (lots o.number) (λ r same. whole r o (subst (λ k. has_key cut.keys k ≡ true) (sym same) f.passes) (subst (λ k. has_key o.path k ≡ true) (sym same) f.on_path)) view.rooms f.has_room in
            omega arith
      ]

  -- what counts under a room of the cut is at most the room
  part : (r : Room) → lots_under view.offers r.key lots ≤ r.lots → sum_by (λ o. share r o) view.offers ≤ cond (has_key cut.keys r.key) r.lots 0
  unfolding share
  part r within = parts (has_key cut.keys r.key) r.lots (λ o. cond (has_key o.path r.key) (lots o.number) 0) view.offers within

  -- what counts by itself is at most what the offer has
  own_part : (o : ViewOffer) → lots o.number ≤ o.lots → own o ≤ cond (has_number cut.offers o.number) o.lots 0
  unfolding own
  own_part o within = own_parts (has_number cut.offers o.number) (lots o.number) o.lots within

  -- each key of each path has a room
  all_roomed : IsView view → AllByRecursion (λ o. AllByRecursion (λ k. has_room view.rooms k ≡ true) o.path) view.offers
  all_roomed sound =
      along (λ (o : ViewOffer). (k : LimitKey) → has_key o.path k ≡ true → list_any (λ o. has_key o.path k) view.offers ≡ true) (λ (o : ViewOffer). AllByRecursion (λ k. has_room view.rooms k ≡ true) o.path) view.offers
      (λ o known. along (λ k. has_key o.path k ≡ true) (λ k. has_room view.rooms k ≡ true) o.path (λ k h. roomed view sound k (known k h)) (on_own_path o.path))
      (recursion_from_All (λ (o : ViewOffer). (k : LimitKey) → has_key o.path k ≡ true → list_any (λ o. has_key o.path k) view.offers ≡ true) view.offers (λ i d inside k h. list_any_at (λ (o : ViewOffer). has_key o.path k) view.offers i d inside h))

  pub cut_bounds_takes : IsView view → IsAdmissible view lots → Covers view cut → total view.offers lots ≤ room_of view cut
  cut_bounds_takes sound admissible covered =
      let each : AllByRecursion (λ o. lots o.number ≤ own o + sum_by (λ r. share r o) view.rooms) view.offers =
      along2 (λ o. is_covered cut o ≡ true) (λ o. AllByRecursion (λ k. has_room view.rooms k ≡ true) o.path) (λ o. lots o.number ≤ own o + sum_by (λ r. share r o) view.rooms) view.offers
      (λ o c r. counted o c r) (recursion_from_All (λ o. is_covered cut o ≡ true) view.offers covered) (all_roomed sound) in
      let all = sum_by-mono (λ o. lots o.number) (λ o. own o + sum_by (λ r. share r o) view.rooms) view.offers each in
      let split = sum_by-add own (λ o. sum_by (λ r. share r o) view.rooms) view.offers in
      let swapped = sum_by-swap (λ o r. share r o) view.offers view.rooms in
      let keys =
      sum_by-mono (λ r. sum_by (λ o. share r o) view.offers) (λ r. cond (has_key cut.keys r.key) r.lots 0) view.rooms
      (along (λ r. lots_under view.offers r.key lots ≤ r.lots) (λ r. sum_by (λ o. share r o) view.offers ≤ cond (has_key cut.keys r.key) r.lots 0) view.rooms part
      (recursion_from_All (λ r. lots_under view.offers r.key lots ≤ r.lots) view.rooms admissible.rooms)) in
      let offers =
      sum_by-mono own (λ o. cond (has_number cut.offers o.number) o.lots 0) view.offers
      (along (λ o. lots o.number ≤ o.lots) (λ o. own o ≤ cond (has_number cut.offers o.number) o.lots 0) view.offers own_part
      (recursion_from_All (λ o. lots o.number ≤ o.lots) view.offers admissible.offers)) in
      omega arith

-- admissible lots that equal the room of a covering cut are greatest
pub greatest_by_cut : (view : GroupView) (cut : CutLists) (lots : ℕ → ℕ) → IsView view → IsAdmissible view lots → Covers view cut → total view.offers lots ≡ room_of view cut → IsGreatest view lots
greatest_by_cut view cut lots sound admissible covered equal = record {
  admissible = admissible;
  greatest = λ others within. omega (arith, cut_bounds_takes view cut others sound within covered);
}
