-- A view has one nearest cut.
use Rattle.gu_view.proofs.Words.{◌≡◌, ℕ, ◌<◌, ◌≤◌, ◌==◌, ◌&&◌, true, List, Some, length, get_or, map, slice_get, sym, ap, ◌∙◌, subst, arith, inl, inr, All, and_parts, eqb-true, or_cases, Any-from_list_any, list_any_at, key_eq-same, CutLists, has_number, has_key, key_eq, LimitKey, Agr, AreSame, IsConcise, IsHeldBy, IsNearestCut, held_at, holds, lots_with, keys_of, GroupView, IsView, ViewOffer, Room}
use Rattle.std.specs.List.{Any}
use Rattle.gu_view.proofs.HoldLemmas.{hits_at, on_path, same_test}
use Rattle.gu_view.proofs.RoomLemmas.{has_key-keys_of, has_room-keys}

-- what holds of each key of a list, and of each number
pub of_key : (P : LimitKey → Type 0) (keys : List LimitKey) (k : LimitKey) → All P keys → has_key keys k ≡ true → P k
of_key P keys k each on = let (i, j, i_in, at, same) = Any-from_list_any (λ j. key_eq j k) keys on in subst P (at ∙ key_eq-same j k same) (each i j i_in)

pub of_number : (P : ℕ → Type 0) (numbers : List ℕ) (n : ℕ) → All P numbers → has_number numbers n ≡ true → P n
of_number P numbers n each on = let (i, m, i_in, at, same) = Any-from_list_any (λ m. m == n) numbers on in subst P (at ∙ eqb-true m n same) (each i m i_in)

-- the rooms of a view are those of the keys on its paths
abbrev pub HasRoomsOfKeys : GroupView → Type 0
HasRoomsOfKeys view = map (λ (r : Room). r.key) view.rooms ≡ keys_of view.offers

-- an offer of the view
pub record IsIn (view : GroupView) (o : ViewOffer) : Type 0 where
  pub place : ℕ
  pub within : place < length view.offers
  pub is : get_or view.offers place o ≡ o

module _ (view : GroupView) (rooms : HasRoomsOfKeys view) (cut others : CutLists) (mine : IsConcise view cut) (theirs : IsConcise view others) where
  -- one cut doesn't have an agreement's key while the other has one of its offers
  not_in_room : (o : ViewOffer) → IsIn view o → (j : ℕ) (r : Room) → j < length view.rooms → get_or view.rooms j r ≡ r → r.key ≡ Agr o.agreement
      → has_key cut.keys (Agr o.agreement) ≡ true → has_number others.offers o.number ≡ true → ⊥
  not_in_room o h j r j_in at key has also =
      let most : r.lots ≤ lots_with view.offers r.key = (rw at at (mine.by_key j r j_in)) (ap (has_key cut.keys) key ∙ has) in
      let more : lots_with view.offers r.key < r.lots = (rw (at, h.is) at (theirs.by_offers j r j_in h.place o h.within)) key also in
      omega arith

  not_both : (o : ViewOffer) → IsIn view o → has_key o.path (Agr o.agreement) ≡ true → has_key cut.keys (Agr o.agreement) ≡ true → has_number others.offers o.number ≡ true → ⊥
  not_both o h on =
      let k = Agr o.agreement in
      let mentioned = list_any_at (λ (x : ViewOffer). has_key x.path k) view.offers h.place o h.within (ap (λ (x : ViewOffer). has_key x.path k) h.is ∙ on) in
      let (j, r, j_in, at, same) = Any-from_list_any (λ (r : Room). key_eq r.key k) view.rooms (has_room-keys view.rooms k ∙ ap (λ keys. has_key keys k) rooms ∙ has_key-keys_of view.offers k ∙ mentioned) in
      not_in_room o h j r j_in at (key_eq-same r.key k same)

-- a member of one cut is a member of the other if both hold each offer back at the same place
module _ (view : GroupView) (rooms : HasRoomsOfKeys view) (cut others : CutLists) (mine : IsConcise view cut) (theirs : IsConcise view others)
    (places : (o : ViewOffer) → IsIn view o → held_at cut o ≡ held_at others o) where
  held_too : (o : ViewOffer) → IsIn view o → (k : LimitKey) → IsHeldBy cut o k → holds others o k ≡ true
  held_too o h k held = hits_at (holds others o) o.path k (subst (λ n. slice_get o.path n ≡ Some k) (places o h) held)

  keys_stay : (k : LimitKey) → has_key cut.keys k ≡ true → has_key others.keys k ≡ true
  keys_stay k on =
      let (i, o, i_in, at, held) = of_key (λ k. Any (λ o. IsHeldBy cut o k) view.offers) cut.keys k mine.keys on in
      let h : IsIn view o = record { place = i; within = i_in; is = at } in
      elim (or_cases (has_key others.keys k) (key_eq k (Agr o.agreement) && has_number others.offers o.number) (held_too o h k held)) [
        | inl by_key ↦ by_key
        | inr itself ↦
            let p = and_parts (key_eq k (Agr o.agreement)) (has_number others.offers o.number) itself in
            let own : k ≡ Agr o.agreement = key_eq-same k (Agr o.agreement) p.0 in
            absurd (not_both view rooms cut others mine theirs o h (ap (has_key o.path) (sym own) ∙ on_path o.path (held_at cut o) k held) (ap (has_key cut.keys) (sym own) ∙ on) p.1)
      ]

  offers_stay : (n : ℕ) → has_number cut.offers n ≡ true → has_number others.offers n ≡ true
  offers_stay n on =
      let (i, o, i_in, at, is) = of_number (λ n. Any (λ o. (o.number ≡ n) × IsHeldBy cut o (Agr o.agreement)) view.offers) cut.offers n mine.offers on in
      let h : IsIn view o = record { place = i; within = i_in; is = at } in
      let k = Agr o.agreement in
      elim (or_cases (has_key others.keys k) (key_eq k k && has_number others.offers o.number) (held_too o h k is.1)) [
        | inl by_key ↦ absurd (not_both view rooms others cut theirs mine o h (on_path o.path (held_at cut o) k is.1) by_key (ap (has_number cut.offers) is.0 ∙ on))
        | inr itself ↦ ap (has_number others.offers) (sym is.0) ∙ (and_parts (key_eq k k) (has_number others.offers o.number) itself).1
      ]

-- two nearest cuts are the same
pub one_cut : (view : GroupView) → HasRoomsOfKeys view → (cut others : CutLists) → IsNearestCut view cut → IsNearestCut view others → AreSame cut others
one_cut view rooms cut others mine theirs = record {
  keys = λ k. same_test (has_key cut.keys k) (has_key others.keys k) (keys_stay view rooms cut others mine.concise theirs.concise places k) (keys_stay view rooms others cut theirs.concise mine.concise (λ o h. sym (places o h)) k);
  offers = λ n. same_test (has_number cut.offers n) (has_number others.offers n) (offers_stay view rooms cut others mine.concise theirs.concise places n) (offers_stay view rooms others cut theirs.concise mine.concise (λ o h. sym (places o h)) n);
}
  where
    places : (o : ViewOffer) → IsIn view o → held_at cut o ≡ held_at others o
    places o h =
        let less = rw h.is at (mine.earliest others theirs.least theirs.tight h.place o h.within) in
        let more = rw h.is at (theirs.earliest cut mine.least mine.tight h.place o h.within) in
        omega (arith, less, more)

pub nearest_cut_is_one : (view : GroupView) (cut others : CutLists) → IsView view → IsNearestCut view cut → IsNearestCut view others → AreSame cut others
nearest_cut_is_one view cut others sound = one_cut view sound.rooms cut others
