-- The cut between the reached nodes and the others holds each offer back where its way first leads out of the reached ones.
use Rattle.gu_flow.proofs.Words.{◌≡◌, ℕ, zero, suc, ◌+◌, ◌<◌, ◌≤◌, ◌==◌, ◌&&◌, not, Bool, true, false, List, Some, length, get_or, slice_get, refl, sym, ◌∙◌, ap, subst, arith, inl, inr, option_map, and_from, and_parts, cases_eq, eq-eqb, eqb-true, ne_eqb, not-true, or_cases, or_left, or_right, All-from_recursion, slice_get_cases, slice_get-map, slice_get-get_or, key_eq-from, key_eq-same, CutLists, has_number, has_key, key_eq, LimitKey, Agr, hits_at, misses_before, on_path, same_test, key_at_place, held_at, holds, GroupView, IsView, IsNested, place_of, ViewOffer, leads_out, cuts_key, cuts_offers, IsCutBy, arc_at, node_at, no_room, room_at, way_of, IsOfferOf, AreArcs, agreement_place, Arc}
use Rattle.gu_flow.proofs.ArcLists.{kind_of}
use Rattle.gu_flow.proofs.CutMembers.{key_told, offer_told}
use Rattle.gu_flow.proofs.OfferWays.{own_in, under_own}
use Rattle.gu_flow.proofs.RoomPlaces.{roomed}
use Rattle.gu_flow.proofs.ViewLoads.{lies}

-- what a test that passes and one that doesn't say of a conjunction
not_out : (b c : Bool) → (b && not c) ≡ false → b ≡ true → c ≡ true
not_out true true none from = refl
not_out true false none from = sym none
not_out false c none from = cc

module _ (view : GroupView) (sound : IsView view) (nested : IsNested view) (arcs : List Arc) (are : AreArcs view arcs) where
  abbrev pub way : ViewOffer → List ℕ
  way = way_of view.rooms

  abbrev at : LimitKey → ℕ
  at = place_of view.rooms

  -- the room of a key on a path, and the index of it on the way
  pub room_in : (o : ViewOffer) → IsOfferOf view o → (i : ℕ) (key : LimitKey) → slice_get o.path i ≡ Some key → at key < length view.rooms
  room_in o h i key there = elim (slice_get_cases o.path i).1 [
    | inl f ↦
        let same : f.0 ≡ key = let one : Some f.0 ≡ Some key = sym f.2 ∙ there in cc in
        subst (λ k. at k < length view.rooms) (f.3 ∙ same) (All-from_recursion (λ k. at k < length view.rooms) o.path (roomed view sound o h) i f.0 f.1)
    | inr past ↦ cc
  ]

  pub room_key : (o : ViewOffer) → IsOfferOf view o → (i : ℕ) (key : LimitKey) → slice_get o.path i ≡ Some key → (room_at view.rooms (at key)).key ≡ key
  room_key o h i key there = key_at_place view.rooms key no_room (room_in o h i key there)

  pub way_at : (o : ViewOffer) (i : ℕ) (key : LimitKey) → slice_get o.path i ≡ Some key → slice_get (way o) i ≡ Some (at key)
  way_at o i key there = slice_get-map at o.path i ∙ ap (option_map at) there

  -- the key of the room at an index of the way
  pub path_at : (o : ViewOffer) → IsOfferOf view o → (i k : ℕ) → slice_get (way o) i ≡ Some k → slice_get o.path i ≡ Some (room_at view.rooms k).key
  path_at o h i k there = elim (slice_get_cases o.path i).1 [
    | inl f ↦
        let one : Some (at f.0) ≡ Some k = sym (way_at o i f.0 f.2) ∙ there in
        let same : at f.0 ≡ k = cc in
        f.2 ∙ ap (λ x. Some x) (sym (room_key o h i f.0 f.2) ∙ ap (λ p. (room_at view.rooms p).key) same)
    | inr past ↦ let none : option_map at (slice_get o.path i) ≡ Some k = sym (slice_get-map at o.path i) ∙ there in let no = rw past.1 at none in cc
  ]

  module _ (reached : ℕ → Bool) (cut : CutLists) (cut_is : IsCutBy view reached arcs cut) where
    -- a key of a path holds the offer back if its arc leads out
    pub holds_out : (o : ViewOffer) → IsOfferOf view o → (i : ℕ) (key : LimitKey) → slice_get o.path i ≡ Some key → holds cut o key ≡ leads_out reached (arc_at arcs (at key))
    holds_out o h i key there =
        let k = at key in
        let k_room = room_in o h i key there in
        let a = arc_at arcs k in
        let room = (room_at view.rooms k).lots in
        let named = room_key o h i key there in
        let own = agreement_place view.rooms o in
        let by_key : has_key cut.keys key ≡ cuts_key reached arcs view.rooms k = ap (has_key cut.keys) (sym named) ∙ key_told view reached arcs cut cut_is k k_room in
        let by_number : has_number cut.offers o.number ≡ cuts_offers reached arcs view.rooms own = offer_told view reached arcs cut cut_is o h in
        let itself = key_eq key (Agr o.agreement) && has_number cut.offers o.number in
        same_test (holds cut o key) (leads_out reached a)
        (λ hit. elim (or_cases (has_key cut.keys key) itself hit) [
          | inl has ↦ (and_parts (leads_out reached a) (a.capacity == room) (sym by_key ∙ has)).0
          | inr named_itself ↦
              let p = and_parts (key_eq key (Agr o.agreement)) (has_number cut.offers o.number) named_itself in
              let here : own ≡ k = ap at (sym (key_eq-same key (Agr o.agreement) p.0)) in
              ap (λ m. leads_out reached (arc_at arcs m)) (sym here)
              ∙ (and_parts (leads_out reached (arc_at arcs own)) (not ((arc_at arcs own).capacity == (room_at view.rooms own).lots)) (sym by_number ∙ p.1)).0
        ])
        (λ out. elim (cases_eq a.capacity room) [
          | inl whole ↦ or_left (has_key cut.keys key) itself (by_key ∙ and_from (leads_out reached a) (a.capacity == room) out (eq-eqb a.capacity room whole))
          | inr less ↦ elim (kind_of view.offers room a.capacity (room_at view.rooms k).key (are.each k (omega (arith, are.all, k_room))).capacity) [
            | inr other ↦ absurd (less other.0)
            | inl s ↦
                let mine : own ≡ k = eqb-true own k (sym (under_own view sound nested o h k k_room s.agreement s.is) ∙ ap (has_key o.path) named ∙ on_path o.path i key there) in
                let same : key ≡ Agr o.agreement = sym named ∙ ap (λ m. (room_at view.rooms m).key) (sym mine) ∙ key_at_place view.rooms (Agr o.agreement) no_room (own_in view sound nested o h) in
                or_right (has_key cut.keys key) itself (and_from (key_eq key (Agr o.agreement)) (has_number cut.offers o.number) (key_eq-from key (Agr o.agreement) same)
                (by_number ∙ ap (cuts_offers reached arcs view.rooms) mine ∙ and_from (leads_out reached a) (not (a.capacity == room)) out (ap not (ne_eqb a.capacity room less))))
          ]
        ])

    -- so the nodes of a way up to there are reached, and the next isn't
    pub comes : reached 0 ≡ true → (o : ViewOffer) → IsOfferOf view o → (i : ℕ) → i ≤ held_at cut o → i ≤ length o.path → reached (node_at (way o) i) ≡ true
    comes source o h zero free inside = source
    comes source o h (suc i) free inside =
        let key = get_or o.path i (Agr o.agreement) in
        let there : slice_get o.path i ≡ Some key = slice_get-get_or o.path i (Agr o.agreement) (omega arith) in
        let arc = lies view sound nested arcs are o h i (at key) (way_at o i key there) in
        let passes : leads_out reached (arc_at arcs (at key)) ≡ false = sym (holds_out o h i key there) ∙ misses_before (holds cut o) o.path i key (omega arith) there in
        let from : reached (arc_at arcs (at key)).from ≡ true = ap reached arc.1 ∙ comes source o h i (omega arith) (omega arith) in
        let next : i + 1 ≡ suc i = omega arith in
        ap (λ n. reached (node_at (way o) n)) (sym next) ∙ ap reached (sym arc.2) ∙ not_out (reached (arc_at arcs (at key)).from) (reached (arc_at arcs (at key)).to) passes from

    pub stops : (o : ViewOffer) → IsOfferOf view o → held_at cut o < length o.path → reached (node_at (way o) (suc (held_at cut o))) ≡ false
    stops o h inside =
        let i = held_at cut o in
        let key = get_or o.path i (Agr o.agreement) in
        let there : slice_get o.path i ≡ Some key = slice_get-get_or o.path i (Agr o.agreement) inside in
        let arc = lies view sound nested arcs are o h i (at key) (way_at o i key there) in
        let out : leads_out reached (arc_at arcs (at key)) ≡ true = sym (holds_out o h i key there) ∙ hits_at (holds cut o) o.path key there in
        let next : i + 1 ≡ suc i = omega arith in
        ap (λ n. reached (node_at (way o) n)) (sym next) ∙ ap reached (sym arc.2) ∙ not-true (reached (arc_at arcs (at key)).to) (and_parts (reached (arc_at arcs (at key)).from) (not (reached (arc_at arcs (at key)).to)) out).1
