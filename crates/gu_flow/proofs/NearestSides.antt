-- The cut at the least source side is the nearest cut.
use Rattle.gu_flow.proofs.Words.{◌≡◌, ◌≢◌, ℕ, suc, ◌<◌, ◌≤◌, ◌==◌, not, Bool, true, false, List, Some, length, map, get_or, slice_get, refl, sym, ◌∙◌, ap, subst, arith, inl, inr, All, Any, and_parts, cases_eq, cases_lt, eq-eqb, eqb-true, ne_eqb, not-true, get_or_default, All-from_get_or, Any-from_list_any, list_any_at, slice_get-get_or, key_eq-refl, position_or_len-within, CutLists, has_number, has_key, key_eq, LimitKey, Agr, first_hit, hits_at, holds_by_key, key_at_place, has_room, Covers, IsLeastCut, room_of, IsConcise, IsHeldBy, IsNearestCut, IsTight, held_at, holds, step_of, IsAdmissible, lots_under, lots_with, total, GroupView, IsView, IsNested, place_of, ViewOffer, Room, leads_out, cuts_offers, IsCutBy, arc_at, IsClosed, IsFlow, node_of, node_or_sink, node_at, no_offer, no_room, offer_at, room_at, way_of, IsArcOf, IsOfferOf, AreArcs, agreement_place, Arc}
use Rattle.gu_view.proofs.CutBounds.{cut_bounds_takes}
use Rattle.gu_flow.proofs.ArcLists.{kind_of}
use Rattle.gu_flow.proofs.CutMembers.{key_told, offer_told}
use Rattle.gu_flow.proofs.CutTotals.{full}
use Rattle.gu_flow.proofs.FreeNodes.{came, free_closed, free_source, held_in, is_free}
use Rattle.gu_flow.proofs.HeldWays.{comes, holds_out, path_at, room_key, stops, way_at}
use Rattle.gu_flow.proofs.OfferWays.{on_step, one_path_at, own_in, same_node, step_at, way_on, way_stepped}
use Rattle.gu_flow.proofs.RoomPlaces.{place_of_room}
use Rattle.gu_flow.proofs.Sides.{comes_to, stepped_at}
use Rattle.gu_flow.proofs.ViewLoads.{brought_is, key_on, lies, offer_here, under_all}

module _ (view : GroupView) (sound : IsView view) (nested : IsNested view) (arcs : List Arc) (are : AreArcs view arcs) (flow : List ℕ) (is_flow : IsFlow arcs flow)
    (reached : ℕ → Bool) (from_source : reached 0 ≡ true) (not_to_sink : reached 1 ≡ false) (closed : IsClosed arcs flow reached)
    (least : (others : ℕ → Bool) → others 0 ≡ true → IsClosed arcs flow others → (n : ℕ) → reached n ≡ true → others n ≡ true)
    (lots : ℕ → ℕ) (within : IsAdmissible view lots) (taken : (k : ℕ) → k < length arcs → get_or flow k 0 ≡ lots_under view.offers (room_at view.rooms k).key lots)
    (cut : CutLists) (cut_is : IsCutBy view reached arcs cut) (covers : Covers view cut) (room : room_of view cut ≡ total view.offers lots) where
  abbrev way : ViewOffer → List ℕ
  way = way_of view.rooms

  abbrev at : LimitKey → ℕ
  at = place_of view.rooms

  least_cut : IsLeastCut view cut
  least_cut = record { covers = covers; least = λ others also. omega (arith, room, cut_bounds_takes view others lots sound within also) }

  -- what is reached is free of each cut with as little room
  reached_free : (others : CutLists) (also : Covers view others) → room_of view others ≤ room_of view cut → (n : ℕ) → reached n ≡ true → is_free view sound nested arcs are others also n ≡ true
  reached_free others also little =
      least (is_free view sound nested arcs are others also) (free_source view sound nested arcs are others also)
      (free_closed view sound nested arcs are others also flow lots is_flow.within
      (λ k k_in. taken k k_in ∙ sym (brought_is view sound nested arcs are lots k (omega (arith, k_in, are.all)))) (omega (arith, little, room)))

  own_at : (o : ViewOffer) → IsOfferOf view o → slice_get o.path 1 ≡ Some (Agr o.agreement)
  own_at o h = rw (← h.is) at (sound.own h.place no_offer h.within)

  held_inside : (o : ViewOffer) → IsOfferOf view o → held_at cut o < length o.path
  held_inside = held_in view sound nested arcs are cut covers

  -- paths that go on alike after a place have one node there
  next_node : (o p : ViewOffer) → IsOfferOf view o → IsOfferOf view p → (i : ℕ) → slice_get o.path (suc i) ≡ slice_get p.path (suc i) → node_at (way o) (suc i) ≡ node_at (way p) (suc i)
  next_node o p h g i same = elim (cases_eq i 0) [
    | inl first ↦
        let own : Some (Agr o.agreement) ≡ Some (Agr p.agreement) = sym (own_at o h) ∙ rw first at same ∙ own_at p g in
        let agreements : o.agreement ≡ p.agreement = cc in
        ap (λ path. node_at (map at path) (suc i)) (one_path_at view sound nested o p h g agreements)
    | inr later ↦ rw (ne_eqb (suc i) 0 (λ e. absurd (omega arith)), ne_eqb (suc i) 1 (λ e. absurd (omega arith))) (same_node view sound nested o p (suc i) same)
  ]

  -- no offer gets round the cut
  tight : IsTight view cut
  tight m d inside n e within same =
      let o = get_or view.offers m d in
      let p = get_or view.offers n e in
      let h = offer_here view sound nested arcs are m d inside in
      let g = offer_here view sound nested arcs are n e within in
      elim (cases_lt (held_at cut o) (held_at cut p)) [
        | inl later ↦
            let there : reached (node_at (way p) (suc (held_at cut o))) ≡ true = comes view sound nested arcs are reached cut cut_is from_source p g (suc (held_at cut o)) (omega arith) (omega (arith, held_inside p g)) in
            let off : reached (node_at (way o) (suc (held_at cut o))) ≡ false = stops view sound nested arcs are reached cut cut_is o h (held_inside o h) in
            let no : true ≡ false = sym there ∙ ap reached (next_node p o g h (held_at cut o) same) ∙ off in
            cc
        | inr first ↦ first
      ]

  -- no such cut holds an offer back earlier
  module _ (others : CutLists) (other : IsLeastCut view others) (also : IsTight view others) where
    -- an offer comes as far past the other cut, with the same key there
    module _ (o : ViewOffer) (h : IsOfferOf view o) (later : held_at others o < held_at cut o) where
      abbrev i : ℕ
      i = held_at others o

      free : is_free view sound nested arcs are others other.covers (node_at (way o) (suc i)) ≡ true
      free =
          reached_free others other.covers (other.least cut covers) (node_at (way o) (suc i))
          (comes view sound nested arcs are reached cut cut_is from_source o h (suc i) (omega (arith, later)) (omega (arith, later, held_inside o h)))

      -- behind the executing firm's key
      at_first : i ≡ 0 → ⊥
      at_first first =
          let key = get_or o.path 0 (Agr o.agreement) in
          let there : slice_get o.path 0 ≡ Some key = slice_get-get_or o.path 0 (Agr o.agreement) (omega (arith, later, held_inside o h)) in
          let on_way = way_at view sound nested arcs are o 0 key there in
          let named = room_key view sound nested arcs are o h 0 key there in
          let step : step_at view.rooms (at key) ≡ 0 = stepped_at (step_at view.rooms) 0 (way o) (way_stepped view sound nested o h) 0 (at key) on_way in
          let node : node_at (way o) (suc i) ≡ node_of (at key) = ap (λ j. node_at (way o) (suc j)) first ∙ ap node_or_sink on_way in
          let c = came view sound nested arcs are others other.covers (node_of (at key)) (λ e. absurd (omega (arith, e))) (ap (is_free view sound nested arcs are others other.covers) (sym node) ∙ free) in
          elim (comes_to (way c.offer) c.steps (at key) c.here) [
            | inr more ↦ omega (arith, more.0, step, stepped_at (step_at view.rooms) 0 (way c.offer) (way_stepped view sound nested c.offer c.known) c.steps (at key) more.1)
            | inl one ↦
                let begins : slice_get c.offer.path 0 ≡ Some key = path_at view sound nested arcs are c.offer c.known 0 (at key) one.1 ∙ ap (λ x. Some x) named in
                let not_agr : step_of key ≢ 1 = λ e. absurd (omega (arith, step, ap step_of named, e)) in
                let hit = hits_at (holds others o) o.path key (ap (slice_get o.path) first ∙ there) in
                let same : holds others c.offer key ≡ true = holds_by_key others c.offer key not_agr ∙ sym (holds_by_key others o key not_agr) ∙ hit in
                omega (arith, one.0, c.free, first_hit (holds others c.offer) c.offer.path 0 key begins same)
          ]

      -- behind a later key
      at_later : i ≢ 0 → ((p : ViewOffer) → IsOfferOf view p → slice_get p.path (suc i) ≡ slice_get o.path (suc i) → held_at others p ≤ i) → ⊥
      at_later some round =
          let key = get_or o.path (suc i) (Agr o.agreement) in
          let there : slice_get o.path (suc i) ≡ Some key = slice_get-get_or o.path (suc i) (Agr o.agreement) (omega (arith, later, held_inside o h)) in
          let on_way = way_at view sound nested arcs are o (suc i) key there in
          let named = room_key view sound nested arcs are o h (suc i) key there in
          let step : step_at view.rooms (at key) ≡ suc i = omega (arith, stepped_at (step_at view.rooms) 0 (way o) (way_stepped view sound nested o h) (suc i) (at key) on_way) in
          let node : node_at (way o) (suc i) ≡ node_of (at key) = rw (ne_eqb (suc i) 0 (λ e. absurd (omega (arith, e))), ne_eqb (suc i) 1 (λ e. absurd (omega (arith, e, some)))) (ap node_or_sink on_way) in
          let c = came view sound nested arcs are others other.covers (node_of (at key)) (λ e. absurd (omega (arith, e))) (ap (is_free view sound nested arcs are others other.covers) (sym node) ∙ free) in
          elim (comes_to (way c.offer) c.steps (at key) c.here) [
            | inl begin ↦ omega (arith, step, stepped_at (step_at view.rooms) 0 (way c.offer) (way_stepped view sound nested c.offer c.known) 0 (at key) begin.1)
            | inr more ↦
                let here : c.steps ≡ suc i = omega (arith, step, stepped_at (step_at view.rooms) 0 (way c.offer) (way_stepped view sound nested c.offer c.known) c.steps (at key) more.1) in
                let same : slice_get c.offer.path (suc i) ≡ slice_get o.path (suc i) =
                ap (slice_get c.offer.path) (sym here) ∙ path_at view sound nested arcs are c.offer c.known c.steps (at key) more.1 ∙ ap (λ x. Some x) named ∙ sym there in
                omega (arith, here, c.free, round c.offer c.known same)
          ]

    earliest : All (λ o. held_at cut o ≤ held_at others o) view.offers
    earliest m d inside =
        let o = get_or view.offers m d in
        let h = offer_here view sound nested arcs are m d inside in
        elim (cases_lt (held_at others o) (held_at cut o)) [
          | inl later ↦ elim (cases_eq (held_at others o) 0) [
            | inl first ↦ absurd (at_first o h later first)
            | inr some ↦ absurd (at_later o h later some (λ p g same. (rw (← g.is) at (also m d inside g.place no_offer g.within)) same))
          ]
          | inr first ↦ first
        ]

  -- an arc that leads out holds some offer back
  module _ (k : ℕ) (k_in : k < length arcs) (out : leads_out reached (arc_at arcs k) ≡ true) where
    abbrev key : LimitKey
    key = (room_at view.rooms k).key

    k_room : k < length view.rooms
    k_room = omega (arith, are.all, k_in)

    a : IsArcOf view k (arc_at arcs k)
    a = are.each k k_in

    from : reached (arc_at arcs k).from ≡ true
    from = (and_parts (reached (arc_at arcs k).from) (not (reached (arc_at arcs k).to)) out).0

    holds_here : (o : ViewOffer) → IsOfferOf view o → (i : ℕ) → slice_get o.path i ≡ Some key → holds cut o key ≡ true
    holds_here o h i there = holds_out view sound nested arcs are reached cut cut_is o h i key there ∙ ap (λ p. leads_out reached (arc_at arcs p)) (place_of_room view sound k k_room) ∙ out

    held_there : (o : ViewOffer) → IsOfferOf view o → (i : ℕ) → slice_get o.path i ≡ Some key → i ≤ held_at cut o → Any (λ o. IsHeldBy cut o key) view.offers
    held_there o h i there free =
        let here : held_at cut o ≡ i = omega (arith, free, first_hit (holds cut o) o.path i key there (holds_here o h i there)) in
        (h.place, o, h.within, get_or_default view.offers h.place o no_offer h.within ∙ sym h.is, ap (slice_get o.path) here ∙ there)

    -- its tail is reached, so no executing firm's key is before it
    not_first : (o : ViewOffer) → IsOfferOf view o → slice_get o.path 1 ≡ Some key → held_at cut o ≢ 0
    not_first o h there first =
        let arc = lies view sound nested arcs are o h 1 k (way_at view sound nested arcs are o 1 key there ∙ ap (λ p. Some p) (place_of_room view sound k k_room)) in
        let off : reached (node_at (way o) 1) ≡ false = ap (λ i. reached (node_at (way o) (suc i))) (sym first) ∙ stops view sound nested arcs are reached cut cut_is o h (held_inside o h) in
        let no : true ≡ false = sym from ∙ ap reached arc.1 ∙ off in
        cc

    pub held_by : Any (λ o. IsHeldBy cut o key) view.offers
    held_by = elim (cases_eq (step_of key) 0) [
      | inl first ↦ held_there a.offer a.known 0 (ap (slice_get a.offer.path) (sym first) ∙ at_own) (omega arith)
      | inr some ↦ elim (cases_eq (step_of key) 1) [
        | inl second ↦
            let there : slice_get a.offer.path 1 ≡ Some key = ap (slice_get a.offer.path) (sym second) ∙ at_own in
            held_there a.offer a.known 1 there (omega (arith, not_first a.offer a.known there))
        | inr later ↦
            let here : (arc_at arcs k).from ≡ node_of k = a.from ∙ rw (ne_eqb (step_of key) 0 some, ne_eqb (step_of key) 1 later) (ap node_or_sink (way_on view sound nested a.offer a.known k k_room on)) in
            let c = came view sound nested arcs are cut covers (arc_at arcs k).from (λ e. absurd (omega (arith, here, e))) (reached_free cut covers (omega arith) (arc_at arcs k).from from) in
            elim (comes_to (way c.offer) c.steps k (c.here ∙ here)) [
              | inl begin ↦ absurd (some (stepped_at (step_at view.rooms) 0 (way c.offer) (way_stepped view sound nested c.offer c.known) 0 k begin.1))
              | inr more ↦ held_there c.offer c.known c.steps (path_at view sound nested arcs are c.offer c.known c.steps k more.1) c.free
            ]
      ]
    ]
      where
        on : has_key a.offer.path key ≡ true
        on = key_on view sound nested arcs are a.offer a.known k k_room a.goes_by

        at_own : slice_get a.offer.path (step_of key) ≡ Some key
        at_own = on_step view sound nested a.offer a.known key on

  -- what the cut names holds some offer back, and it has the least room there
  key_used : (x : LimitKey) → has_room view.rooms x ≡ true → has_key cut.keys x ≡ true → Any (λ o. IsHeldBy cut o x) view.offers
  key_used x known has =
      let k_room : at x < length view.rooms = position_or_len-within (λ (r : Room). key_eq r.key x) view.rooms known in
      let named = key_at_place view.rooms x no_room k_room in
      let cuts = sym (key_told view reached arcs cut cut_is (at x) k_room) ∙ ap (has_key cut.keys) named ∙ has in
      subst (λ k. Any (λ o. IsHeldBy cut o k) view.offers) named
      (held_by (at x) (omega (arith, are.all, k_room)) (and_parts (leads_out reached (arc_at arcs (at x))) ((arc_at arcs (at x)).capacity == (room_at view.rooms (at x)).lots) cuts).0)

  offer_used : (o : ViewOffer) → IsOfferOf view o → has_number cut.offers o.number ≡ true → IsHeldBy cut o (Agr o.agreement)
  offer_used o h has =
      let k = agreement_place view.rooms o in
      let k_room : k < length view.rooms = own_in view sound nested o h in
      let named : (room_at view.rooms k).key ≡ Agr o.agreement = key_at_place view.rooms (Agr o.agreement) no_room k_room in
      let cuts = sym (offer_told view reached arcs cut cut_is o h) ∙ has in
      let out = (and_parts (leads_out reached (arc_at arcs k)) (not ((arc_at arcs k).capacity == (room_at view.rooms k).lots)) cuts).0 in
      let there : slice_get o.path 1 ≡ Some (room_at view.rooms k).key = own_at o h ∙ ap (λ x. Some x) (sym named) in
      let k_in : k < length arcs = omega (arith, are.all, k_room) in
      let here : held_at cut o ≡ 1 = omega (arith, not_first k k_in out o h there, first_hit (holds cut o) o.path 1 (room_at view.rooms k).key there (holds_here k k_in out o h 1 there)) in
      ap (slice_get o.path) here ∙ own_at o h

  key_short : (k : ℕ) → k < length view.rooms → has_key cut.keys (room_at view.rooms k).key ≡ true → (room_at view.rooms k).lots ≤ lots_with view.offers (room_at view.rooms k).key
  key_short k k_room has =
      let k_in : k < length arcs = omega (arith, are.all, k_room) in
      let key = (room_at view.rooms k).key in
      let cuts = and_parts (leads_out reached (arc_at arcs k)) ((arc_at arcs k).capacity == (room_at view.rooms k).lots) (sym (key_told view reached arcs cut cut_is k k_room) ∙ has) in
      let whole = eqb-true (arc_at arcs k).capacity (room_at view.rooms k).lots cuts.1 in
      let ends = and_parts (reached (arc_at arcs k).from) (not (reached (arc_at arcs k).to)) cuts.0 in
      elim (kind_of view.offers (room_at view.rooms k).lots (arc_at arcs k).capacity key (are.each k k_in).capacity) [
        | inl s ↦ omega (arith, s.capacity_is, whole)
        | inr other ↦ omega (arith, whole, full arcs flow reached is_flow.within closed k k_in ends.0 (not-true (reached (arc_at arcs k).to) ends.1), taken k k_in, under_all view sound nested arcs are lots key within.offers)
      ]

  offers_short : (k : ℕ) → k < length view.rooms → (o : ViewOffer) → IsOfferOf view o → (room_at view.rooms k).key ≡ Agr o.agreement → has_number cut.offers o.number ≡ true
      → lots_with view.offers (room_at view.rooms k).key < (room_at view.rooms k).lots
  offers_short k k_room o h named has =
      let room = (room_at view.rooms k).lots in
      let capacity = (arc_at arcs k).capacity in
      let own : agreement_place view.rooms o ≡ k = ap at (sym named) ∙ place_of_room view sound k k_room in
      let cuts : cuts_offers reached arcs view.rooms k ≡ true = ap (cuts_offers reached arcs view.rooms) (sym own) ∙ sym (offer_told view reached arcs cut cut_is o h) ∙ has in
      let part = not-true (capacity == room) (and_parts (leads_out reached (arc_at arcs k)) (not (capacity == room)) cuts).1 in
      let less : capacity ≢ room = λ e. let hit = eq-eqb capacity room e in cc in
      elim (kind_of view.offers room capacity (room_at view.rooms k).key (are.each k (omega (arith, are.all, k_room))).capacity) [
        | inl s ↦ omega (arith, s.capacity_is, less)
        | inr other ↦ absurd (less other.0)
      ]

  concise : IsConcise view cut
  concise = record {
    keys = λ i d inside. key_used (get_or cut.keys i d) (cut_is.keys.known i d inside) (list_any_at (λ j. key_eq j (get_or cut.keys i d)) cut.keys i d inside (key_eq-refl (get_or cut.keys i d)));
    offers = λ i d inside.
        let n = get_or cut.offers i d in
        let (place, o, within, is, same) = Any-from_list_any (λ (o : ViewOffer). o.number == n) view.offers (cut_is.offers.known i d inside) in
        let h : IsOfferOf view o = record { place = place; within = within; is = sym is ∙ get_or_default view.offers place o no_offer within } in
        let has : has_number cut.offers n ≡ true = list_any_at (λ m. m == n) cut.offers i d inside (eq-eqb n n refl) in
        (place, o, within, is, (eqb-true o.number n same, offer_used o h (ap (has_number cut.offers) (eqb-true o.number n same) ∙ has)));
    by_key = All-from_get_or (λ r. has_key cut.keys r.key ≡ true → r.lots ≤ lots_with view.offers r.key) view.rooms no_room key_short;
    by_offers = All-from_get_or (λ r. All (λ o. r.key ≡ Agr o.agreement → has_number cut.offers o.number ≡ true → lots_with view.offers r.key < r.lots) view.offers) view.rooms no_room
        (λ k k_room. All-from_get_or (λ o. (room_at view.rooms k).key ≡ Agr o.agreement → has_number cut.offers o.number ≡ true → lots_with view.offers (room_at view.rooms k).key < (room_at view.rooms k).lots) view.offers no_offer
        (λ i i_in. offers_short k k_room (offer_at view.offers i) (record { place = i; within = i_in; is = refl })));
  }

  pub nearest_cut : IsNearestCut view cut
  nearest_cut = record { least = least_cut; tight = tight; earliest = earliest; concise = concise }
