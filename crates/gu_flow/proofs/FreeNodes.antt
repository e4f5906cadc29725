-- The nodes to which offers come past a cut with the least room: no greatest flow can push more out of them.
use Rattle.gu_flow.proofs.Words.{◌≡◌, ◌≢◌, ℕ, zero, suc, ◌+◌, ◌/◌, ◌<◌, ◌≤◌, ◌==◌, ◌||◌, ◌&&◌, not, Bool, true, false, cond, List, Some, length, get_or, slice_get, refl, sym, ◌∙◌, ap, arith, inl, inr, sum_by, list_any, and_parts, cases_Bool, cases_eq, eq-eqb, eqb-true, false_from_ne_true, ne_eqb, not-true, or_cases, or_left, or_right, get_or_default, length-map, Any-from_list_any, list_any_at, slice_get-get_or, slice_get_within, sum_by-add, sum_by-swap, CutLists, has_number, has_key, key_eq, LimitKey, Agr, AgreementId, held, hits_at, holds_by_key, misses_before, Covers, room_of, held_at, holds, step_of, lots_with, total, GroupView, IsView, IsNested, place_of, ViewOffer, leads_out, arc_at, is_tail, places, sum_over, IsClosed, IsWithin, node_of, node_or_sink, node_at, no_offer, no_room, room_at, way_of, IsArcOf, IsOfferOf, AreArcs, agreement_place, Arc}
use Rattle.gu_flow.proofs.ArcLists.{capacity-le, kind_of}
use Rattle.gu_flow.proofs.CutTotals.{leads_back, total_leaves}
use Rattle.gu_flow.proofs.HeldWays.{path_at, room_key, way_at}
use Rattle.gu_flow.proofs.OfferWays.{on_step, one_path_at, own_in, step_at, under_own, way_on, way_stepped}
use Rattle.gu_flow.proofs.RoomPlaces.{place_of_room}
use Rattle.gu_flow.proofs.Sides.{comes_to, stepped_at}
use Rattle.gu_flow.proofs.SumLemmas.{same_terms, sum_by-by, sum_by_place, sum_one_place, sum_places_le_in}
use Rattle.gu_flow.proofs.ViewLoads.{all_walk, brought, each_offer, key_on, lies, under_agreement}

-- a way visits a node within this many steps
abbrev visits : List ℕ → ℕ → ℕ → Bool
visits way zero n = node_at way 0 == n
visits way (suc steps) n = (node_at way (suc steps) == n) || visits way steps n

visits-there : (way : List ℕ) (steps i : ℕ) → i ≤ steps → visits way steps (node_at way i) ≡ true
visits-there way zero i within = let first : i ≡ 0 = omega arith in rw first (eq-eqb (node_at way 0) (node_at way 0) refl)
visits-there way (suc steps) i within = elim (cases_eq i (suc steps)) [
  | inl last ↦ or_left (node_at way (suc steps) == node_at way i) (visits way steps (node_at way i)) (eq-eqb (node_at way (suc steps)) (node_at way i) (ap (node_at way) (sym last)))
  | inr before ↦ or_right (node_at way (suc steps) == node_at way i) (visits way steps (node_at way i)) (visits-there way steps i (omega arith))
]

visited : (way : List ℕ) (steps n : ℕ) → visits way steps n ≡ true → (i : ℕ) × (i ≤ steps) × (node_at way i ≡ n)
visited way zero n there = (0, omega arith, eqb-true (node_at way 0) n there)
visited way (suc steps) n there = elim (or_cases (node_at way (suc steps) == n) (visits way steps n) there) [
  | inl last ↦ (suc steps, omega arith, eqb-true (node_at way (suc steps)) n last)
  | inr before ↦ let (i, within, is) = visited way steps n before in (i, omega arith, is)
]

-- a test that misses at a place isn't first passed there
passed : (cut : CutLists) (o : ViewOffer) (i : ℕ) (key : LimitKey) → i ≤ held_at cut o → slice_get o.path i ≡ Some key → holds cut o key ≡ false → i < held_at cut o
passed cut o i key free there misses = elim (cases_eq i (held_at cut o)) [
  | inl here ↦ let hit = hits_at (holds cut o) o.path key (ap (slice_get o.path) (sym here) ∙ there) in cc
  | inr before ↦ omega arith
]

-- a way is at the sink only at its end
inner : (way : List ℕ) (i : ℕ) → i < length way → node_at way i ≡ 1 → ⊥
inner way i inside at = elim (cases_eq i 0) [
  | inl none ↦ absurd (let now = rw none at at in omega (arith, now))
  | inr some ↦ elim (cases_eq i 1) [
    | inl one ↦ let there = slice_get-get_or way 0 0 (omega arith) in absurd (let now = rw (one, there) at at in omega (arith, now))
    | inr more ↦ let there = slice_get-get_or way i 0 inside in absurd (let now = rw (ne_eqb i 0 some, ne_eqb i 1 more, there) at at in omega (arith, now))
  ]
]

module _ (view : GroupView) (sound : IsView view) (nested : IsNested view) (arcs : List Arc) (are : AreArcs view arcs) (cut : CutLists) (covers : Covers view cut) where
  abbrev way : ViewOffer → List ℕ
  way = way_of view.rooms

  abbrev at : LimitKey → ℕ
  at = place_of view.rooms

  -- the source, and each node to which an offer comes before the cut holds it back
  abbrev pub is_free : ℕ → Bool
  is_free n = (n == 0) || list_any (λ o. visits (way o) (held_at cut o) n) view.offers

  own_at : (o : ViewOffer) → IsOfferOf view o → slice_get o.path 1 ≡ Some (Agr o.agreement)
  own_at o h = rw (← h.is) at (sound.own h.place no_offer h.within)

  pub held_in : (o : ViewOffer) → IsOfferOf view o → held_at cut o < length o.path
  held_in o h = held cut o (own_at o h) (rw (← h.is) at (covers h.place no_offer h.within))

  pub free_source : is_free 0 ≡ true
  free_source = or_left (0 == 0) (list_any (λ o. visits (way o) (held_at cut o) 0) view.offers) (eq-eqb 0 0 refl)

  free_there : (o : ViewOffer) → IsOfferOf view o → (i : ℕ) → i ≤ held_at cut o → is_free (node_at (way o) i) ≡ true
  free_there o h i free =
      let n = node_at (way o) i in
      or_right (n == 0) (list_any (λ x. visits (way x) (held_at cut x) n) view.offers)
      (list_any_at (λ x. visits (way x) (held_at cut x) n) view.offers h.place no_offer h.within (ap (λ x. visits (way x) (held_at cut x) n) (sym h.is) ∙ visits-there (way o) (held_at cut o) i free))

  -- an offer that comes to a node
  pub record ComesTo (n : ℕ) : Type 0 where
    pub offer : ViewOffer
    pub known : IsOfferOf view offer
    pub steps : ℕ
    pub free : steps ≤ held_at cut offer
    pub here : node_at (way offer) steps ≡ n

  pub came : (n : ℕ) → n ≢ 0 → is_free n ≡ true → ComesTo n
  came n other free = elim (or_cases (n == 0) (list_any (λ o. visits (way o) (held_at cut o) n) view.offers) free) [
    | inl source ↦ absurd (other (eqb-true n 0 source))
    | inr some ↦
        let (place, o, within, is, there) = Any-from_list_any (λ o. visits (way o) (held_at cut o) n) view.offers some in
        let (i, before, here) = visited (way o) (held_at cut o) n there in
        record { offer = o; known = record { place = place; within = within; is = sym is ∙ get_or_default view.offers place o no_offer within }; steps = i; free = before; here = here }
  ]

  pub not_free_sink : is_free 1 ≡ false
  not_free_sink = false_from_ne_true (is_free 1) (λ free.
      let c = came 1 (λ e. absurd (omega (arith, e))) free in
      inner (way c.offer) c.steps (omega (arith, c.free, held_in c.offer c.known, length-map c.offer.path at)) c.here)

  -- an arc out of the free nodes
  module _ (k : ℕ) (k_in : k < length arcs) (out : leads_out is_free (arc_at arcs k) ≡ true) where
    abbrev key : LimitKey
    key = (room_at view.rooms k).key

    k_room : k < length view.rooms
    k_room = omega (arith, are.all, k_in)

    a : IsArcOf view k (arc_at arcs k)
    a = are.each k k_in

    from : is_free (arc_at arcs k).from ≡ true
    from = (and_parts (is_free (arc_at arcs k).from) (not (is_free (arc_at arcs k).to)) out).0

    to : is_free (arc_at arcs k).to ≡ false
    to = not-true (is_free (arc_at arcs k).to) (and_parts (is_free (arc_at arcs k).from) (not (is_free (arc_at arcs k).to)) out).1

    -- each offer that comes to it is held back there
    blocked : (o : ViewOffer) → IsOfferOf view o → (i : ℕ) → slice_get o.path i ≡ Some key → i ≤ held_at cut o → holds cut o key ≡ true
    blocked o h i there free = elim (cases_Bool (holds cut o key)) [
      | inl hit ↦ hit
      | inr misses ↦
          let on_way : slice_get (way o) i ≡ Some k = way_at view sound nested arcs are o i key there ∙ ap (λ p. Some p) (place_of_room view sound k k_room) in
          let arc = lies view sound nested arcs are o h i k on_way in
          let free_to : is_free (arc_at arcs k).to ≡ true = ap is_free arc.2 ∙ free_there o h (i + 1) (omega (arith, passed cut o i key free there misses)) in
          let no : true ≡ false = sym free_to ∙ to in
          cc
    ]

    module _ (none : has_key cut.keys key ≡ false) where
      -- any but an agreement's key is in the cut
      by_key : step_of key ≢ 1 → ⊥
      by_key apart = elim (cases_eq (step_of key) 0) [
        | inl first ↦ refuted a.offer a.known 0 (ap (slice_get a.offer.path) (sym first) ∙ at_own) (omega arith)
        | inr later ↦
            let here : (arc_at arcs k).from ≡ node_of k = a.from ∙ rw (ne_eqb (step_of key) 0 later, ne_eqb (step_of key) 1 apart) (ap node_or_sink (way_on view sound nested a.offer a.known k k_room on)) in
            let c = came (arc_at arcs k).from (λ e. absurd (omega (arith, here, e))) from in
            elim (comes_to (way c.offer) c.steps k (c.here ∙ here)) [
              | inl begin ↦ absurd (later (stepped_at (step_at view.rooms) 0 (way c.offer) (way_stepped view sound nested c.offer c.known) 0 k begin.1))
              | inr more ↦ refuted c.offer c.known c.steps (path_at view sound nested arcs are c.offer c.known c.steps k more.1) c.free
            ]
      ]
        where
          on : has_key a.offer.path key ≡ true
          on = key_on view sound nested arcs are a.offer a.known k k_room a.goes_by

          at_own : slice_get a.offer.path (step_of key) ≡ Some key
          at_own = on_step view sound nested a.offer a.known key on

          refuted : (o : ViewOffer) → IsOfferOf view o → (i : ℕ) → slice_get o.path i ≡ Some key → i ≤ held_at cut o → ⊥
          refuted o h i there free = let has = sym (holds_by_key cut o key apart) ∙ blocked o h i there free in let no : true ≡ false = sym has ∙ none in cc

      -- an agreement's offers are each in the cut
      by_offers : (agreement : AgreementId) → key ≡ Agr agreement → (q : ViewOffer) → IsOfferOf view q → agreement_place view.rooms q ≡ k → has_number cut.offers q.number ≡ true
      by_offers agreement is q h mine =
          let first : LimitKey = get_or a.offer.path 0 key in
          let at_first : slice_get a.offer.path 0 ≡ Some first = slice_get-get_or a.offer.path 0 key (omega (arith, slice_get_within a.offer.path 1 (Agr a.offer.agreement) (own_at a.offer a.known))) in
          let on_way = way_at view sound nested arcs are a.offer 0 first at_first in
          let step_first : step_at view.rooms (at first) ≡ 0 = stepped_at (step_at view.rooms) 0 (way a.offer) (way_stepped view sound nested a.offer a.known) 0 (at first) on_way in
          let named : (room_at view.rooms (at first)).key ≡ first = room_key view sound nested arcs are a.offer a.known 0 first at_first in
          let here : (arc_at arcs k).from ≡ node_of (at first) = a.from ∙ ap (λ i. node_at (way a.offer) i) (ap step_of is) ∙ ap node_or_sink on_way in
          let c = came (arc_at arcs k).from (λ e. absurd (omega (arith, here, e))) from in
          let one : (c.steps ≡ 1) × (slice_get (way c.offer) 0 ≡ Some (at first)) = elim (comes_to (way c.offer) c.steps (at first) (c.here ∙ here)) [
            | inl begin ↦ begin
            | inr more ↦ absurd (omega (arith, more.0, step_first, stepped_at (step_at view.rooms) 0 (way c.offer) (way_stepped view sound nested c.offer c.known) c.steps (at first) more.1))
          ] in
          let there : slice_get c.offer.path 0 ≡ Some first = path_at view sound nested arcs are c.offer c.known 0 (at first) one.1 ∙ ap (λ x. Some x) named in
          let not_agr : step_of first ≢ 1 = λ e. absurd (omega (arith, step_first, ap step_of named, e)) in
          let not_in : has_key cut.keys first ≡ false = sym (holds_by_key cut c.offer first not_agr) ∙ misses_before (holds cut c.offer) c.offer.path 0 first (omega (arith, c.free, one.0)) there in
          let on_q : has_key q.path key ≡ true = under_own view sound nested q h k k_room agreement is ∙ eq-eqb (agreement_place view.rooms q) k mine in
          let on_a : has_key a.offer.path key ≡ true = key_on view sound nested arcs are a.offer a.known k k_room a.goes_by in
          let second : step_of key ≡ 1 = ap step_of is in
          let at_q : slice_get q.path 1 ≡ Some key = ap (slice_get q.path) (sym second) ∙ on_step view sound nested q h key on_q in
          let at_a : slice_get a.offer.path 1 ≡ Some key = ap (slice_get a.offer.path) (sym second) ∙ on_step view sound nested a.offer a.known key on_a in
          let alike : Some (Agr q.agreement) ≡ Some (Agr a.offer.agreement) = sym (own_at q h) ∙ at_q ∙ sym at_a ∙ own_at a.offer a.known in
          let agreements : q.agreement ≡ a.offer.agreement = cc in
          let paths = one_path_at view sound nested q a.offer h a.known agreements in
          let begins : slice_get q.path 0 ≡ Some first = ap (λ path. slice_get path 0) paths ∙ at_first in
          let past = passed cut q 0 first (omega arith) begins (holds_by_key cut q first not_agr ∙ not_in) in
          elim (or_cases (has_key cut.keys key) (key_eq key (Agr q.agreement) && has_number cut.offers q.number) (blocked q h 1 at_q (omega (arith, past)))) [
            | inl has ↦ let no : true ≡ false = sym has ∙ none in cc
            | inr itself ↦ (and_parts (key_eq key (Agr q.agreement)) (has_number cut.offers q.number) itself).1
          ]

    -- so the cut has as much room for it as its capacity
    abbrev under : ℕ
    under = sum_by (λ o. cond (agreement_place view.rooms o == k) (cond (has_number cut.offers o.number) o.lots 0) 0) view.offers

    enough : (arc_at arcs k).capacity ≤ cond (has_key cut.keys key) (room_at view.rooms k).lots 0 + under
    enough = elim (cases_Bool (has_key cut.keys key)) [
      | inl has ↦ rw has (omega (arith, capacity-le view.offers (room_at view.rooms k).lots (arc_at arcs k).capacity key a.capacity))
      | inr none ↦ elim (kind_of view.offers (room_at view.rooms k).lots (arc_at arcs k).capacity key a.capacity) [
        | inr other ↦ absurd (by_key none other.1)
        | inl s ↦
            let each : (b c : Bool) (x : ℕ) → (b ≡ true → c ≡ true) → cond b x 0 ≡ cond b (cond c x 0) 0 = part in
            let all : lots_with view.offers key ≡ under =
            under_agreement view sound nested arcs are (λ o. o.lots) k k_room s.agreement s.is
            ∙ sum_by-by (IsOfferOf view) (λ o. cond (agreement_place view.rooms o == k) o.lots 0) (λ o. cond (agreement_place view.rooms o == k) (cond (has_number cut.offers o.number) o.lots 0) 0) view.offers
            (λ o h. each (agreement_place view.rooms o == k) (has_number cut.offers o.number) o.lots (λ mine. by_offers none s.agreement s.is o h (eqb-true (agreement_place view.rooms o) k mine))) (each_offer view sound nested arcs are) in
            rw none (omega (arith, s.capacity_is, all))
      ]
    ]
      where
        part : (b c : Bool) (x : ℕ) → (b ≡ true → c ≡ true) → cond b x 0 ≡ cond b (cond c x 0) 0
        part false c x h = refl
        part true true x h = refl
        part true false x h = let no : false ≡ true = h refl in cc

  -- altogether no more than the room of the cut leads out of the free nodes
  out_of : ℕ → ℕ
  out_of k = cond (leads_out is_free (arc_at arcs k)) (arc_at arcs k).capacity 0

  abbrev room_under : ℕ → ℕ
  room_under k = sum_by (λ o. cond (agreement_place view.rooms o == k) (cond (has_number cut.offers o.number) o.lots 0) 0) view.offers

  each_out : (k : ℕ) → k < length arcs → out_of k ≤ cond (has_key cut.keys (room_at view.rooms k).key) (room_at view.rooms k).lots 0 + room_under k
  unfolding out_of
  each_out k k_in = elim (cases_Bool (leads_out is_free (arc_at arcs k))) [
    | inl out ↦ rw out (enough k k_in out)
    | inr inside ↦ rw inside (omega arith)
  ]

  keys_room : sum_by (λ k. cond (has_key cut.keys (room_at view.rooms k).key) (room_at view.rooms k).lots 0) (places (length arcs)) ≡ sum_by (λ r. cond (has_key cut.keys r.key) r.lots 0) view.rooms
  keys_room =
      ap (λ n. sum_by (λ k. cond (has_key cut.keys (room_at view.rooms k).key) (room_at view.rooms k).lots 0) (places n)) are.all
      ∙ sym (sum_by_place (λ r. cond (has_key cut.keys r.key) r.lots 0) view.rooms no_room)

  offers_room : sum_by room_under (places (length arcs)) ≡ sum_by (λ o. cond (has_number cut.offers o.number) o.lots 0) view.offers
  offers_room =
      let own = agreement_place view.rooms in
      let f : ViewOffer → ℕ = λ o. cond (has_number cut.offers o.number) o.lots 0 in
      sym (sum_by-swap (λ (o : ViewOffer) k. cond (own o == k) (f o) 0) view.offers (places (length arcs)))
      ∙ sum_by-by (IsOfferOf view) (λ o. sum_by (λ k. cond (own o == k) (f o) 0) (places (length arcs))) f view.offers
      (λ o h. sum_one_place (λ k. f o) (length arcs) (own o) (omega (arith, own_in view sound nested o h, are.all))) (each_offer view sound nested arcs are)

  all_out : sum_by out_of (places (length arcs)) ≤ room_of view cut
  all_out =
      let keyed : ℕ → ℕ = λ k. cond (has_key cut.keys (room_at view.rooms k).key) (room_at view.rooms k).lots 0 in
      omega (arith, sum_places_le_in out_of (λ k. keyed k + room_under k) (length arcs) each_out, sum_by-add keyed room_under (places (length arcs)), keys_room, offers_room)

  -- so a flow of offers' lots that are as many fills what leads out, and nothing flows back
  module _ (flow : List ℕ) (lots : ℕ → ℕ) (within : IsWithin arcs flow) (same : (k : ℕ) → k < length arcs → get_or flow k 0 ≡ brought view sound nested arcs are lots k) (enough_lots : room_of view cut ≤ total view.offers lots) where
    abbrev carried : ℕ → ℕ
    carried = brought view sound nested arcs are lots

    carried_out : ℕ → ℕ
    carried_out k = cond (leads_out is_free (arc_at arcs k)) (carried k) 0

    carried_back : ℕ → ℕ
    carried_back k = cond (leads_back is_free (arc_at arcs k)) (carried k) 0

    leaves : sum_by carried_out (places (length arcs)) ≡ sum_by carried_back (places (length arcs)) + total view.offers lots
    unfolding carried_out carried_back sum_over
    leaves = total_leaves arcs view.offers way (λ o. lots o.number) 0 1 (all_walk view sound nested arcs are) is_free free_source not_free_sink

    no_more : (k : ℕ) → k < length arcs → carried_out k ≤ out_of k + carried_back k
    unfolding carried_out carried_back out_of
    no_more k k_in = elim (cases_Bool (leads_out is_free (arc_at arcs k))) [
      | inl out ↦ rw out (omega (arith, same k k_in, within.each k))
      | inr inside ↦ rw inside (omega arith)
    ]

    as_much : (k : ℕ) → k < length arcs → carried_out k ≡ out_of k + carried_back k
    as_much = same_terms carried_out (λ k. out_of k + carried_back k) (length arcs) no_more
        (omega (arith, leaves, all_out, enough_lots, sum_by-add out_of carried_back (places (length arcs)), sum_places_le_in carried_out (λ k. out_of k + carried_back k) (length arcs) no_more))

    full : (k : ℕ) → k < length arcs → is_free (arc_at arcs k).from ≡ true → is_free (arc_at arcs k).to ≡ false → get_or flow k 0 ≡ (arc_at arcs k).capacity
    unfolding carried_out carried_back out_of
    full k k_in from to = omega (arith, same k k_in, rw (from, to) at (as_much k k_in))

    empty : (k : ℕ) → k < length arcs → is_free (arc_at arcs k).from ≡ false → is_free (arc_at arcs k).to ≡ true → get_or flow k 0 ≡ 0
    unfolding carried_out carried_back out_of
    empty k k_in from to = omega (arith, same k k_in, rw (from, to) at (as_much k k_in))

    pub free_closed : IsClosed arcs flow is_free
    free_closed = record {
      each = λ e e_in here there. elim (cases_Bool (is_tail e)) [
        | inl tail ↦ rw tail (omega (arith, full (e / 2) (omega arith) (rw tail at here) (rw tail at there)))
        | inr head ↦ rw head (empty (e / 2) (omega arith) (rw head at there) (rw head at here))
      ];
    }
