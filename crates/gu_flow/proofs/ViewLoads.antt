-- Admissible lots give a flow through the network of a view, whose value is their total.
use Rattle.gu_flow.proofs.Words.{◌≡◌, ℕ, ◌+◌, ◌<◌, ◌≤◌, ◌==◌, Bool, true, false, cond, List, [], ◌∷◌, zero, suc, length, map, get_or, slice_get, Some, refl, sym, ◌∙◌, ap, arith, inl, inr, All, sum_by, AllByRecursion, list_any, cases_lt, or_cases, eq-eqb, eqb-true, get_or_default, get_or_past, get_or-map, length-map, recursion_from_All, list_any_at, slice_get_within, get_or_from_slice_get, along, sum_by-add, sum_by-mono, has_key, LimitKey, Agr, AgreementId, IsAdmissible, lots_under, lots_with, total, GroupView, IsView, IsNested, place_of, ViewOffer, arc_at, places, sum_over, value_of, IsFlow, node_at, no_room, room_at, no_offer, way_of, IsOfferOf, AreArcs, agreement_place, Arc}
use Rattle.gu_flow.proofs.ArcLists.{places_within, kind_of}
use Rattle.gu_flow.proofs.OfferWays.{step_at, under_own, way_stepped, way_ends, alike}
use Rattle.gu_flow.proofs.RoomPlaces.{goes_by_key, roomed}
use Rattle.gu_flow.proofs.Sides.{stepped_at, walks_from, way_once}
use Rattle.gu_flow.proofs.SumLemmas.{sum_by-by, sum_places_by}
use Rattle.gu_flow.proofs.Walks.{has_place, way_sum, along_walk, Walking, load, by_walks, loads_kept}

-- a member of a list of small numbers is small
has_within : (n k : ℕ) (ps : List ℕ) → AllByRecursion (λ p. p < n) ps → list_any (λ p. p == k) ps ≡ true → k < n
has_within n k [] each on = cc
has_within n k (p ∷ ps) each on = elim (or_cases (p == k) (list_any (λ p. p == k) ps) on) [
  | inl here ↦ omega (arith, eqb-true p k here, each.0)
  | inr there ↦ has_within n k ps each.1 there
]

-- each index is at itself
places_long : (n : ℕ) → length (places n) ≡ n
unfolding places
places_long zero = refl
places_long (suc n) = ap suc (length-map (places n) suc ∙ places_long n)

places_at : (n k : ℕ) → k < n → get_or (places n) k 0 ≡ k
unfolding places
places_at zero k k_in = absurd (omega arith)
places_at (suc n) zero k_in = refl
places_at (suc n) (suc k) k_in = get_or-map suc (places n) k 0 0 (omega (arith, places_long n)) ∙ ap suc (places_at n k (omega arith))

module _ (view : GroupView) (sound : IsView view) (nested : IsNested view) (arcs : List Arc) (are : AreArcs view arcs) where
  abbrev pub way : ViewOffer → List ℕ
  way = way_of view.rooms

  abbrev step : ℕ → ℕ
  step = step_at view.rooms

  pub offer_here : (i : ℕ) (d : ViewOffer) → i < length view.offers → IsOfferOf view (get_or view.offers i d)
  offer_here i d inside = record { place = i; within = inside; is = get_or_default view.offers i d no_offer inside }

  pub each_offer : AllByRecursion (IsOfferOf view) view.offers
  each_offer = recursion_from_All (IsOfferOf view) view.offers offer_here

  place_in : (o : ViewOffer) → IsOfferOf view o → (k : ℕ) → has_place (way o) k ≡ true → k < length view.rooms
  place_in o h k on = has_within (length view.rooms) k (way o) (places_within (length view.rooms) (place_of view.rooms) o.path (roomed view sound o h)) on

  -- a way that passes an index has its room's key on the path
  pub key_on : (o : ViewOffer) → IsOfferOf view o → (k : ℕ) → k < length view.rooms → has_place (way o) k ≡ true → has_key o.path (room_at view.rooms k).key ≡ true
  key_on o h k k_in on = sym (goes_by_key view sound k k_in o.path (roomed view sound o h)) ∙ on

  -- each way lays out the arcs that it passes
  pub lies : (o : ViewOffer) → IsOfferOf view o → (i k : ℕ) → slice_get (way o) i ≡ Some k → (k < length arcs) × ((arc_at arcs k).from ≡ node_at (way o) i) × ((arc_at arcs k).to ≡ node_at (way o) (i + 1))
  lies o h i k at =
      let on : has_place (way o) k ≡ true = list_any_at (λ p. p == k) (way o) i 0 (slice_get_within (way o) i k at) (eq-eqb (get_or (way o) i 0) k (get_or_from_slice_get (way o) i k 0 at)) in
      let k_room = place_in o h k on in
      let k_in : k < length arcs = omega (arith, are.all) in
      let a = are.each k k_in in
      let same = alike view sound nested a.offer o a.known h (room_at view.rooms k).key (key_on a.offer a.known k k_room a.goes_by) (key_on o h k k_room on) in
      let step_is : step k ≡ i = omega (arith, stepped_at step 0 (way o) (way_stepped view sound nested o h) i k at) in
      rw (← step_is) (k_in, a.from ∙ same.0, a.to ∙ same.1)

  pub walking : (o : ViewOffer) → IsOfferOf view o → Walking arcs way 0 1 o
  walking o h = record {
    walk = rw (way_ends view sound nested o h) at (walks_from arcs (node_at (way o)) (way o) (lies o h));
    once = way_once step 0 (way o) (way_stepped view sound nested o h);
  }

  pub all_walk : AllByRecursion (Walking arcs way 0 1) view.offers
  all_walk = recursion_from_All (Walking arcs way 0 1) view.offers (λ i d inside. walking (get_or view.offers i d) (offer_here i d inside))

  -- sums under an agreement, by the indexes of the offers' agreements
  pub under_agreement : (f : ViewOffer → ℕ) (k : ℕ) → k < length view.rooms → (agreement : AgreementId) → (room_at view.rooms k).key ≡ Agr agreement
      → sum_by (λ o. cond (has_key o.path (room_at view.rooms k).key) (f o) 0) view.offers ≡ sum_by (λ o. cond (agreement_place view.rooms o == k) (f o) 0) view.offers
  under_agreement f k k_in agreement is =
      sum_by-by (IsOfferOf view) (λ o. cond (has_key o.path (room_at view.rooms k).key) (f o) 0) (λ o. cond (agreement_place view.rooms o == k) (f o) 0) view.offers
      (λ o h. ap (λ b. cond b (f o) 0) (under_own view sound nested o h k k_in agreement is)) each_offer

  module _ (lots : ℕ → ℕ) where
    abbrev pub brought : ℕ → ℕ
    brought = load arcs view.offers way (λ o. lots o.number) 0 1 all_walk

    pub brought_is : (k : ℕ) → k < length view.rooms → brought k ≡ lots_under view.offers (room_at view.rooms k).key lots
    unfolding load
    brought_is k k_in =
        sum_by-by (IsOfferOf view) (λ o. cond (has_place (way o) k) (lots o.number) 0) (λ o. cond (has_key o.path (room_at view.rooms k).key) (lots o.number) 0) view.offers
        (λ o h. ap (λ b. cond b (lots o.number) 0) (goes_by_key view sound k k_in o.path (roomed view sound o h))) each_offer

    -- no more is taken under a key than the offers with it have
    part : (b : Bool) (n m : ℕ) → n ≤ m → cond b n 0 ≤ cond b m 0
    part true n m h = h
    part false n m h = omega arith

    pub under_all : (key : LimitKey) → All (λ o. lots o.number ≤ o.lots) view.offers → lots_under view.offers key lots ≤ lots_with view.offers key
    under_all key within =
        sum_by-mono (λ o. cond (has_key o.path key) (lots o.number) 0) (λ o. cond (has_key o.path key) o.lots 0) view.offers
        (along (λ o. lots o.number ≤ o.lots) (λ o. cond (has_key o.path key) (lots o.number) 0 ≤ cond (has_key o.path key) o.lots 0) view.offers (λ o h. part (has_key o.path key) (lots o.number) o.lots h)
        (recursion_from_All (λ o. lots o.number ≤ o.lots) view.offers within))

    -- the sink takes the total
    turn : (b c : Bool) (x : ℕ) → cond b x 0 + cond c x 0 ≡ cond c x 0 + cond b x 0
    turn b c x = omega arith

    at_sink : (o : ViewOffer) → Walking arcs way 0 1 o → way_sum arcs (λ a. a.to == 1) (way o) (lots o.number) ≡ way_sum arcs (λ a. a.from == 1) (way o) (lots o.number) + lots o.number
    at_sink o w =
        let whole : way_sum arcs (λ a. a.to == 1) (way o) (lots o.number) + cond (0 == 1) (lots o.number) 0 ≡ way_sum arcs (λ a. a.from == 1) (way o) (lots o.number) + cond (1 == 1) (lots o.number) 0 =
        along_walk arcs (λ a. a.to == 1) (λ a. a.from == 1) (λ m. m == 1) (lots o.number) (λ a. turn (a.to == 1) (a.from == 1) (lots o.number)) (way o) 0 1 w.walk in
        omega (arith, whole)

    sink_takes : sum_over arcs (λ a. a.to == 1) brought ≡ sum_over arcs (λ a. a.from == 1) brought + total view.offers lots
    sink_takes =
        by_walks arcs view.offers way (λ o. lots o.number) 0 1 all_walk (λ a. a.to == 1)
        ∙ sum_by-by (Walking arcs way 0 1) (λ o. way_sum arcs (λ a. a.to == 1) (way o) (lots o.number)) (λ o. way_sum arcs (λ a. a.from == 1) (way o) (lots o.number) + lots o.number) view.offers at_sink all_walk
        ∙ sum_by-add (λ o. way_sum arcs (λ a. a.from == 1) (way o) (lots o.number)) (λ o. lots o.number) view.offers
        ∙ ap (λ n. n + total view.offers lots) (sym (by_walks arcs view.offers way (λ o. lots o.number) 0 1 all_walk (λ a. a.from == 1)))

    -- a list that carries what is brought
    module _ (flow : List ℕ) (same : (k : ℕ) → k < length arcs → get_or flow k 0 ≡ brought k) where
      over : (t : Arc → Bool) → sum_over arcs t (λ k. get_or flow k 0) ≡ sum_over arcs t brought
      unfolding sum_over
      over t = sum_places_by (λ k. cond (t (arc_at arcs k)) (get_or flow k 0) 0) (λ k. cond (t (arc_at arcs k)) (brought k) 0) (length arcs) (λ k k_in. ap (λ n. cond (t (arc_at arcs k)) n 0) (same k k_in))

      pub value_is_total : value_of arcs flow ≡ total view.offers lots
      value_is_total = omega (arith, over (λ a. a.to == 1), over (λ a. a.from == 1), sink_takes)

      module _ (within : IsAdmissible view lots) (long : length flow ≡ length arcs) where
        fits : (k : ℕ) → k < length arcs → brought k ≤ (arc_at arcs k).capacity
        fits k k_in =
            let k_room : k < length view.rooms = omega (arith, are.all) in
            let key = (room_at view.rooms k).key in
            let all = under_all key within.offers in
            let room = within.rooms k no_room k_room in
            elim (kind_of view.offers (room_at view.rooms k).lots (arc_at arcs k).capacity key (are.each k k_in).capacity) [
              | inl agreement ↦ omega (arith, brought_is k k_room, all, room, agreement.capacity_is)
              | inr other ↦ omega (arith, brought_is k k_room, room, other.0)
            ]

        pub is_flow_of : IsFlow arcs flow
        is_flow_of = record {
          within = record {
            all = long;
            each = λ k. elim (cases_lt k (length arcs)) [ inl k_in ↦ omega (arith, same k k_in, fits k k_in) | inr past ↦ omega (arith, get_or_past flow k 0 (omega (arith, long))) ];
          };
          kept = λ n not_source not_sink. over (λ a. a.to == n) ∙ loads_kept arcs view.offers way (λ o. lots o.number) 0 1 all_walk n not_source not_sink ∙ sym (over (λ a. a.from == n));
          taken = omega (arith, over (λ a. a.to == 1), over (λ a. a.from == 1), sink_takes);
        }

    -- there is one
    pub flow_of : List ℕ
    flow_of = map brought (places (length arcs))

    pub flow_of-long : length flow_of ≡ length arcs
    unfolding flow_of
    flow_of-long = length-map (places (length arcs)) brought ∙ places_long (length arcs)

    pub flow_of-at : (k : ℕ) → k < length arcs → get_or flow_of k 0 ≡ brought k
    unfolding flow_of
    flow_of-at k k_in = get_or-map brought (places (length arcs)) k 0 0 (omega (arith, k_in, places_long (length arcs))) ∙ ap brought (places_at (length arcs) k k_in)
