-- The shares of a maximum flow and the cut at which its last search stops: right takes, a right cut, and no greater takes.
use Rattle.gu_flow.proofs.Words.{◌≡◌, ◌≢◌, ℕ, ◌+◌, ◌<◌, ◌≤◌, ◌==◌, ◌⊎◌, not, Bool, true, false, cond, List, suc, length, get_or, refl, sym, ◌∙◌, ap, subst, arith, inl, inr, IsTrue, nat_lt, sum_by, AllByRecursion, list_any, and-true, and-false, cases_eq, cases_order, or_left, or_right, eq-eqb, ne_eqb, eqb-true, and_from, get_or_default, All-filter, All-from_get_or, CutLists, has_number, has_key, lots_of, Take, any_key, has_offer, IsRight, Covers, is_covered, room_of, IsNearestCut, IsAdmissible, IsGreatest, IsOldestFirst, IsOldestGreatest, lots_under, total, GroupView, IsView, IsNested, ViewOffer, leads_out, cuts_key, cuts_offers, IsCutBy, arc_at, places, sum_over, IsFlow, IsClosed, no_room, room_at, no_offer, offer_at, way_of, IsOfferOf, AreArcs, IsSound, above_zero, agreement_place, agreement_lots, AreAllShares, Arc, sum_by-add, sum_by-swap, sum_by-agree}
use Rattle.gu_view.proofs.CutBounds.{greatest_by_cut}
use Rattle.gu_flow.proofs.ArcLists.{IsAgreement, kind_of, capacity-le}
use Rattle.gu_flow.proofs.CutMembers.{key_told, offer_told}
use Rattle.gu_flow.proofs.CutTotals.{walk_leads_out, total_is_cut}
use Rattle.gu_flow.proofs.Loads.{agree, Sided}
use Rattle.gu_flow.proofs.ShareLemmas.{share_taken, share_fits, shares_ascend, shares_oldest_first, shares_together, shares_known}
use Rattle.gu_flow.proofs.SomeLots.{above_zero-all, above_zero-lots}
use Rattle.gu_flow.proofs.Sides.{IsLaid, distance, first_left, later_right}
use Rattle.gu_flow.proofs.SumLemmas.{sum_by-by, sum_by_place, sum_places_by, sum_one_place, cond-sum, cond-swap}
use Rattle.gu_flow.proofs.Walks.{Walking, load}
use Rattle.gu_flow.proofs.ViewLoads.{all_walk, brought_is, each_offer, key_on, offer_here, under_agreement, walking}
use Rattle.gu_flow.proofs.OfferWays.{step_at, own_in, under_own, way_stepped, way_on}

module _ (view : GroupView) (sound : IsView view) (nested : IsNested view) (arcs : List Arc) (are : AreArcs view arcs) (flow : List ℕ) (is_flow : IsFlow arcs flow)
    (reached : ℕ → Bool) (from_source : reached 0 ≡ true) (not_to_sink : reached 1 ≡ false) (closed : IsClosed arcs flow reached)
    (takes : List Take) (shares : AreAllShares view flow takes) (cut : CutLists) (cut_is : IsCutBy view reached arcs cut) where
  abbrev way : ViewOffer → List ℕ
  way = way_of view.rooms

  abbrev lots : ViewOffer → ℕ
  lots o = lots_of takes o.number

  abbrev step : ℕ → ℕ
  step = step_at view.rooms

  laid : (k : ℕ) → k < length arcs → IsLaid arcs step k
  laid k k_in =
      let a = are.each k k_in in
      let k_room : k < length view.rooms = omega (arith, are.all) in
      record {
        way = way a.offer;
        stepped = way_stepped view sound nested a.offer a.known;
        on = way_on view sound nested a.offer a.known k k_room (key_on view sound nested arcs are a.offer a.known k k_room a.goes_by);
        from = a.from;
        to = a.to;
      }

  abbrev each : AllByRecursion (Walking arcs way 0 1) view.offers
  each = all_walk view sound nested arcs are

  -- an arc of the middle step is an agreement's, and so is one with less capacity than its room
  agreement_of : (k : ℕ) (k_in : k < length arcs) → (step k ≡ 1) ⊎ ((arc_at arcs k).capacity ≢ (room_at view.rooms k).lots) → IsAgreement view.offers (room_at view.rooms k).lots (arc_at arcs k).capacity (room_at view.rooms k).key
  agreement_of k k_in either = elim (kind_of view.offers (room_at view.rooms k).lots (arc_at arcs k).capacity (room_at view.rooms k).key (are.each k k_in).capacity) [
    | inl agreement ↦ agreement
    | inr other ↦ elim either [ inl is ↦ absurd (other.1 is) | inr less ↦ absurd (less other.0) ]
  ]

  -- the flow through an agreement's arc is what its offers take
  middle : (k : ℕ) → k < length arcs → step k ≡ 1 → get_or flow k 0 ≡ load arcs view.offers way lots 0 1 each k
  middle k k_in is =
      let k_room : k < length view.rooms = omega (arith, are.all) in
      let a = agreement_of k k_in (inl is) in
      let enough : get_or flow k 0 ≤ agreement_lots view.rooms view.offers k = omega (arith, is_flow.within.each k, a.capacity_is, under_agreement view sound nested arcs are (λ o. o.lots) k k_room a.agreement a.is) in
      sym (brought_is view sound nested arcs are (lots_of takes) k k_room ∙ under_agreement view sound nested arcs are lots k k_room a.agreement a.is ∙ shares_together view sound flow takes shares k enough)

  sided : (k : ℕ) → k < length arcs → Sided arcs (λ k. get_or flow k 0) view.offers way lots 0 1 (distance step) each is_flow.kept k
  sided k k_in = elim (cases_order (step k) 1) [
    | inl mid ↦ inl (middle k k_in mid)
    | inr side ↦ elim side [
      | inl first ↦ inr (inl (first_left arcs step laid k k_in (omega arith)))
      | inr late ↦ inr (inr (later_right arcs step laid k k_in late))
    ]
  ]

  -- so each arc's flow is what is taken under its key
  flows_are : (k : ℕ) → k < length arcs → get_or flow k 0 ≡ load arcs view.offers way lots 0 1 each k
  flows_are k k_in = agree arcs (λ k. get_or flow k 0) view.offers way lots 0 1 (distance step) each is_flow.kept sided (suc (distance step k)) k k_in (omega arith)

  pub flow_is_taken : (k : ℕ) → k < length arcs → get_or flow k 0 ≡ lots_under view.offers (room_at view.rooms k).key (lots_of takes)
  flow_is_taken k k_in = flows_are k k_in ∙ brought_is view sound nested arcs are (lots_of takes) k (omega (arith, are.all))

  pub admissible : IsAdmissible view (lots_of takes)
  admissible = record {
    offers = All-from_get_or (λ o. lots o ≤ o.lots) view.offers no_offer (share_fits view sound flow takes shares);
    rooms = All-from_get_or (λ r. lots_under view.offers r.key (lots_of takes) ≤ r.lots) view.rooms no_room (λ k k_in.
        let k_arc : k < length arcs = omega (arith, are.all) in
        omega (arith, brought_is view sound nested arcs are (lots_of takes) k k_in, flows_are k k_arc, is_flow.within.each k, capacity-le view.offers (room_at view.rooms k).lots _ (room_at view.rooms k).key (are.each k k_arc).capacity));
  }

  pub oldest_first : IsOldestFirst view (lots_of takes)
  oldest_first i j d before j_in same some =
      let i_in : i < length view.offers = omega arith in
      let at_i : get_or view.offers i d ≡ offer_at view.offers i = get_or_default view.offers i d no_offer i_in in
      let at_j : get_or view.offers j d ≡ offer_at view.offers j = get_or_default view.offers j d no_offer j_in in
      let agreements : (offer_at view.offers i).agreement ≡ (offer_at view.offers j).agreement = ap (λ (o : ViewOffer). o.agreement) (sym at_i) ∙ same ∙ ap (λ (o : ViewOffer). o.agreement) at_j in
      let takes_some = subst (λ n. 0 < n) (ap lots at_j ∙ share_taken view sound flow takes shares j j_in) some in
      ap lots at_i ∙ share_taken view sound flow takes shares i i_in ∙ shares_oldest_first view sound flow takes shares i j before j_in agreements takes_some ∙ ap (λ (o : ViewOffer). o.lots) (sym at_i)

  -- if an offer's way leads out, its key is cut, or the offer itself
  covered : (o : ViewOffer) → IsOfferOf view o → is_covered cut o ≡ true
  covered o h =
      let out = walk_leads_out arcs reached (way o) 0 1 (walking view sound nested arcs are o h).walk from_source not_to_sink in
      let k = out.place in
      let k_in : k < length view.rooms = omega (arith, out.place_in, are.all) in
      let on = key_on view sound nested arcs are o h k k_in out.on_way in
      elim (cases_eq (arc_at arcs k).capacity (room_at view.rooms k).lots) [
        | inl same ↦ or_right (has_number cut.offers o.number) (list_any (has_key cut.keys) o.path)
            (any_key (has_key cut.keys) (room_at view.rooms k).key o.path on (key_told view reached arcs cut cut_is k k_in ∙ and_from (leads_out reached (arc_at arcs k)) ((arc_at arcs k).capacity == (room_at view.rooms k).lots) out.out (eq-eqb (arc_at arcs k).capacity (room_at view.rooms k).lots same)))
        | inr other ↦
            let s = agreement_of k out.place_in (inr other) in
            let own : agreement_place view.rooms o ≡ k = eqb-true (agreement_place view.rooms o) k (sym (under_own view sound nested o h k k_in s.agreement s.is) ∙ on) in
            or_left (has_number cut.offers o.number) (list_any (has_key cut.keys) o.path)
            (offer_told view reached arcs cut cut_is o h ∙ ap (cuts_offers reached arcs view.rooms) own
            ∙ and_from (leads_out reached (arc_at arcs k)) (not ((arc_at arcs k).capacity == (room_at view.rooms k).lots)) out.out (ap not (ne_eqb (arc_at arcs k).capacity (room_at view.rooms k).lots other)))
      ]

  pub covers : Covers view cut
  covers i d inside = covered (get_or view.offers i d) (offer_here view sound nested arcs are i d inside)

  -- the capacity of an arc that leads out counts as its key's room or as its offers' lots
  part : (k : ℕ) → k < length arcs → cond (leads_out reached (arc_at arcs k)) (arc_at arcs k).capacity 0
      ≡ cond (cuts_key reached arcs view.rooms k) (room_at view.rooms k).lots 0 + cond (cuts_offers reached arcs view.rooms k) (agreement_lots view.rooms view.offers k) 0
  part k k_in =
      let k_room : k < length view.rooms = omega (arith, are.all) in
      let room = (room_at view.rooms k).lots in
      let all = agreement_lots view.rooms view.offers k in
      elim (cases_eq (arc_at arcs k).capacity room) [
        | inl same ↦ rw (eq-eqb (arc_at arcs k).capacity room same, and-true, and-false) (ap (λ n. cond (leads_out reached (arc_at arcs k)) n 0) same ∙ omega arith)
        | inr other ↦
            let s = agreement_of k k_in (inr other) in
            let lots : (arc_at arcs k).capacity ≡ all = omega (arith, s.capacity_is, other, under_agreement view sound nested arcs are (λ o. o.lots) k k_room s.agreement s.is) in
            rw (ne_eqb (arc_at arcs k).capacity room other, and-true, and-false) (ap (λ n. cond (leads_out reached (arc_at arcs k)) n 0) lots ∙ omega arith)
      ]

  keys_room : sum_by (λ r. cond (has_key cut.keys r.key) r.lots 0) view.rooms ≡ sum_by (λ k. cond (cuts_key reached arcs view.rooms k) (room_at view.rooms k).lots 0) (places (length arcs))
  keys_room =
      sum_by_place (λ r. cond (has_key cut.keys r.key) r.lots 0) view.rooms no_room
      ∙ sum_places_by (λ k. cond (has_key cut.keys (room_at view.rooms k).key) (room_at view.rooms k).lots 0) (λ k. cond (cuts_key reached arcs view.rooms k) (room_at view.rooms k).lots 0) (length view.rooms)
      (λ k k_in. ap (λ b. cond b (room_at view.rooms k).lots 0) (key_told view reached arcs cut cut_is k k_in))
      ∙ ap (λ n. sum_by (λ k. cond (cuts_key reached arcs view.rooms k) (room_at view.rooms k).lots 0) (places n)) (sym are.all)

  offers_room : sum_by (λ o. cond (has_number cut.offers o.number) o.lots 0) view.offers ≡ sum_by (λ k. cond (cuts_offers reached arcs view.rooms k) (agreement_lots view.rooms view.offers k) 0) (places (length arcs))
  offers_room =
      let w = cuts_offers reached arcs view.rooms in
      let at = agreement_place view.rooms in
      sum_by-by (IsOfferOf view) (λ o. cond (has_number cut.offers o.number) o.lots 0) (λ o. sum_by (λ k. cond (at o == k) (cond (w k) o.lots 0) 0) (places (length arcs))) view.offers
      (λ o h. ap (λ b. cond b o.lots 0) (offer_told view reached arcs cut cut_is o h) ∙ sym (sum_one_place (λ k. cond (w k) o.lots 0) (length arcs) (at o) (omega (arith, own_in view sound nested o h, are.all)))) (each_offer view sound nested arcs are)
      ∙ sum_by-swap (λ (o : ViewOffer) k. cond (at o == k) (cond (w k) o.lots 0) 0) view.offers (places (length arcs))
      ∙ sum_by-agree (λ k. sum_by (λ (o : ViewOffer). cond (at o == k) (cond (w k) o.lots 0) 0) view.offers) (λ k. cond (w k) (agreement_lots view.rooms view.offers k) 0) (places (length arcs))
      (λ k. sum_by-agree (λ (o : ViewOffer). cond (at o == k) (cond (w k) o.lots 0) 0) (λ (o : ViewOffer). cond (w k) (cond (at o == k) o.lots 0) 0) view.offers (λ o. cond-swap (at o == k) (w k) o.lots)
      ∙ sym (cond-sum (w k) (λ (o : ViewOffer). cond (at o == k) o.lots 0) view.offers))

  -- so the cut's room equals the lots taken
  pub room_is_total : room_of view cut ≡ total view.offers (lots_of takes)
  unfolding sum_over
  room_is_total =
      let n = places (length arcs) in
      let all = total_is_cut arcs view.offers way lots 0 1 each reached from_source not_to_sink flow flows_are is_flow.within closed in
      let split : sum_by (λ k. cond (leads_out reached (arc_at arcs k)) (arc_at arcs k).capacity 0) n
      ≡ sum_by (λ k. cond (cuts_key reached arcs view.rooms k) (room_at view.rooms k).lots 0) n + sum_by (λ k. cond (cuts_offers reached arcs view.rooms k) (agreement_lots view.rooms view.offers k) 0) n =
      sum_places_by (λ k. cond (leads_out reached (arc_at arcs k)) (arc_at arcs k).capacity 0)
      (λ k. cond (cuts_key reached arcs view.rooms k) (room_at view.rooms k).lots 0 + cond (cuts_offers reached arcs view.rooms k) (agreement_lots view.rooms view.offers k) 0) (length arcs) part
      ∙ sum_by-add (λ k. cond (cuts_key reached arcs view.rooms k) (room_at view.rooms k).lots 0) (λ k. cond (cuts_offers reached arcs view.rooms k) (agreement_lots view.rooms view.offers k) 0) n in
      omega (arith, keys_room, offers_room, all, split)

  pub right : IsRight view takes cut (total view.offers (lots_of takes))
  right = record {
    takes_known = shares_known view sound flow takes shares;
    keys_known = cut_is.keys.known;
    offers_known = cut_is.offers.known;
    admissible = admissible;
    oldest_first = oldest_first;
    covers = covers;
    taken = refl;
    room = room_is_total;
  }

  pub greatest : IsGreatest view (lots_of takes)
  greatest = greatest_by_cut view cut (lots_of takes) sound admissible covers (sym room_is_total)

  -- the takes above 0 take what all do
  same : lots_of (above_zero takes) ≡ lots_of takes
  same = above_zero-lots takes (shares_ascend view sound flow takes shares)

  right_above_zero : IsRight view (above_zero takes) cut (total view.offers (lots_of takes))
  right_above_zero = record {
    takes_known = All-filter (λ t. nat_lt 0 t.lots) (λ t. IsTrue (has_offer view.offers t.offer)) takes right.takes_known;
    keys_known = right.keys_known;
    offers_known = right.offers_known;
    admissible = subst (IsAdmissible view) (sym same) right.admissible;
    oldest_first = subst (IsOldestFirst view) (sym same) right.oldest_first;
    covers = right.covers;
    taken = ap (total view.offers) same;
    room = right.room;
  }

  -- altogether: takes and cut are right, and the takes are greatest
  pub certified : (named : List Take) → named ≡ above_zero takes → (n : ℕ) → n ≡ total view.offers (lots_of takes) → IsOldestGreatest view (lots_of takes) → IsNearestCut view cut → IsSound (record { view = view; takes = named; cut = cut; lots = n })
  certified named are n is oldest nearest =
      rw (are, is) (record {
        of_view = sound;
        right = right_above_zero;
        named = above_zero-all takes;
        oldest = subst (IsOldestGreatest view) (sym same) oldest;
        nearest = nearest;
      })
