-- The oldest flow gives the unique choice: greatest, and oldest first over the group.
use Rattle.gu_flow.proofs.Words.{◌≡◌, ℕ, ◌+◌, ◌<◌, ◌≤◌, ◌==◌, Bool, true, false, cond, List, zero, suc, length, take, get_or, refl, sym, ◌∙◌, ap, subst, arith, inl, inr, add-one, sum_by, cases_Bool, cases_lt, eq-eqb, eqb-true, cond-true, get_or_default, sum_by_more, sum_by-take-le, along, sum_by-mono, sum_by-zeros, has_key, lots_of, Agr, Take, key_at_place, AgreeOnOlder, IsGreatest, IsOldestGreatest, lots_under, GroupView, IsView, IsNested, ViewOffer, IsFlow, value_of, no_room, room_at, no_offer, offer_at, IsOfferOf, AreArcs, got_before, IsOldestFlow, agreement_place, agreement_lots, AreAllShares, Arc}
use Rattle.gu_flow.proofs.OfferWays.{own_in, under_own}
use Rattle.gu_flow.proofs.ShareLemmas.{shares_so_far}
use Rattle.gu_flow.proofs.ViewLoads.{offer_here, each_offer, brought_is, value_is_total, is_flow_of, flow_of, flow_of-long, flow_of-at}

-- sums over the first elements, term by term
front_by : {X : Type 0} (f g : X → ℕ) (xs : List X) (d : X) (n : ℕ) → n ≤ length xs → ((j : ℕ) → j < n → f (get_or xs j d) ≡ g (get_or xs j d)) → sum_by f (take n xs) ≡ sum_by g (take n xs)
front_by f g xs d zero n_in same = refl
front_by f g xs d (suc n) n_in same =
    rw (← add-one) (omega (arith, sum_by_more f xs n d (omega arith), sum_by_more g xs n d (omega arith), same n (omega arith), front_by f g xs d n (omega arith) (λ j j_in. same j (omega arith))))

front_le : {X : Type 0} (f g : X → ℕ) (xs : List X) (d : X) (n : ℕ) → n ≤ length xs → ((j : ℕ) → j < n → f (get_or xs j d) ≤ g (get_or xs j d)) → sum_by f (take n xs) ≤ sum_by g (take n xs)
front_le f g xs d zero n_in less = omega arith
front_le f g xs d (suc n) n_in less =
    rw (← add-one) (omega (arith, sum_by_more f xs n d (omega arith), sum_by_more g xs n d (omega arith), less n (omega arith), front_le f g xs d n (omega arith) (λ j j_in. less j (omega arith))))

part_le : (b : Bool) (n m : ℕ) → n ≤ m → cond b n 0 ≤ cond b m 0
part_le true n m h = h
part_le false n m h = omega arith

implied : (b c : Bool) (x : ℕ) → (b ≡ true → c ≡ true) → cond b x 0 ≤ cond c x 0
implied true true x h = omega arith
implied true false x h = let no : false ≡ true = h refl in cc
implied false c x h = omega arith

module _ (view : GroupView) (sound : IsView view) (nested : IsNested view) (arcs : List Arc) (are : AreArcs view arcs) (flow : List ℕ) (takes : List Take) (shares : AreAllShares view flow takes)
    (flow_is_taken : (k : ℕ) → k < length arcs → get_or flow k 0 ≡ lots_under view.offers (room_at view.rooms k).key (lots_of takes)) (oldest_flow : IsOldestFlow view arcs flow) (best : IsGreatest view (lots_of takes)) where
  -- the lots of an agreement's offers, by the index of its room
  abbrev at : (ViewOffer → ℕ) → ℕ → ViewOffer → ℕ
  at f p o = cond (agreement_place view.rooms o == p) (f o) 0

  own_key : (o : ViewOffer) → IsOfferOf view o → (p : ℕ) → p < length view.rooms → agreement_place view.rooms o == p ≡ true → has_key o.path (room_at view.rooms p).key ≡ true
  own_key o h p p_in here =
      let is : agreement_place view.rooms o ≡ p = eqb-true (agreement_place view.rooms o) p here in
      let key : (room_at view.rooms p).key ≡ Agr o.agreement = ap (λ q. (room_at view.rooms q).key) (sym is) ∙ key_at_place view.rooms (Agr o.agreement) no_room (own_in view sound nested o h) in
      under_own view sound nested o h p p_in o.agreement key ∙ here

  module _ (others : ℕ → ℕ) (theirs : IsGreatest view others) (i : ℕ) (i_in : i < length view.offers) (older : AgreeOnOlder view.offers (offer_at view.offers i) others (lots_of takes)) where
    abbrev mine : ViewOffer → ℕ
    mine o = lots_of takes o.number

    abbrev yours : ViewOffer → ℕ
    yours o = others o.number

    abbrev g : List ℕ
    g = flow_of view sound nested arcs are others

    abbrev k : ℕ
    k = agreement_place view.rooms (offer_at view.offers i)

    k_in : k < length view.rooms
    k_in = own_in view sound nested (offer_at view.offers i) (offer_here view sound nested arcs are i no_offer i_in)

    g_flow : IsFlow arcs g
    g_flow = is_flow_of view sound nested arcs are others g (flow_of-at view sound nested arcs are others) theirs.admissible (flow_of-long view sound nested arcs are others)

    g_value : value_of arcs g ≡ value_of arcs flow
    g_value =
        let theirs_is = value_is_total view sound nested arcs are others g (flow_of-at view sound nested arcs are others) in
        let mine_is = value_is_total view sound nested arcs are (lots_of takes) flow (λ k k_in. flow_is_taken k k_in ∙ sym (brought_is view sound nested arcs are (lots_of takes) k (omega (arith, are.all)))) in
        omega (arith, theirs_is, mine_is, best.greatest others theirs.admissible, theirs.greatest (lots_of takes) best.admissible)

    -- the lots that an agreement's offers get are at most the flow through its arc
    under : (p : ℕ) → p < length view.rooms → (n : ℕ) → sum_by (at yours p) (take n view.offers) ≤ get_or g p 0
    under p p_in n =
        let all : sum_by (at yours p) view.offers ≤ lots_under view.offers (room_at view.rooms p).key others =
        sum_by-mono (at yours p) (λ o. cond (has_key o.path (room_at view.rooms p).key) (yours o) 0) view.offers
        (along (IsOfferOf view) (λ o. at yours p o ≤ cond (has_key o.path (room_at view.rooms p).key) (yours o) 0) view.offers
        (λ o h. implied (agreement_place view.rooms o == p) (has_key o.path (room_at view.rooms p).key) (yours o) (own_key o h p p_in)) (each_offer view sound nested arcs are)) in
        omega (arith, all, sum_by-take-le (at yours p) view.offers n, flow_of-at view sound nested arcs are others p (omega (arith, are.all)), brought_is view sound nested arcs are others p p_in)

    before : (p : ℕ) → sum_by (at yours p) (take i view.offers) ≡ sum_by (at mine p) (take i view.offers)
    before p = front_by (at yours p) (at mine p) view.offers no_offer i (omega arith)
        (λ j j_in. ap (λ n. cond (agreement_place view.rooms (offer_at view.offers j) == p) n 0) (older j no_offer (omega arith) (sound.ascending j i no_offer j_in i_in)))

    keeps : (p : ℕ) → got_before view flow i p ≤ get_or g p 0
    keeps p = elim (cases_lt p (length view.rooms)) [
      | inl p_in ↦ omega (arith, shares_so_far view sound flow takes shares p i (omega arith), before p, under p p_in i)
      | inr past ↦
          let none : sum_by (at mine p) (take i view.offers) ≡ sum_by (λ o. 0) (take i view.offers) = front_by (at mine p) (λ o. 0) view.offers no_offer i (omega arith)
          (λ j j_in. elim (cases_Bool (agreement_place view.rooms (offer_at view.offers j) == p)) [
            | inl hit ↦ absurd (omega (arith, own_in view sound nested (offer_at view.offers j) (offer_here view sound nested arcs are j no_offer (omega arith)), eqb-true (agreement_place view.rooms (offer_at view.offers j)) p hit))
            | inr miss ↦ rw miss refl
          ]) in
          omega (arith, shares_so_far view sound flow takes shares p i (omega arith), none, zeros (take i view.offers))
    ]
      where
        zeros : (xs : List ViewOffer) → sum_by (λ (o : ViewOffer). 0) xs ≡ 0
        zeros xs = sum_by-zeros xs

    no_more : others (offer_at view.offers i).number ≤ lots_of takes (offer_at view.offers i).number
    no_more =
        let o = offer_at view.offers i in
        let yours_more : sum_by (at yours k) (take (i + 1) view.offers) ≡ sum_by (at yours k) (take i view.offers) + at yours k o = sum_by_more (at yours k) view.offers i no_offer i_in in
        let mine_more : sum_by (at mine k) (take (i + 1) view.offers) ≡ sum_by (at mine k) (take i view.offers) + at mine k o = sum_by_more (at mine k) view.offers i no_offer i_in in
        let here : (k == k) ≡ true = eq-eqb k k refl in
        let yours_here : at yours k o ≡ yours o = cond-true (k == k) (yours o) 0 here in
        let mine_here : at mine k o ≡ mine o = cond-true (k == k) (mine o) 0 here in
        let most : sum_by (at yours k) (take (i + 1) view.offers) ≤ agreement_lots view.rooms (take (i + 1) view.offers) k =
        front_le (at yours k) (at (λ o. o.lots) k) view.offers no_offer (i + 1) (omega arith)
        (λ j j_in. part_le (agreement_place view.rooms (offer_at view.offers j) == k) (yours (offer_at view.offers j)) (offer_at view.offers j).lots (theirs.admissible.offers j no_offer (omega arith))) in
        let step = oldest_flow.each i i_in g g_flow g_value keeps in
        omega (arith, before k, yours_more, mine_more, yours_here, mine_here, most, under k k_in (i + 1), step, shares_so_far view sound flow takes shares k (i + 1) (omega arith))

  pub oldest_greatest : IsOldestGreatest view (lots_of takes)
  oldest_greatest = record {
    greatest = best;
    oldest = λ others theirs i d i_in older.
        let same : get_or view.offers i d ≡ offer_at view.offers i = get_or_default view.offers i d no_offer i_in in
        subst (λ (o : ViewOffer). others o.number ≤ lots_of takes o.number) (sym same) (no_more others theirs i i_in (subst (λ (o : ViewOffer). AgreeOnOlder view.offers o others (lots_of takes)) same older));
  }
