-- Shares of the offers under an agreement: oldest first, and equal to the flow in total.
use Rattle.gu_flow.proofs.Words.{◌≡◌, ℕ, ◌+◌, ◌-◌, ◌<◌, ◌≤◌, ◌==◌, min, true, cond, List, [], ◌∷◌, ◌++◌, zero, suc, length, take, set, get_or, refl, sym, ◌∙◌, ap, subst, arith, inl, inr, length-append, add-one, Some, All, unwrap_or, sum_by, IsTrue, find, option_map, get_or-append, cases_eq, cases_lt, eq-eqb, ne_eqb, cond-true, cond-false, get_or_default, take_all, All-from_get_or, list_any_at, sum_by_more, sum_by-take-le, sum_by-le, IsAscending, lots_of, Agr, Take, has_offer, total, GroupView, IsView, place_of, ViewOffer, places, no_offer, offer_at, agreement_place, agreement_lots, share_of, no_take, take_at, above_zero, AreSharesBefore, AreAllShares}
use Rattle.std.proofs.Common.{length-set}
use Rattle.std.proofs.Math.Seq.{get_or-append_seam}
use Rattle.gu_flow.proofs.SumLemmas.{sum_by_place, sum_places_by, at_set}

module _ (view : GroupView) (flow : List ℕ) where
  -- what remains on each agreement's arc for its later offers
  pub record IsSharing (takes : List Take) (rests : List ℕ) (i : ℕ) : Type 0 where
    pub shares : AreSharesBefore view flow takes i
    pub size : length rests ≡ length view.rooms
    pub left : (p : ℕ) → get_or rests p 0 ≡ get_or flow p 0 - agreement_lots view.rooms (take i view.offers) p

  -- one more offer takes its share
  pub one_more_share : (takes : List Take) (rests : List ℕ) (i place lots : ℕ) → i < length view.offers → IsSharing takes rests i → place ≡ agreement_place view.rooms (offer_at view.offers i) → place < length rests
      → lots ≡ min (offer_at view.offers i).lots (get_or rests place 0)
      → IsSharing (takes ++ record { offer = (offer_at view.offers i).number; lots = lots } ∷ []) (set rests place (get_or rests place 0 - lots)) (i + 1)
  one_more_share takes rests i place lots inside h at within is =
      let o = offer_at view.offers i in
      let t : Take = record { offer = o.number; lots = lots } in
      let share : lots ≡ share_of flow view.rooms (take i view.offers) o = is ∙ ap (min o.lots) (h.left place) ∙ ap (λ p. min o.lots (get_or flow p 0 - agreement_lots view.rooms (take i view.offers) p)) at in
      record {
        shares = record {
          all = omega (arith, length-append takes (t ∷ []), h.shares.all);
          each = λ k k_in. elim (cases_lt k i) [
            | inl earlier ↦ get_or-append takes (t ∷ []) no_take k (omega (arith, h.shares.all)) ∙ h.shares.each k earlier
            | inr later ↦
                let last : k ≡ i = omega arith in
                let end : k ≡ length takes = omega (arith, h.shares.all) in
                ap (take_at (takes ++ t ∷ [])) end ∙ get_or-append_seam takes t [] no_take
                ∙ ap (λ n. record { offer = o.number; lots = n }) share
                ∙ ap (λ j. record { offer = (offer_at view.offers j).number; lots = share_of flow view.rooms (take j view.offers) (offer_at view.offers j) }) (sym last)
          ];
        };
        size = length-set rests place (get_or rests place 0 - lots) ∙ h.size;
        left =
            let so_far : (p : ℕ) → agreement_lots view.rooms (take (i + 1) view.offers) p ≡ agreement_lots view.rooms (take i view.offers) p + cond (agreement_place view.rooms o == p) o.lots 0 =
            λ p. sum_by_more (λ (o : ViewOffer). cond (agreement_place view.rooms o == p) o.lots 0) view.offers i no_offer inside in
            at_set (λ p n. n ≡ get_or flow p 0 - agreement_lots view.rooms (take (i + 1) view.offers) p) rests place (get_or rests place 0 - lots) 0 within
            (omega (arith, h.left place, so_far place, cond-true (agreement_place view.rooms o == place) o.lots 0 (eq-eqb (agreement_place view.rooms o) place (sym at))))
            (λ p other. omega (arith, h.left p, so_far p, cond-false (agreement_place view.rooms o == p) o.lots 0 (ne_eqb (agreement_place view.rooms o) p (λ e. other (sym e ∙ sym at)))));
      }

-- the takes so far are the shares above 0
pub record IsSharingOut (view : GroupView) (flow : List ℕ) (takes : List Take) (rests : List ℕ) (i : ℕ) : Type 0 where
  pub shares : List Take
  pub sharing : IsSharing view flow shares rests i
  pub named : takes ≡ above_zero shares

-- the take of an offer is found by its number
find_take : (takes : List Take) (k : ℕ) → k < length takes → IsAscending takes → find (λ (t : Take). t.offer == (take_at takes k).offer) takes ≡ Some (take_at takes k)
find_take [] k k_in ascending = absurd (omega arith)
find_take (t ∷ takes) zero k_in ascending = cond-true (t.offer == t.offer) (Some t) (find (λ (u : Take). u.offer == t.offer) takes) (eq-eqb t.offer t.offer refl)
find_take (t ∷ takes) (suc k) k_in ascending =
    let below : t.offer < (take_at takes k).offer = ascending 0 (suc k) no_take (omega arith) k_in in
    cond-false (t.offer == (take_at takes k).offer) (Some t) (find (λ (u : Take). u.offer == (take_at takes k).offer) takes) (ne_eqb t.offer (take_at takes k).offer (λ e. absurd (omega arith)))
    ∙ find_take takes k (omega arith) (λ i j e before j_in. ascending (suc i) (suc j) e (omega arith) (omega arith))

-- a longer prefix of a list has at least the sum of a shorter one
front : {X : Type 0} (xs : List X) (i j : ℕ) → i ≤ j → take i (take j xs) ≡ take i xs
front xs zero j h = refl
front xs (suc i) zero h = absurd (omega arith)
front [] (suc i) (suc j) h = refl
front (x ∷ xs) (suc i) (suc j) h = ap (λ ys. x ∷ ys) (front xs i j (omega arith))

front-le : {X : Type 0} (f : X → ℕ) (xs : List X) (i j : ℕ) → i ≤ j → sum_by f (take i xs) ≤ sum_by f (take j xs)
front-le f xs i j h = subst (λ ys. sum_by f ys ≤ sum_by f (take j xs)) (front xs i j h) (sum_by-take-le f (take j xs) i)

module _ (view : GroupView) (sound : IsView view) (flow : List ℕ) (takes : List Take) (shares : AreAllShares view flow takes) where
  abbrev share_at : ℕ → ℕ
  share_at i = share_of flow view.rooms (take i view.offers) (offer_at view.offers i)

  -- the takes ascend, as the offers do
  pub shares_ascend : IsAscending takes
  shares_ascend i j d before j_in =
      let at : (k : ℕ) → k < length takes → (get_or takes k d).offer ≡ (offer_at view.offers k).number = λ k k_in. ap (λ (t : Take). t.offer) (get_or_default takes k d no_take k_in ∙ shares.each k (omega (arith, shares.all))) in
      omega (arith, at i (omega arith), at j j_in, sound.ascending i j no_offer before (omega (arith, shares.all)))

  -- so each offer takes its share
  pub share_taken : (i : ℕ) → i < length view.offers → lots_of takes (offer_at view.offers i).number ≡ share_at i
  share_taken i inside =
      let is = shares.each i inside in
      ap (lots_of takes) (sym (ap (λ (t : Take). t.offer) is))
      ∙ ap (λ m. unwrap_or (option_map (λ (t : Take). t.lots) m) 0) (find_take takes i (omega (arith, shares.all)) shares_ascend)
      ∙ ap (λ (t : Take). t.lots) is

  pub share_fits : (i : ℕ) → i < length view.offers → lots_of takes (offer_at view.offers i).number ≤ (offer_at view.offers i).lots
  share_fits i inside = omega (arith, share_taken i inside)

  -- of two offers under one agreement, the later takes only if the earlier takes all
  pub shares_oldest_first : (i j : ℕ) → i < j → j < length view.offers → (offer_at view.offers i).agreement ≡ (offer_at view.offers j).agreement → 0 < share_at j → share_at i ≡ (offer_at view.offers i).lots
  shares_oldest_first i j before j_in same some =
      let p = agreement_place view.rooms (offer_at view.offers j) in
      let f : ViewOffer → ℕ = λ o. cond (agreement_place view.rooms o == p) o.lots 0 in
      let place : agreement_place view.rooms (offer_at view.offers i) ≡ p = ap (λ a. place_of view.rooms (Agr a)) same in
      let until : sum_by f (take (i + 1) view.offers) ≤ sum_by f (take j view.offers) = front-le f view.offers (i + 1) j (omega arith) in
      let here : sum_by f (take (i + 1) view.offers) ≡ sum_by f (take i view.offers) + f (offer_at view.offers i) = sum_by_more f view.offers i no_offer (omega arith) in
      let lots : f (offer_at view.offers i) ≡ (offer_at view.offers i).lots = cond-true (agreement_place view.rooms (offer_at view.offers i) == p) (offer_at view.offers i).lots 0 (eq-eqb (agreement_place view.rooms (offer_at view.offers i)) p place) in
      let left : share_at i ≡ min (offer_at view.offers i).lots (get_or flow p 0 - sum_by f (take i view.offers)) =
      ap (λ q. min (offer_at view.offers i).lots (get_or flow q 0 - agreement_lots view.rooms (take i view.offers) q)) place in
      omega (arith, left, until, here, lots)

  -- the offers under an agreement together take the flow, if they have that much
  pub shares_so_far : (p n : ℕ) → n ≤ length view.offers → sum_by (λ (o : ViewOffer). cond (agreement_place view.rooms o == p) (lots_of takes o.number) 0) (take n view.offers) ≡ min (get_or flow p 0) (agreement_lots view.rooms (take n view.offers) p)
  shares_so_far p zero h = omega arith
  shares_so_far p (suc n) h =
      let o = offer_at view.offers n in
      let f : ViewOffer → ℕ = λ o. cond (agreement_place view.rooms o == p) o.lots 0 in
      let g : ViewOffer → ℕ = λ o. cond (agreement_place view.rooms o == p) (lots_of takes o.number) 0 in
      let before : sum_by g (take n view.offers) ≡ min (get_or flow p 0) (sum_by f (take n view.offers)) = shares_so_far p n (omega arith) in
      let lots : sum_by f (take (n + 1) view.offers) ≡ sum_by f (take n view.offers) + f o = sum_by_more f view.offers n no_offer (omega arith) in
      let given : sum_by g (take (n + 1) view.offers) ≡ sum_by g (take n view.offers) + g o = sum_by_more g view.offers n no_offer (omega arith) in
      let step : sum_by g (take n view.offers) + g o ≡ min (get_or flow p 0) (sum_by f (take n view.offers) + f o) =
      elim (cases_eq (agreement_place view.rooms o) p) [
        | inl hit ↦
            let here : lots_of takes o.number ≡ min o.lots (get_or flow p 0 - sum_by f (take n view.offers)) =
            share_taken n (omega arith) ∙ ap (λ q. min o.lots (get_or flow q 0 - agreement_lots view.rooms (take n view.offers) q)) hit in
            let g_is : g o ≡ lots_of takes o.number = cond-true (agreement_place view.rooms o == p) (lots_of takes o.number) 0 (eq-eqb (agreement_place view.rooms o) p hit) in
            let f_is : f o ≡ o.lots = cond-true (agreement_place view.rooms o == p) o.lots 0 (eq-eqb (agreement_place view.rooms o) p hit) in
            omega arith
        | inr miss ↦
            let g_is : g o ≡ 0 = cond-false (agreement_place view.rooms o == p) (lots_of takes o.number) 0 (ne_eqb (agreement_place view.rooms o) p miss) in
            let f_is : f o ≡ 0 = cond-false (agreement_place view.rooms o == p) o.lots 0 (ne_eqb (agreement_place view.rooms o) p miss) in
            omega arith
      ] in
      rw (← add-one) (omega (arith, lots, given, step))

  pub shares_together : (p : ℕ) → get_or flow p 0 ≤ agreement_lots view.rooms view.offers p → sum_by (λ (o : ViewOffer). cond (agreement_place view.rooms o == p) (lots_of takes o.number) 0) view.offers ≡ get_or flow p 0
  shares_together p enough =
      let whole : take (length view.offers) view.offers ≡ view.offers = take_all (length view.offers) view.offers (omega arith) in
      let all = shares_so_far p (length view.offers) (omega arith) in
      let is : sum_by (λ (o : ViewOffer). cond (agreement_place view.rooms o == p) (lots_of takes o.number) 0) view.offers ≡ min (get_or flow p 0) (agreement_lots view.rooms view.offers p) = rw whole at all in
      omega arith

  -- the takes name only offers of the view
  pub shares_known : All (λ t. IsTrue (has_offer view.offers t.offer)) takes
  shares_known = All-from_get_or (λ t. IsTrue (has_offer view.offers t.offer)) takes no_take (λ k k_in.
      let inside : k < length view.offers = omega (arith, shares.all) in
      let is : (take_at takes k).offer ≡ (offer_at view.offers k).number = ap (λ (t : Take). t.offer) (shares.each k inside) in
      subst (λ n. has_offer view.offers n ≡ true) (sym is) (list_any_at (λ o. o.number == (offer_at view.offers k).number) view.offers k no_offer inside (eq-eqb (offer_at view.offers k).number (offer_at view.offers k).number refl)))

  -- and their lots are the total
  pub shares_total : sum_by (λ (t : Take). t.lots) takes ≡ total view.offers (lots_of takes)
  shares_total =
      sum_by_place (λ (t : Take). t.lots) takes no_take
      ∙ ap (λ n. sum_by (λ k. (take_at takes k).lots) (places n)) shares.all
      ∙ sum_places_by (λ k. (take_at takes k).lots) (λ k. lots_of takes (offer_at view.offers k).number) (length view.offers) (λ k k_in. ap (λ (t : Take). t.lots) (shares.each k k_in) ∙ sym (share_taken k k_in))
      ∙ sym (sum_by_place (λ (o : ViewOffer). lots_of takes o.number) view.offers no_offer)

  -- the total is below 2^64
  pub shares_fit : sum_by (λ (t : Take). t.lots) takes ≤ 4096000000
  shares_fit =
      let all = sum_by-le (λ (o : ViewOffer). lots_of takes o.number) 1000000 view.offers (All-from_get_or (λ o. lots_of takes o.number ≤ 1000000) view.offers no_offer (λ i inside. omega (arith, share_fits i inside, (sound.lots i no_offer inside).most))) in
      omega (arith, all, sound.few, shares_total)
