-- The members of the cut, one after another.
use Rattle.gu_flow.proofs.Words.{◌≡◌, ◌≢◌, ℕ, ◌+◌, ◌<◌, ◌==◌, ◌||◌, ◌&&◌, not, nat_lt, Bool, true, false, cond, List, [], ◌∷◌, ◌++◌, length, refl, sym, ◌∙◌, ap, subst, arith, inl, inr, All, list_any, or-false, and-true, and-false, and-not_self, cases_Bool, cases_eq, cases_lt, cases_order, eq-eqb, ne_eqb, eqb-true, lt-ltb, le-ltb, not-false, and_right, get_or_past, All-push, list_any-append, list_any_at, key_eq-same, key_eq-refl, CutLists, has_number, key_eq, has_key, LimitKey, GroupView, IsView, Room, ViewOffer, leads_out, cuts_key, cuts_offers, AreCut, AreKeysCut, AreNoOffersCut, AreOffersCut, IsCutBy, no_arc, arc_at, no_offer, offer_at, no_room, room_at, IsOfferOf, agreement_place, Arc}
use Rattle.gu_view.proofs.RoomLemmas.{apart}

-- what is cut before the next index
next_place : (n i : ℕ) (cuts old new : ℕ → Bool) → ((k : ℕ) → k < n → old k ≡ (nat_lt k i && cuts k)) → ((k : ℕ) → k < n → new k ≡ (old k || ((i == k) && cuts i)))
    → (k : ℕ) → k < n → new k ≡ (nat_lt k (i + 1) && cuts k)
next_place n i cuts old new before adds k k_in = elim (cases_eq i k) [
  | inl same ↦ adds k k_in ∙ rw (before k k_in, le-ltb k i (omega arith), eq-eqb i k same, lt-ltb k (i + 1) (omega arith)) (ap cuts same)
  | inr other ↦
      let until : nat_lt k (i + 1) ≡ nat_lt k i = elim (cases_lt k i) [
        | inl earlier ↦ lt-ltb k (i + 1) (omega arith) ∙ sym (lt-ltb k i earlier)
        | inr later ↦ le-ltb k (i + 1) (omega arith) ∙ sym (le-ltb k i (omega arith))
      ] in
      adds k k_in ∙ ap (λ b. old k || (b && cuts i)) (ne_eqb i k other) ∙ or-false (old k) ∙ before k k_in ∙ ap (λ b. b && cuts k) (sym until)
]

none_added : (b c : Bool) → c ≡ false → b ≡ (b || c)
none_added true c none = refl
none_added false c none = sym none

module _ {X : Type 0} (eq : X → X → Bool) (same : (a b : X) → eq a b ≡ true → a ≡ b) where
  -- after a new member is added, it is there in any case
  added_member : (xs new : List X) (x : X) (added : Bool) → added ≡ not (list_any (λ y. eq y x) xs) → new ≡ cond added (xs ++ x ∷ []) xs → (y : X) → list_any (λ z. eq z y) new ≡ (list_any (λ z. eq z y) xs || eq x y)
  added_member xs new x true told is y = ap (list_any (λ z. eq z y)) is ∙ list_any-append (λ z. eq z y) xs (x ∷ []) ∙ ap (λ b. list_any (λ z. eq z y) xs || b) (or-false (eq x y))
  added_member xs new x false told is y =
      let there : list_any (λ z. eq z x) xs ≡ true = not-false (list_any (λ z. eq z x) xs) (sym told) in
      ap (list_any (λ z. eq z y)) is ∙ elim (cases_Bool (eq x y)) [
        | inl hit ↦ let here : list_any (λ z. eq z y) xs ≡ true = ap (λ w. list_any (λ z. eq z w) xs) (sym (same x y hit)) ∙ there in rw here refl
        | inr miss ↦ none_added (list_any (λ z. eq z y) xs) (eq x y) miss
      ]

module _ {X : Type 0} {eq : X → X → Bool} {is_known : X → Bool} {name : ℕ → X} {cuts : ℕ → Bool} {names : ℕ} {members : List X} {i : ℕ} (h : AreCut eq is_known name cuts names members i) where
  -- if the next isn't cut, nothing is added
  pub none_cut : cuts i ≡ false → AreCut eq is_known name cuts names members (i + 1)
  none_cut none = record {
    exact = next_place names i cuts (λ k. list_any (λ x. eq x (name k)) members) (λ k. list_any (λ x. eq x (name k)) members) h.exact (λ k k_in. none_added _ ((i == k) && cuts i) (and_right (i == k) (cuts i) none));
    known = h.known;
  }

  -- if it is cut, it is added unless it was there
  one_cut : ((a b : X) → eq a b ≡ true → a ≡ b) → ((k : ℕ) → k < names → eq (name i) (name k) ≡ (i == k)) → is_known (name i) ≡ true → cuts i ≡ true
      → (new : List X) (added : Bool) → added ≡ not (list_any (λ x. eq x (name i)) members) → new ≡ cond added (members ++ name i ∷ []) members → AreCut eq is_known name cuts names new (i + 1)
  one_cut same own known_here cut new added told is = record {
    exact = next_place names i cuts (λ k. list_any (λ x. eq x (name k)) members) (λ k. list_any (λ x. eq x (name k)) new) h.exact
        (λ k k_in. added_member eq same members new (name i) added told is (name k) ∙ ap (λ b. list_any (λ x. eq x (name k)) members || b) (own k k_in ∙ rw cut (sym (and-true (i == k)))));
    known = all added is;
  }
    where
      all : (added : Bool) → new ≡ cond added (members ++ name i ∷ []) members → All (λ x. is_known x ≡ true) new
      all true is = rw is (All-push (λ x. is_known x ≡ true) members (name i) h.known known_here)
      all false is = rw is h.known

module _ (view : GroupView) (sound : IsView view) (reached : ℕ → Bool) (arcs : List Arc) where
  own_key : (i k : ℕ) → i < length view.rooms → k < length view.rooms → key_eq (room_at view.rooms i).key (room_at view.rooms k).key ≡ (i == k)
  own_key i k i_in k_in = elim (cases_eq i k) [
    | inl same ↦ ap (λ j. key_eq (room_at view.rooms i).key (room_at view.rooms j).key) (sym same) ∙ key_eq-refl (room_at view.rooms i).key ∙ sym (eq-eqb i k same)
    | inr other ↦ apart view sound i k no_room i_in k_in other ∙ sym (ne_eqb i k other)
  ]

  own_number : (i k : ℕ) → i < length view.offers → k < length view.offers → ((offer_at view.offers i).number == (offer_at view.offers k).number) ≡ (i == k)
  own_number i k i_in k_in = elim (cases_order i k) [
    | inl same ↦ eq-eqb (offer_at view.offers i).number (offer_at view.offers k).number (ap (λ j. (offer_at view.offers j).number) same) ∙ sym (eq-eqb i k same)
    | inr apart ↦
        let differ : (offer_at view.offers i).number ≢ (offer_at view.offers k).number = λ e. elim apart [
          | inl before ↦ absurd (omega (arith, sound.ascending i k no_offer before k_in))
          | inr after ↦ absurd (omega (arith, sound.ascending k i no_offer after i_in))
        ] in
        ne_eqb (offer_at view.offers i).number (offer_at view.offers k).number differ ∙ sym (ne_eqb i k (λ e. absurd (omega arith)))
  ]

  -- the key of the next room
  pub key_cut : (keys new : List LimitKey) (i : ℕ) (added : Bool) → i < length view.rooms → AreKeysCut view reached arcs keys i → cuts_key reached arcs view.rooms i ≡ true
      → added ≡ not (has_key keys (room_at view.rooms i).key) → new ≡ cond added (keys ++ (room_at view.rooms i).key ∷ []) keys → AreKeysCut view reached arcs new (i + 1)
  key_cut keys new i added inside h cut =
      one_cut h key_eq-same (λ k. own_key i k inside) (list_any_at (λ r. key_eq r.key (room_at view.rooms i).key) view.rooms i no_room inside (key_eq-refl (room_at view.rooms i).key)) cut new added

  -- the number of the next offer
  pub offer_cut : (numbers new : List ℕ) (i : ℕ) (added : Bool) → i < length view.offers → AreOffersCut view reached arcs numbers i
      → cuts_offers reached arcs view.rooms (agreement_place view.rooms (offer_at view.offers i)) ≡ true
      → added ≡ not (has_number numbers (offer_at view.offers i).number) → new ≡ cond added (numbers ++ (offer_at view.offers i).number ∷ []) numbers → AreOffersCut view reached arcs new (i + 1)
  offer_cut numbers new i added inside h cut =
      one_cut h eqb-true (λ k. own_number i k inside) (list_any_at (λ o. o.number == (offer_at view.offers i).number) view.offers i no_offer inside (eq-eqb (offer_at view.offers i).number (offer_at view.offers i).number refl)) cut new added

-- if no offers were cut and none are at the next index, none are
pub none_more : (reached : ℕ → Bool) (arcs : List Arc) (rooms : List Room) (i : ℕ) (more cut : Bool) → (more ≡ false → AreNoOffersCut reached arcs rooms i) → cut ≡ cuts_offers reached arcs rooms i
    → (more || cut) ≡ false → AreNoOffersCut reached arcs rooms (i + 1)
none_more reached arcs rooms i false cut before is none k k_in = elim (cases_lt k i) [
  | inl earlier ↦ before refl k earlier
  | inr later ↦ let last : k ≡ i = omega arith in ap (cuts_offers reached arcs rooms) last ∙ sym is ∙ none
]
none_more reached arcs rooms i true cut before is none k k_in = cc

-- nor are they if the key there is cut
one_way : (out whole : Bool) → (out && whole) ≡ true → (out && not whole) ≡ false
one_way true true cut = refl
one_way true false cut = cc
one_way false whole cut = refl

pub none_by_key : (reached : ℕ → Bool) (arcs : List Arc) (rooms : List Room) (i : ℕ) → cuts_key reached arcs rooms i ≡ true → cuts_offers reached arcs rooms i ≡ false
none_by_key reached arcs rooms i = one_way (leads_out reached (arc_at arcs i)) ((arc_at arcs i).capacity == (room_at rooms i).lots)

-- if none are cut in all, none are members
pub none_at_all : (view : GroupView) (reached : ℕ → Bool) (arcs : List Arc) → length arcs ≡ length view.rooms → AreNoOffersCut reached arcs view.rooms (length view.rooms) → AreOffersCut view reached arcs [] (length view.offers)
none_at_all view reached arcs all none = record {
  exact = λ k k_in.
      let place = agreement_place view.rooms (offer_at view.offers k) in
      let uncut : cuts_offers reached arcs view.rooms place ≡ false = elim (cases_lt place (length view.rooms)) [
        | inl inside ↦ none place inside
        | inr past ↦
            ap (λ (a : Arc). leads_out reached a && not (a.capacity == (room_at view.rooms place).lots)) (get_or_past arcs place no_arc (omega (arith, all)))
            ∙ ap (λ b. b && not (0 == (room_at view.rooms place).lots)) (and-not_self (reached 0))
      ] in
      sym (ap (λ b. nat_lt k (length view.offers) && b) uncut ∙ and-false (nat_lt k (length view.offers)));
  known = λ k d k_in. absurd (omega arith);
}

-- whether the key of a room is in the cut, and whether an offer is
module _ (view : GroupView) (reached : ℕ → Bool) (arcs : List Arc) (cut : CutLists) (cut_is : IsCutBy view reached arcs cut) where
  pub key_told : (k : ℕ) → k < length view.rooms → has_key cut.keys (room_at view.rooms k).key ≡ cuts_key reached arcs view.rooms k
  key_told k k_in = cut_is.keys.exact k k_in ∙ ap (λ b. b && cuts_key reached arcs view.rooms k) (lt-ltb k (length view.rooms) k_in)

  pub offer_told : (o : ViewOffer) → IsOfferOf view o → has_number cut.offers o.number ≡ cuts_offers reached arcs view.rooms (agreement_place view.rooms o)
  offer_told o h =
      let told : has_number cut.offers (offer_at view.offers h.place).number ≡ cuts_offers reached arcs view.rooms (agreement_place view.rooms (offer_at view.offers h.place)) =
      cut_is.offers.exact h.place h.within ∙ ap (λ b. b && cuts_offers reached arcs view.rooms (agreement_place view.rooms (offer_at view.offers h.place))) (lt-ltb h.place (length view.offers) h.within) in
      subst (λ (x : ViewOffer). has_number cut.offers x.number ≡ cuts_offers reached arcs view.rooms (agreement_place view.rooms x)) (sym h.is) told
