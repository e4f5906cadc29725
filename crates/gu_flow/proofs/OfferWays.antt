-- The ways of a nested view's offers: executing firm, agreement, account, carrying firm, and its guarantor if it has one.
use Rattle.gu_flow.proofs.Words.{◌≡◌, ℕ, ◌+◌, ◌<◌, ◌==◌, true, List, [], ◌∷◌, Option, Some, None, suc, length, map, get_or, slice_get, refl, sym, ◌∙◌, ap, subst, arith, inl, inr, one-add, AllByRecursion, position_or_len, option_map, or-false, cases_Bool, cases_order, slice_get-map, key_eq-same, key_eq, has_key, AgreementId, LimitKey, Exec, Agr, Acct, Carry, Guar, key_at_place, step_of, GroupView, IsView, IsNested, IsPath, next_key, place_of, ViewOffer, Room, node_or_sink, node_at, no_room, room_at, no_offer, way_of, IsOfferOf, agreement_place}
use Rattle.gu_terms.specs.Paths.{path_through}
use Rattle.gu_terms.specs.declared.account.AccountId.{AccountId}
use Rattle.gu_terms.specs.declared.firm.FirmId.{FirmId}
use Rattle.gu_flow.proofs.RoomPlaces.{place_of_room, at_place, roomed}
use Rattle.gu_flow.proofs.Sides.{AreStepped}

-- the step at which ways pass a room's index
abbrev pub step_at : List Room → ℕ → ℕ
step_at rooms place = step_of (room_at rooms place).key

-- on a whole path each key is at its step, nothing follows the last, and its way ends at the sink
keys_stepped : (e : FirmId) (a : AgreementId) (c : AccountId) (d : FirmId) (g : Option FirmId) → AreStepped step_of 0 (path_through e a c d g)
keys_stepped e a c d None = (refl, (refl, (refl, (refl, tt))))
keys_stepped e a c d (Some g) = (refl, (refl, (refl, (refl, (refl, tt)))))

no_sixth : (e : FirmId) (a : AgreementId) (c : AccountId) (d : FirmId) (g : Option FirmId) → slice_get (path_through e a c d g) 5 ≡ None
no_sixth e a c d None = refl
no_sixth e a c d (Some g) = refl

whole_ends : (at : LimitKey → ℕ) (e : FirmId) (a : AgreementId) (c : AccountId) (d : FirmId) (g : Option FirmId) → node_at (map at (path_through e a c d g)) (length (map at (path_through e a c d g))) ≡ 1
whole_ends at e a c d None = refl
whole_ends at e a c d (Some g) = refl

-- it has one agreement's key
agreement_on : (e : FirmId) (a : AgreementId) (c : AccountId) (d : FirmId) (g : Option FirmId) (own : AgreementId) → has_key (path_through e a c d g) (Agr own) ≡ key_eq (Agr a) (Agr own)
agreement_on e a c d None own = or-false (key_eq (Agr a) (Agr own))
agreement_on e a c d (Some g) own = or-false (key_eq (Agr a) (Agr own))

-- the indexes of keys with rooms are at their steps
places_stepped : (rooms : List Room) (n : ℕ) (path : List LimitKey) → AllByRecursion (λ k. place_of rooms k < length rooms) path → AreStepped step_of n path → AreStepped (step_at rooms) n (map (place_of rooms) path)
places_stepped rooms n [] r s = tt
places_stepped rooms n (k ∷ path) r s = (ap step_of (key_at_place rooms k no_room r.0) ∙ s.0, places_stepped rooms (suc n) path r.1 s.1)

-- the step of a key on a path
abbrev step_on : List LimitKey → LimitKey → ℕ
step_on path key = position_or_len (λ k. key_eq k key) path

record StandsOn (n : ℕ) (path : List LimitKey) (key : LimitKey) : Type 0 where
  pub at : slice_get path (step_on path key) ≡ Some key
  pub step : step_of key ≡ n + step_on path key

key_stands : (n : ℕ) (path : List LimitKey) (key : LimitKey) → AreStepped step_of n path → has_key path key ≡ true → StandsOn n path key
key_stands n [] key s on = cc
key_stands n (k ∷ path) key s on = elim (cases_Bool (key_eq k key)) [
  | inl here ↦ let same = key_eq-same k key here in record { at = rw here (ap Some same); step = rw here (omega (arith, s.0, ap step_of same)) }
  | inr miss ↦ let rest = key_stands (suc n) path key s.1 (rw miss at on) in record { at = rw (miss, one-add) rest.at; step = rw miss (omega (arith, rest.step)) }
]

module _ (view : GroupView) (sound : IsView view) (nested : IsNested view) where
  abbrev at : LimitKey → ℕ
  at = place_of view.rooms

  pub path_at : (o : ViewOffer) → IsOfferOf view o → IsPath o
  path_at o h = rw h.is (nested.paths h.place no_offer h.within)

  stepped : (o : ViewOffer) → IsOfferOf view o → AreStepped step_of 0 o.path
  stepped o h = let p = path_at o h in subst (AreStepped step_of 0) (sym p.4) (keys_stepped p.0 o.agreement p.1 p.2 p.3)

  pub way_stepped : (o : ViewOffer) → IsOfferOf view o → AreStepped (step_at view.rooms) 0 (way_of view.rooms o)
  way_stepped o h = places_stepped view.rooms 0 o.path (roomed view sound o h) (stepped o h)

  pub way_ends : (o : ViewOffer) → IsOfferOf view o → node_at (way_of view.rooms o) (length (way_of view.rooms o)) ≡ 1
  way_ends o h = let p = path_at o h in subst (λ path. node_at (map at path) (length (map at path)) ≡ 1) (sym p.4) (whole_ends at p.0 o.agreement p.1 p.2 p.3)

  -- a key on a path is at its step, and the next follows it
  pub on_step : (o : ViewOffer) → IsOfferOf view o → (key : LimitKey) → has_key o.path key ≡ true → slice_get o.path (step_of key) ≡ Some key
  on_step o h key on = let s = key_stands 0 o.path key (stepped o h) on in ap (slice_get o.path) (omega (arith, s.step)) ∙ s.at

  behind : (o : ViewOffer) → IsOfferOf view o → (key : LimitKey) → has_key o.path key ≡ true → slice_get o.path (step_of key + 1) ≡ next_key o.path key
  behind o h key on = ap (slice_get o.path) (omega (arith, (key_stands 0 o.path key (stepped o h) on).step))

  pub way_on : (o : ViewOffer) → IsOfferOf view o → (k : ℕ) → k < length view.rooms → has_key o.path (room_at view.rooms k).key ≡ true → slice_get (way_of view.rooms o) (step_at view.rooms k) ≡ Some k
  way_on o h k k_in on =
      slice_get-map at o.path (step_at view.rooms k) ∙ ap (option_map at) (on_step o h (room_at view.rooms k).key on) ∙ ap Some (place_of_room view sound k k_in)

  -- an offer is under an agreement if that is its own
  pub own_in : (o : ViewOffer) → IsOfferOf view o → agreement_place view.rooms o < length view.rooms
  own_in o h = (rw (path_at o h).4 at (roomed view sound o h)).1.0

  pub under_own : (o : ViewOffer) → IsOfferOf view o → (k : ℕ) → k < length view.rooms → (agreement : AgreementId) → (room_at view.rooms k).key ≡ Agr agreement
      → has_key o.path (room_at view.rooms k).key ≡ (agreement_place view.rooms o == k)
  under_own o h k k_in agreement is =
      let p = path_at o h in
      ap (has_key o.path) is ∙ ap (λ path. has_key path (Agr agreement)) p.4 ∙ agreement_on p.0 o.agreement p.1 p.2 p.3 agreement ∙ ap (key_eq (Agr o.agreement)) (sym is) ∙ sym (at_place view sound k (Agr o.agreement) k_in (own_in o h))

  -- offers under one agreement have one path
  pub one_path_at : (o p : ViewOffer) → IsOfferOf view o → IsOfferOf view p → o.agreement ≡ p.agreement → o.path ≡ p.path
  one_path_at o p h g same = elim (cases_order h.place g.place) [
    | inl one ↦ ap (λ (x : ViewOffer). x.path) (h.is ∙ ap (λ i. get_or view.offers i no_offer) one ∙ sym g.is)
    | inr apart ↦ elim apart [
      | inl before ↦ (rw (← h.is, ← g.is) at (sound.one_path h.place g.place no_offer before g.within)) same
      | inr after ↦ sym ((rw (← h.is, ← g.is) at (sound.one_path g.place h.place no_offer after h.within)) (sym same))
    ]
  ]

  -- paths with the same key at a step have the same node there
  pub same_node : (o p : ViewOffer) (i : ℕ) → slice_get o.path i ≡ slice_get p.path i → node_or_sink (slice_get (way_of view.rooms o) i) ≡ node_or_sink (slice_get (way_of view.rooms p) i)
  same_node o p i same = ap node_or_sink (slice_get-map at o.path i ∙ ap (option_map at) same ∙ sym (slice_get-map at p.path i))

  -- so all ways that pass an index lay out the same arc there
  pub alike : (o p : ViewOffer) → IsOfferOf view o → IsOfferOf view p → (key : LimitKey) → has_key o.path key ≡ true → has_key p.path key ≡ true
      → (node_at (way_of view.rooms o) (step_of key) ≡ node_at (way_of view.rooms p) (step_of key)) × (node_at (way_of view.rooms o) (step_of key + 1) ≡ node_at (way_of view.rooms p) (step_of key + 1))
  alike o p h g key on_o on_p = by_kind key (on_step o h key on_o) (on_step p g key on_p) on_o on_p
    where
      by_kind : (key : LimitKey) → slice_get o.path (step_of key) ≡ Some key → slice_get p.path (step_of key) ≡ Some key → has_key o.path key ≡ true → has_key p.path key ≡ true
          → (node_at (way_of view.rooms o) (step_of key) ≡ node_at (way_of view.rooms p) (step_of key)) × (node_at (way_of view.rooms o) (step_of key + 1) ≡ node_at (way_of view.rooms p) (step_of key + 1))
      by_kind (Exec firm) x y on_o on_p = (refl, same_node o p 0 (x ∙ sym y))
      by_kind (Agr agreement) x y on_o on_p =
          let own_o = rw (← h.is) at (sound.own h.place no_offer h.within) in
          let own_p = rw (← g.is) at (sound.own g.place no_offer g.within) in
          let paths = one_path_at o p h g (cc (x, y, own_o, own_p)) in
          (ap (λ path. node_at (map at path) 1) paths, ap (λ path. node_at (map at path) 2) paths)
      by_kind (Acct account) x y on_o on_p =
          let next = rw (← h.is, ← g.is) at (nested.carriers h.place no_offer h.within g.place no_offer g.within account) in
          (same_node o p 2 (x ∙ sym y), same_node o p 3 (behind o h (Acct account) on_o ∙ next on_o on_p ∙ sym (behind p g (Acct account) on_p)))
      by_kind (Carry firm) x y on_o on_p =
          let next = rw (← h.is, ← g.is) at (nested.guarantors h.place no_offer h.within g.place no_offer g.within firm) in
          (same_node o p 3 (x ∙ sym y), same_node o p 4 (behind o h (Carry firm) on_o ∙ next on_o on_p ∙ sym (behind p g (Carry firm) on_p)))
      by_kind (Guar firm) x y on_o on_p =
          let a = path_at o h in
          let b = path_at p g in
          let none_o : slice_get o.path 5 ≡ None = ap (λ path. slice_get path 5) a.4 ∙ no_sixth a.0 o.agreement a.1 a.2 a.3 in
          let none_p : slice_get p.path 5 ≡ None = ap (λ path. slice_get path 5) b.4 ∙ no_sixth b.0 p.agreement b.1 b.2 b.3 in
          (same_node o p 4 (x ∙ sym y), same_node o p 5 (none_o ∙ sym none_p))
