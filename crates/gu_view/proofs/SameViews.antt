-- The `==` of offers and of rooms is equality, and so is that of a view's four parts.
use Rattle.gu_view.proofs.Words.{◌≡◌, ◌&&◌, ◌==◌, Bool, refl, ap, ◌∙◌, bytes_eq-Decides, slice_eq-Decides, eq, eq-Decides, ViewOffer, Room, GroupView}
use Rattle.std.specs.Bool.{Decides}
use Rattle.std.specs.Cmp.Lexicographic.{pointwise}
use Rattle.std.specs.Str.{bytes_eq}
use Rattle.std.proofs.lemmas.Bool.Decides.{Decides-and, Decides-eqb}
use Rattle.gu_view.specs.contracts.view.ViewOfferPartialEq.TheImpl as offer
use Rattle.gu_view.specs.contracts.view.RoomPartialEq.TheImpl as room

-- the `==` of offers, and that of rooms
abbrev pub offer_eq : ViewOffer → ViewOffer → Bool
offer_eq = offer.eq-value.it

abbrev pub room_eq : Room → Room → Bool
room_eq = room.eq-value.it

-- offers
pub offer_eq-Decides : (a b : ViewOffer) → Decides (offer_eq a b) (a ≡ b)
offer_eq-Decides a b =
    let path = slice_eq-Decides eq-Decides a.path b.path (pointwise eq a.path b.path) refl in
    let named = Decides-and (bytes_eq a.agreement.name b.agreement.name) (pointwise eq a.path b.path) (bytes_eq-Decides a.agreement.name b.agreement.name) path in
    let filled = Decides-and (a.lots == b.lots) (bytes_eq a.agreement.name b.agreement.name && pointwise eq a.path b.path) (Decides-eqb a.lots b.lots) named in
    let parts = Decides-and (a.number == b.number) ((a.lots == b.lots) && (bytes_eq a.agreement.name b.agreement.name && pointwise eq a.path b.path)) (Decides-eqb a.number b.number) filled in
    (λ h. let p = parts.0 h in made p.0 p.1.0 p.1.1.0 p.1.1.1, λ e. parts.1 (ap (λ (o : ViewOffer). o.number) e, (ap (λ (o : ViewOffer). o.lots) e, (ap (λ (o : ViewOffer). o.agreement.name) e, ap (λ (o : ViewOffer). o.path) e))))
  where
    made : a.number ≡ b.number → a.lots ≡ b.lots → a.agreement.name ≡ b.agreement.name → a.path ≡ b.path → a ≡ b
    made number lots name path = ap (λ n. record { number = n; lots = a.lots; agreement = a.agreement; path = a.path }) number ∙ ap (λ l. record { number = b.number; lots = l; agreement = a.agreement; path = a.path }) lots ∙ ap (λ n. record { number = b.number; lots = b.lots; agreement = record { name = n }; path = a.path }) name ∙ ap (λ p. record { number = b.number; lots = b.lots; agreement = b.agreement; path = p }) path

-- rooms
room_eq-Decides : (a b : Room) → Decides (room_eq a b) (a ≡ b)
room_eq-Decides a b =
    let parts = Decides-and (eq a.key b.key) (a.lots == b.lots) (eq-Decides a.key b.key) (Decides-eqb a.lots b.lots) in
    (λ h. made (parts.0 h).0 (parts.0 h).1, λ e. parts.1 (ap (λ (r : Room). r.key) e, ap (λ (r : Room). r.lots) e))
  where
    made : a.key ≡ b.key → a.lots ≡ b.lots → a ≡ b
    made key lots = ap (λ k. record { key = k; lots = a.lots }) key ∙ ap (λ l. record { key = b.key; lots = l }) lots

-- the four parts of two views are equal
abbrev pub view_eq : GroupView → GroupView → Bool
view_eq a b = ((bytes_eq a.group.name b.group.name && (a.version == b.version)) && pointwise offer_eq a.offers b.offers) && pointwise room_eq a.rooms b.rooms

-- views
pub view_eq-Decides : (a b : GroupView) → Decides (view_eq a b) (a ≡ b)
view_eq-Decides a b =
    let headed = Decides-and (bytes_eq a.group.name b.group.name) (a.version == b.version) (bytes_eq-Decides a.group.name b.group.name) (Decides-eqb a.version b.version) in
    let offered = Decides-and (bytes_eq a.group.name b.group.name && (a.version == b.version)) (pointwise offer_eq a.offers b.offers) headed (slice_eq-Decides offer_eq-Decides a.offers b.offers (pointwise offer_eq a.offers b.offers) refl) in
    let parts = Decides-and ((bytes_eq a.group.name b.group.name && (a.version == b.version)) && pointwise offer_eq a.offers b.offers) (pointwise room_eq a.rooms b.rooms) offered (slice_eq-Decides room_eq-Decides a.rooms b.rooms (pointwise room_eq a.rooms b.rooms) refl) in
    (λ h. let p = parts.0 h in made p.0.0.0 p.0.0.1 p.0.1 p.1, λ e. parts.1 (((ap (λ (v : GroupView). v.group.name) e, ap (λ (v : GroupView). v.version) e), ap (λ (v : GroupView). v.offers) e), ap (λ (v : GroupView). v.rooms) e))
  where
    made : a.group.name ≡ b.group.name → a.version ≡ b.version → a.offers ≡ b.offers → a.rooms ≡ b.rooms → a ≡ b
    made name version offers rooms = ap (λ n. record { group = record { name = n }; version = a.version; offers = a.offers; rooms = a.rooms }) name ∙ ap (λ v. record { group = b.group; version = v; offers = a.offers; rooms = a.rooms }) version ∙ ap (λ o. record { group = b.group; version = b.version; offers = o; rooms = a.rooms }) offers ∙ ap (λ r. record { group = b.group; version = b.version; offers = b.offers; rooms = r }) rooms
