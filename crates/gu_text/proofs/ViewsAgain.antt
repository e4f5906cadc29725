-- The offers and rooms of a view make the same view again.
use Rattle.std.proofs.Common.{◌≡◌, ◌<◌, ◌&&◌, ◌||◌, ℕ, Bool, true, false, not, nat_lt, List, [], ◌∷◌, Option, Some, None, map, refl, sym, ap, ◌∙◌, arith, subst}
use Rattle.std.specs.Prelude.{All, IsTrue, slice_get}
use Rattle.std.specs.List.{AllByRecursion, find, flat_map, list_any, zip}
use Rattle.std.specs.Option.{option_map, option_map_or, unwrap_or}
use Rattle.std.specs.Cmp.Lexicographic.{pointwise}
use Rattle.std.proofs.lemmas.Bool.{le-ltb, lt-leb, ne_eqb}
use Rattle.std.proofs.lemmas.List.Elements.{All-from_recursion, recursion_from_All}
use Rattle.gu_terms.proofs.KeyLemmas.{key_eq-from, key_eq-refl}
use Rattle.gu_terms.proofs.Lists.{AllPairs-from_Later, Later, Later-from_AllPairs, along, along2, none_any, none_found}
use Rattle.gu_terms.specs.LimitKeys.{has_key, key_eq}
use Rattle.gu_terms.specs.Numbers.{IsLots, IsOfferNo}
use Rattle.gu_terms.specs.declared.limit_key.LimitKey.{LimitKey}
use Rattle.gu_terms.specs.declared.limit_key.LimitKey.TheVariants.{Agr}
use Rattle.gu_view.proofs.MakingLemmas.{agreement_eq-same, bad_of_few, path_eq-refl}
use Rattle.gu_view.proofs.RoomLemmas.{apart-firsts}
use Rattle.gu_view.specs.Making.{AreRooms, MakesView, has_other_path, in_order, is_bad, is_own, lots_given, same_agreement, view_of}
use Rattle.gu_view.specs.View.{GroupView, IsView, keys_of}
use Rattle.gu_view.specs.declared.view.ViewOffer.{ViewOffer}
use Rattle.gu_view.specs.declared.view.Room.{Room}

-- ---- offers

-- an offer with valid lots and a number above the previous one isn't bad
not_bad : (before : ℕ) (o : ViewOffer) → before < o.number → IsLots o.lots → is_bad before o ≡ false
not_bad before o above lots =
    rw (lt-leb o.number before above, ne_eqb o.lots 0 (λ none. absurd (omega (arith, none, lots.some))), le-ltb 1000000 o.lots lots.most) refl

-- none is bad
none_bad : (before : ℕ) (offers : List ViewOffer) → AllByRecursion (λ (o : ViewOffer). before < o.number) offers → Later (λ (a b : ViewOffer). a.number < b.number) offers → AllByRecursion (λ (o : ViewOffer). IsLots o.lots) offers
    → find (λ (p : ℕ × ViewOffer). is_bad p.0 p.1) (zip (before ∷ map (λ (o : ViewOffer). o.number) offers) offers) ≡ None
none_bad before [] above ascending lots = refl
none_bad before (o ∷ offers) above ascending lots = rw (not_bad before o above.0 lots.0) (none_bad o.number offers ascending.0 ascending.1 lots.1)

-- a relation of any two, in either order, and of each with itself
pub each_other : {X : Type 0} (R : X → X → Type 0) (xs : List X) → ((x : X) → R x x) → ((x y : X) → R x y → R y x) → Later R xs → AllByRecursion (λ x. AllByRecursion (R x) xs) xs
each_other R [] self turned later = tt
each_other {X} R (x ∷ xs) self turned later = (
  (self x, later.0),
  along2 (R x) (λ (y : X). AllByRecursion (R y) xs) (λ (y : X). AllByRecursion (R y) (x ∷ xs)) xs (λ y one rest. (turned x y one, rest)) later.0 (each_other R xs self turned later.1),
)

-- no path differs from its agreement's
even_path : (offers : List ViewOffer) (o : ViewOffer) → slice_get o.path 1 ≡ Some (Agr o.agreement) → AllByRecursion (λ (older : ViewOffer). o.agreement ≡ older.agreement → o.path ≡ older.path) offers
    → (not (is_own o) || has_other_path offers o) ≡ false
even_path offers o own one =
    let mine : is_own o ≡ true = ap (λ (k : Option LimitKey). option_map_or (key_eq (Agr o.agreement)) k false) own ∙ key_eq-refl (Agr o.agreement) in
    let none : has_other_path offers o ≡ false =
    none_any (λ older. nat_lt older.number o.number && (same_agreement older o && not (pointwise key_eq older.path o.path))) offers
    (along (λ (older : ViewOffer). o.agreement ≡ older.agreement → o.path ≡ older.path) (λ (older : ViewOffer). (nat_lt older.number o.number && (same_agreement older o && not (pointwise key_eq older.path o.path))) ≡ false) offers
    (λ older h. by older (nat_lt older.number o.number) (same_agreement older o) refl h) one) in
    rw (mine, none) refl
  where
    by : (older : ViewOffer) (b same : Bool) → same_agreement older o ≡ same → (o.agreement ≡ older.agreement → o.path ≡ older.path) → (b && (same && not (pointwise key_eq older.path o.path))) ≡ false
    by older false same e h = refl
    by older true false e h = refl
    by older true true e h =
        let agreements = agreement_eq-same older.agreement o.agreement e in
        let paths : pointwise key_eq older.path o.path ≡ true = ap (pointwise key_eq older.path) (h (sym agreements)) ∙ path_eq-refl older.path in
        rw paths refl

-- ---- rooms

-- keys of distinct rooms
apart_rooms : (rooms : List Room) → Later (λ a b. key_eq a b ≡ false) (map (λ (r : Room). r.key) rooms) → Later (λ (a b : Room). key_eq a.key b.key ≡ false) rooms
apart_rooms [] h = tt
apart_rooms (r ∷ rooms) h = (from rooms h.0, apart_rooms rooms h.1)
  where
    from : (others : List Room) → AllByRecursion (λ k. key_eq r.key k ≡ false) (map (λ (o : Room). o.key) others) → AllByRecursion (λ (o : Room). key_eq r.key o.key ≡ false) others
    from [] h = tt
    from (o ∷ others) h = (h.0, from others h.1)

-- each room's key is among those of all
keyed : (rooms : List Room) → AllByRecursion (λ (r : Room). has_key (map (λ (o : Room). o.key) rooms) r.key ≡ true) rooms
keyed [] = tt
keyed (r ∷ rooms) = (
  rw (key_eq-refl r.key) refl,
  along (λ (o : Room). has_key (map (λ (o : Room). o.key) rooms) o.key ≡ true) (λ (o : Room). has_key (map (λ (o : Room). o.key) (r ∷ rooms)) o.key ≡ true) rooms
      (λ o h. either (key_eq r.key o.key) (has_key (map (λ (o : Room). o.key) rooms) o.key) h) (keyed rooms),
)
  where
    either : (b c : Bool) → c ≡ true → (b || c) ≡ true
    either true c h = refl
    either false c h = h

-- each key has its room
roomed : (rooms : List Room) → AllByRecursion (λ k. list_any (λ (r : Room). key_eq r.key k) rooms ≡ true) (map (λ (r : Room). r.key) rooms)
roomed [] = tt
roomed (r ∷ rooms) = (
  rw (key_eq-refl r.key) refl,
  along (λ k. list_any (λ (o : Room). key_eq o.key k) rooms ≡ true) (λ k. list_any (λ (o : Room). key_eq o.key k) (r ∷ rooms) ≡ true) (map (λ (o : Room). o.key) rooms)
      (λ k h. either (key_eq r.key k) (list_any (λ (o : Room). key_eq o.key k) rooms) h) (roomed rooms),
)
  where
    either : (b c : Bool) → c ≡ true → (b || c) ≡ true
    either true c h = refl
    either false c h = h

-- rooms with distinct keys, in the order of their keys
ordered : (rooms : List Room) → Later (λ (a b : Room). key_eq a.key b.key ≡ false) rooms → in_order (map (λ (r : Room). r.key) rooms) rooms ≡ rooms
ordered [] later = refl
ordered (r ∷ rooms) later =
    let first : unwrap_or (lots_given (r ∷ rooms) r.key) 0 ≡ r.lots = rw (key_eq-refl r.key) refl in
    let rest = behind rooms later.0 ∙ ordered rooms later.1 in
    λ i. record { key = r.key; lots = first i } ∷ rest i
  where
    behind : (others : List Room) → AllByRecursion (λ (o : Room). key_eq r.key o.key ≡ false) others
        → in_order (map (λ (o : Room). o.key) others) (r ∷ rooms) ≡ in_order (map (λ (o : Room). o.key) others) rooms
    behind [] h = refl
    behind (o ∷ others) h =
        let one : lots_given (r ∷ rooms) o.key ≡ lots_given rooms o.key = rw h.0 refl in
        let rest = behind others h.1 in
        λ i. record { key = o.key; lots = unwrap_or (one i) 0 } ∷ rest i

-- ---- views

module _ (view : GroupView) (sound : IsView view) where
  -- the rooms of a view have distinct keys
  pub rooms_apart : Later (λ (a b : Room). key_eq a.key b.key ≡ false) view.rooms
  rooms_apart = apart_rooms view.rooms (subst (Later (λ a b. key_eq a b ≡ false)) (sym sound.rooms) (apart-firsts (flat_map (λ (o : ViewOffer). o.path) view.offers)))

  -- they are those on the paths
  are_rooms : AreRooms (keys_of view.offers) view.rooms
  are_rooms = record {
    needed = All-from_recursion (λ (r : Room). IsTrue (has_key (keys_of view.offers) r.key)) view.rooms
        (subst (λ (keys : List LimitKey). AllByRecursion (λ (r : Room). has_key keys r.key ≡ true) view.rooms) sound.rooms (keyed view.rooms));
    whole = subst (λ (keys : List LimitKey). All (λ k. IsTrue (list_any (λ (r : Room). key_eq r.key k) view.rooms)) keys) sound.rooms
        (All-from_recursion (λ k. IsTrue (list_any (λ (r : Room). key_eq r.key k) view.rooms)) (map (λ (r : Room). r.key) view.rooms) (roomed view.rooms));
    once = λ i j d before inside same.
        let differ = AllPairs-from_Later (λ (a b : Room). key_eq a.key b.key ≡ false) view.rooms rooms_apart i j d before inside in
        let alike : true ≡ false = sym (key_eq-from _ _ same) ∙ differ in
        cc;
    limits = sound.limits;
  }

  -- its offers and rooms make a view, if each offer has a valid number
  pub makes_view : All (λ o. IsOfferNo o.number) view.offers → MakesView view.offers view.rooms
  makes_view numbers = record {
    numbers =
        sym (bad_of_few view.offers sound.few)
        ∙ ap (option_map (λ (p : ℕ × ViewOffer). p.1.number))
        (none_bad 0 view.offers (along (λ (o : ViewOffer). IsOfferNo o.number) (λ (o : ViewOffer). 0 < o.number) view.offers (λ o h. omega (arith, h.some)) (recursion_from_All (λ (o : ViewOffer). IsOfferNo o.number) view.offers numbers))
        (Later-from_AllPairs (λ (a b : ViewOffer). a.number < b.number) view.offers sound.ascending) (recursion_from_All (λ (o : ViewOffer). IsLots o.lots) view.offers sound.lots));
    paths =
        ap (option_map (λ (o : ViewOffer). o.number))
        (none_found (λ o. not (is_own o) || has_other_path view.offers o) view.offers
        (along2 (λ (o : ViewOffer). slice_get o.path 1 ≡ Some (Agr o.agreement)) (λ (o : ViewOffer). AllByRecursion (λ (older : ViewOffer). o.agreement ≡ older.agreement → o.path ≡ older.path) view.offers)
        (λ (o : ViewOffer). (not (is_own o) || has_other_path view.offers o) ≡ false) view.offers (λ o own one. even_path view.offers o own one)
        (recursion_from_All (λ (o : ViewOffer). slice_get o.path 1 ≡ Some (Agr o.agreement)) view.offers sound.own)
        (each_other (λ (a b : ViewOffer). a.agreement ≡ b.agreement → a.path ≡ b.path) view.offers (λ o same. refl) (λ a b h same. sym (h (sym same)))
        (Later-from_AllPairs (λ (a b : ViewOffer). a.agreement ≡ b.agreement → a.path ≡ b.path) view.offers sound.one_path))));
    exact = are_rooms;
  }

  -- the same view
  pub makes_itself : view ≡ view_of view.group view.version view.offers view.rooms
  makes_itself =
      let rooms : view.rooms ≡ in_order (keys_of view.offers) view.rooms = sym (ap (λ (keys : List LimitKey). in_order keys view.rooms) (sym sound.rooms) ∙ ordered view.rooms rooms_apart) in
      λ i. record { group = view.group; version = view.version; offers = view.offers; rooms = rooms i }
