-- The takes and the cut of a written sheet are those that it was made from.
use Rattle.std.proofs.Common.{◌≡◌, ◌+◌, ◌==◌, ◌&&◌, ◌||◌, ℕ, Bool, true, false, List, [], ◌∷◌, filter, map, sum_by, refl, sym, ap, ◌∙◌, subst, inl, inr}
use Rattle.std.specs.Prelude.{All, IsTrue, if◌then◌else◌}
use Rattle.std.specs.List.{AllByRecursion, list_any}
use Rattle.std.proofs.lemmas.Bool.{cases_Bool}
use Rattle.std.proofs.lemmas.Bool.Decides.{Decides-eqb}
use Rattle.std.proofs.lemmas.List.Elements.{All-from_recursion, recursion_from_All}
use Rattle.gu_terms.proofs.KeyLemmas.{key_eq-refl, key_eq-same}
use Rattle.gu_terms.proofs.Lists.{along}
use Rattle.gu_terms.specs.Cuts.{CutLists, has_number}
use Rattle.gu_terms.specs.LimitKeys.{has_key, key_eq}
use Rattle.gu_terms.specs.Takes.{lots_of}
use Rattle.gu_terms.specs.declared.limit_key.LimitKey.{LimitKey}
use Rattle.gu_terms.specs.declared.takes.Take.{Take}
use Rattle.gu_view.specs.Check.{IsRight, has_offer, has_room}
use Rattle.gu_view.specs.Takes.{IsAdmissible, IsOldestFirst, total}
use Rattle.gu_view.specs.View.{GroupView}
use Rattle.gu_view.specs.declared.view.ViewOffer.{ViewOffer}
use Rattle.gu_view.specs.declared.view.Room.{Room}
use Rattle.gu_text.specs.WrittenSheets.{cut_of, takes_of}

-- both of two properties, if the second follows from the first
second_follows : (b c : Bool) → (b ≡ true → c ≡ true) → (b && c) ≡ b
second_follows true c h = h refl
second_follows false c h = refl

-- ---- takes

-- the lots taken from an offer of the view are read back; none are from any other
lots_told : (takes : List Take) (offers : List ViewOffer) (n : ℕ) → lots_of (map (λ (o : ViewOffer). record { offer = o.number; lots = lots_of takes o.number }) offers) n ≡ (if has_offer offers n then lots_of takes n else 0)
lots_told takes [] n = refl
lots_told takes (o ∷ offers) n =
    elim (cases_Bool (o.number == n)) [
      | inl hit ↦ rw hit (ap (lots_of takes) ((Decides-eqb o.number n).0 hit))
      | inr miss ↦ rw miss (lots_told takes offers n)
    ]

-- nothing is taken from an offer that the view lacks
pub none_taken : (takes : List Take) (offers : List ViewOffer) (n : ℕ) → AllByRecursion (λ (t : Take). has_offer offers t.offer ≡ true) takes → has_offer offers n ≡ false → lots_of takes n ≡ 0
none_taken [] offers n known none = refl
none_taken (t ∷ takes) offers n known none =
    elim (cases_Bool (t.offer == n)) [
      | inl hit ↦
          let there : has_offer offers n ≡ true = ap (has_offer offers) (sym ((Decides-eqb t.offer n).0 hit)) ∙ known.0 in
          let no : true ≡ false = sym there ∙ none in
          cc
      | inr miss ↦ rw miss (none_taken takes offers n known.1 none)
    ]

-- takes that name only the view's offers come back with the same lots
pub same_lots : (view : GroupView) (takes : List Take) (n : ℕ) → All (λ t. IsTrue (has_offer view.offers t.offer)) takes → lots_of (takes_of view takes) n ≡ lots_of takes n
same_lots view takes n known =
    lots_told takes view.offers n
    ∙ elim (cases_Bool (has_offer view.offers n)) [
      | inl hit ↦ rw hit refl
      | inr miss ↦ rw miss (sym (none_taken takes view.offers n (recursion_from_All (λ (t : Take). IsTrue (has_offer view.offers t.offer)) takes known) miss))
    ]

-- ---- the cut

-- a key comes back if the cut has it and the view has its room
key_told : (keys : List LimitKey) (rooms : List Room) (k : LimitKey) → has_key (map (λ (r : Room). r.key) (filter (λ (r : Room). has_key keys r.key) rooms)) k ≡ (has_key keys k && has_room rooms k)
key_told keys [] k = by (has_key keys k)
  where
    by : (b : Bool) → false ≡ (b && false)
    by true = refl
    by false = refl
key_told keys (r ∷ rooms) k =
    elim (cases_Bool (has_key keys r.key)) [
      | inl kept ↦ rw kept (elim (cases_Bool (key_eq r.key k)) [
        | inl hit ↦
            let in_cut : has_key keys k ≡ true = ap (has_key keys) (sym (key_eq-same r.key k hit)) ∙ kept in
            rw (hit, in_cut) refl
        | inr miss ↦ rw miss (key_told keys rooms k)
      ])
      | inr left ↦ rw left (elim (cases_Bool (key_eq r.key k)) [
        | inl hit ↦
            let out : has_key keys k ≡ false = ap (has_key keys) (sym (key_eq-same r.key k hit)) ∙ left in
            key_told keys rooms k ∙ rw out refl
        | inr miss ↦ rw miss (key_told keys rooms k)
      ])
    ]

-- a key of the cut has its room
key_known : (keys : List LimitKey) (rooms : List Room) (k : LimitKey) → AllByRecursion (λ j. has_room rooms j ≡ true) keys → has_key keys k ≡ true → has_room rooms k ≡ true
key_known [] rooms k known has = cc
key_known (j ∷ keys) rooms k known has =
    elim (cases_Bool (key_eq j k)) [
      | inl hit ↦ ap (has_room rooms) (sym (key_eq-same j k hit)) ∙ known.0
      | inr miss ↦ key_known keys rooms k known.1 (sym (rw miss refl) ∙ has)
    ]

-- the keys that come back are those of the cut
pub same_key : (view : GroupView) (cut : CutLists) (k : LimitKey) → All (λ j. IsTrue (has_room view.rooms j)) cut.keys → has_key (cut_of view cut).keys k ≡ has_key cut.keys k
same_key view cut k known =
    key_told cut.keys view.rooms k
    ∙ second_follows (has_key cut.keys k) (has_room view.rooms k) (key_known cut.keys view.rooms k (recursion_from_All (λ (j : LimitKey). IsTrue (has_room view.rooms j)) cut.keys known))

-- a number comes back if the cut has it and the view has its offer
number_told : (numbers : List ℕ) (offers : List ViewOffer) (n : ℕ) → has_number (map (λ (o : ViewOffer). o.number) (filter (λ (o : ViewOffer). has_number numbers o.number) offers)) n ≡ (has_number numbers n && has_offer offers n)
number_told numbers [] n = by (has_number numbers n)
  where
    by : (b : Bool) → false ≡ (b && false)
    by true = refl
    by false = refl
number_told numbers (o ∷ offers) n =
    elim (cases_Bool (has_number numbers o.number)) [
      | inl kept ↦ rw kept (elim (cases_Bool (o.number == n)) [
        | inl hit ↦
            let in_cut : has_number numbers n ≡ true = ap (has_number numbers) (sym ((Decides-eqb o.number n).0 hit)) ∙ kept in
            rw (hit, in_cut) refl
        | inr miss ↦ rw miss (number_told numbers offers n)
      ])
      | inr left ↦ rw left (elim (cases_Bool (o.number == n)) [
        | inl hit ↦
            let out : has_number numbers n ≡ false = ap (has_number numbers) (sym ((Decides-eqb o.number n).0 hit)) ∙ left in
            number_told numbers offers n ∙ rw out refl
        | inr miss ↦ rw miss (number_told numbers offers n)
      ])
    ]

-- a number of the cut has its offer
number_known : (numbers : List ℕ) (offers : List ViewOffer) (n : ℕ) → AllByRecursion (λ m. has_offer offers m ≡ true) numbers → has_number numbers n ≡ true → has_offer offers n ≡ true
number_known [] offers n known has = cc
number_known (m ∷ numbers) offers n known has =
    elim (cases_Bool (m == n)) [
      | inl hit ↦ ap (has_offer offers) (sym ((Decides-eqb m n).0 hit)) ∙ known.0
      | inr miss ↦ number_known numbers offers n known.1 (sym (rw miss refl) ∙ has)
    ]

-- the numbers that come back are those of the cut
pub same_number : (view : GroupView) (cut : CutLists) (n : ℕ) → All (λ m. IsTrue (has_offer view.offers m)) cut.offers → has_number (cut_of view cut).offers n ≡ has_number cut.offers n
same_number view cut n known =
    number_told cut.offers view.offers n
    ∙ second_follows (has_number cut.offers n) (has_offer view.offers n) (number_known cut.offers view.offers n (recursion_from_All (λ (m : ℕ). IsTrue (has_offer view.offers m)) cut.offers known))

-- ---- what comes back is the view's own

either : (b c : Bool) → c ≡ true → (b || c) ≡ true
either true c h = refl
either false c h = h

-- each offer is one of the view's, and so is each room
own_offers : (offers : List ViewOffer) → AllByRecursion (λ (o : ViewOffer). has_offer offers o.number ≡ true) offers
own_offers [] = tt
own_offers (o ∷ offers) = (
  rw ((Decides-eqb o.number o.number).1 refl) refl,
  along (λ (p : ViewOffer). has_offer offers p.number ≡ true) (λ (p : ViewOffer). has_offer (o ∷ offers) p.number ≡ true) offers (λ p h. either (o.number == p.number) (has_offer offers p.number) h) (own_offers offers),
)

own_rooms : (rooms : List Room) → AllByRecursion (λ (r : Room). has_room rooms r.key ≡ true) rooms
own_rooms [] = tt
own_rooms (r ∷ rooms) = (
  rw (key_eq-refl r.key) refl,
  along (λ (q : Room). has_room rooms q.key ≡ true) (λ (q : Room). has_room (r ∷ rooms) q.key ≡ true) rooms (λ q h. either (key_eq r.key q.key) (has_room rooms q.key) h) (own_rooms rooms),
)

-- a property of each image, and of the elements that pass a test
mapped : {X Y : Type 0} (P : Y → Type 0) (f : X → Y) (xs : List X) → AllByRecursion (λ x. P (f x)) xs → AllByRecursion P (map f xs)
mapped P f [] h = tt
mapped P f (x ∷ xs) h = (h.0, mapped P f xs h.1)

pub passing : {X : Type 0} (P : X → Type 0) (p : X → Bool) (xs : List X) → AllByRecursion P xs → AllByRecursion P (filter p xs)
passing P p [] h = tt
passing P p (x ∷ xs) h =
    elim (cases_Bool (p x)) [
      | inl hit ↦ rw hit (h.0, passing P p xs h.1)
      | inr miss ↦ rw miss (passing P p xs h.1)
    ]

-- right takes and a right cut come back right, with as many lots
pub right_again : (view : GroupView) (takes : List Take) (cut : CutLists) (lots : ℕ) → IsRight view takes cut lots → IsRight view (takes_of view takes) (cut_of view cut) lots
right_again view takes cut lots right = record {
  takes_known = All-from_recursion (λ (t : Take). IsTrue (has_offer view.offers t.offer)) (takes_of view takes)
      (mapped (λ (t : Take). has_offer view.offers t.offer ≡ true) (λ (o : ViewOffer). record { offer = o.number; lots = lots_of takes o.number }) view.offers (own_offers view.offers));
  keys_known = All-from_recursion (λ (k : LimitKey). IsTrue (has_room view.rooms k)) (cut_of view cut).keys
      (mapped (λ (k : LimitKey). has_room view.rooms k ≡ true) (λ (r : Room). r.key) (filter (λ (r : Room). has_key cut.keys r.key) view.rooms)
      (passing (λ (r : Room). has_room view.rooms r.key ≡ true) (λ (r : Room). has_key cut.keys r.key) view.rooms (own_rooms view.rooms)));
  offers_known = All-from_recursion (λ (n : ℕ). IsTrue (has_offer view.offers n)) (cut_of view cut).offers
      (mapped (λ (n : ℕ). has_offer view.offers n ≡ true) (λ (o : ViewOffer). o.number) (filter (λ (o : ViewOffer). has_number cut.offers o.number) view.offers)
      (passing (λ (o : ViewOffer). has_offer view.offers o.number ≡ true) (λ (o : ViewOffer). has_number cut.offers o.number) view.offers (own_offers view.offers)));
  admissible = subst (IsAdmissible view) same right.admissible;
  oldest_first = subst (IsOldestFirst view) same right.oldest_first;
  covers = subst (λ (p : (LimitKey → Bool) × (ℕ → Bool)). All (λ (o : ViewOffer). IsTrue (p.1 o.number || list_any p.0 o.path)) view.offers) members right.covers;
  taken = ap (total view.offers) (sym same) ∙ right.taken;
  room =
      ap
      (λ (p : (LimitKey → Bool) × (ℕ → Bool)). sum_by (λ (r : Room). if p.0 r.key then r.lots else 0) view.rooms + sum_by (λ (o : ViewOffer). if p.1 o.number then o.lots else 0) view.offers)
      (sym members)
      ∙ right.room;
}
  where
    same : lots_of takes ≡ lots_of (takes_of view takes)
    same = λ i n. sym (same_lots view takes n right.takes_known) i

    members : ◌≡◌ {A = (LimitKey → Bool) × (ℕ → Bool)} (has_key cut.keys, has_number cut.offers) (has_key (cut_of view cut).keys, has_number (cut_of view cut).offers)
    members = λ i. (λ k. sym (same_key view cut k right.keys_known) i, λ n. sym (same_number view cut n right.offers_known) i)
