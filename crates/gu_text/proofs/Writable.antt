-- What is right can be written, and is read back.
use Rattle.std.proofs.Common.{◌≡◌, ◌<◌, ◌≤◌, ◌^◌, ◌==◌, ◌++◌, ℕ, true, not, List, [], ◌∷◌, map, refl, sym, ap, ◌∙◌, arith, subst, inl, inr}
use Rattle.std.specs.Prelude.{IsTrue}
use Rattle.std.specs.List.{AllByRecursion, flat_map, list_all}
use Rattle.std.proofs.lemmas.Bool.{cases_Bool}
use Rattle.std.proofs.lemmas.Bool.Decides.{Decides-eqb}
use Rattle.std.proofs.lemmas.List.Elements.{All-from_recursion, recursion_from_All}
use Rattle.gu_terms.proofs.Lists.{along, along2}
use Rattle.gu_terms.proofs.SameValues.{both}
use Rattle.gu_terms.specs.Cuts.{CutLists}
use Rattle.gu_terms.specs.LimitKeys.{key_eq, name_of_key}
use Rattle.gu_terms.specs.Names.{is_name}
use Rattle.gu_terms.specs.Numbers.{IsLots}
use Rattle.gu_terms.specs.Takes.{lots_of}
use Rattle.gu_terms.specs.declared.limit_key.LimitKey.{LimitKey}
use Rattle.gu_terms.specs.declared.takes.Take.{Take}
use Rattle.gu_view.specs.Check.{IsRight, has_offer}
use Rattle.gu_view.specs.View.{GroupView, IsNested, IsView, firsts}
use Rattle.gu_view.specs.declared.view.ViewOffer.{ViewOffer}
use Rattle.gu_view.specs.declared.view.Room.{Room}
use Rattle.gu_text.specs.ReadBack.{IsWritable}
use Rattle.gu_text.specs.WrittenSheets.{IsNamed}
use Rattle.gu_text.proofs.WrittenTakes.{none_taken, passing}

-- a key has a valid name
abbrev HasName : LimitKey → Type 0
HasName k = is_name (name_of_key k) ≡ true

-- ---- names of rooms

all_named : (path : List LimitKey) → list_all (λ k. is_name (name_of_key k)) path ≡ true → AllByRecursion HasName path
all_named [] h = tt
all_named (k ∷ path) h = let parts = both (is_name (name_of_key k)) (list_all (λ j. is_name (name_of_key j)) path) h in (parts.0, all_named path parts.1)

joined : (xs ys : List LimitKey) → AllByRecursion HasName xs → AllByRecursion HasName ys → AllByRecursion HasName (xs ++ ys)
joined [] ys h k = k
joined (x ∷ xs) ys h k = (h.0, joined xs ys h.1 k)

-- on all paths
on_paths : (offers : List ViewOffer) → AllByRecursion (λ (o : ViewOffer). list_all (λ k. is_name (name_of_key k)) o.path ≡ true) offers → AllByRecursion HasName (flat_map (λ (o : ViewOffer). o.path) offers)
on_paths [] h = tt
on_paths (o ∷ offers) h = joined o.path (flat_map (λ (p : ViewOffer). p.path) offers) (all_named o.path h.0) (on_paths offers h.1)

-- among the first mentions
first_named : (keys : List LimitKey) → AllByRecursion HasName keys → AllByRecursion HasName (firsts keys)
first_named [] h = tt
first_named (k ∷ keys) h = (h.0, passing HasName (λ j. not (key_eq k j)) (firsts keys) (first_named keys h.1))

-- which are those of the rooms
of_rooms : (rooms : List Room) → AllByRecursion HasName (map (λ (r : Room). r.key) rooms) → AllByRecursion (λ (r : Room). HasName r.key) rooms
of_rooms [] h = tt
of_rooms (r ∷ rooms) h = (h.0, of_rooms rooms h.1)

-- ---- lots of an offer

-- at most 1,000,000 lots are taken from an offer of a view
taken_less : (takes : List Take) (offers : List ViewOffer) (n : ℕ) → AllByRecursion (λ (o : ViewOffer). lots_of takes o.number ≤ 1000000) offers → has_offer offers n ≡ true → lots_of takes n ≤ 1000000
taken_less takes [] n within there = cc
taken_less takes (o ∷ offers) n within there =
    elim (cases_Bool (o.number == n)) [
      | inl hit ↦ omega (arith, within.0, ap (lots_of takes) ((Decides-eqb o.number n).0 hit))
      | inr miss ↦ taken_less takes offers n within.1 (sym (rw miss refl) ∙ there)
    ]

-- ---- all of it

pub right_writable : (view : GroupView) (takes : List Take) (cut : CutLists) (lots : ℕ) → IsView view → IsNested view → IsNamed view → view.version < 10 ^ 12 → IsRight view takes cut lots → IsWritable view takes
right_writable view takes cut lots sound nested named version right = record {
  group = named.group;
  version = version;
  numbers = named.numbers;
  lots = All-from_recursion (λ (o : ViewOffer). o.lots < 10 ^ 12) view.offers (along (λ (o : ViewOffer). IsLots o.lots) (λ (o : ViewOffer). o.lots < 10 ^ 12) view.offers (λ o h. omega (arith, h.most)) each_lots);
  paths = nested.paths;
  names = named.names;
  keys = All-from_recursion (λ (r : Room). IsTrue (is_name (name_of_key r.key))) view.rooms
      (of_rooms view.rooms
      (subst (AllByRecursion HasName) (sym sound.rooms)
      (first_named (flat_map (λ (o : ViewOffer). o.path) view.offers)
      (on_paths view.offers (recursion_from_All (λ (o : ViewOffer). IsTrue (list_all (λ k. is_name (name_of_key k)) o.path)) view.offers named.names)))));
  rooms = All-from_recursion (λ (r : Room). r.lots < 10 ^ 12) view.rooms
      (along (λ (r : Room). r.lots ≤ 1000000000) (λ (r : Room). r.lots < 10 ^ 12) view.rooms (λ r h. omega (arith, h)) (recursion_from_All (λ (r : Room). r.lots ≤ 1000000000) view.rooms sound.limits));
  taken = λ n. elim (cases_Bool (has_offer view.offers n)) [
    | inl there ↦ omega (arith, taken_less takes view.offers n within there)
    | inr none ↦ omega (arith, none_taken takes view.offers n (recursion_from_All (λ (t : Take). IsTrue (has_offer view.offers t.offer)) takes right.takes_known) none)
  ];
}
  where
    each_lots : AllByRecursion (λ (o : ViewOffer). IsLots o.lots) view.offers
    each_lots = recursion_from_All (λ (o : ViewOffer). IsLots o.lots) view.offers sound.lots

    within : AllByRecursion (λ (o : ViewOffer). lots_of takes o.number ≤ 1000000) view.offers
    within =
        along2 (λ (o : ViewOffer). lots_of takes o.number ≤ o.lots) (λ (o : ViewOffer). IsLots o.lots) (λ (o : ViewOffer). lots_of takes o.number ≤ 1000000) view.offers (λ o a b. omega (arith, a, b.most))
        (recursion_from_All (λ (o : ViewOffer). lots_of takes o.number ≤ o.lots) view.offers right.admissible.offers) each_lots
