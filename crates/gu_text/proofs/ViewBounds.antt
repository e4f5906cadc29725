-- The most offers and rooms in a view: dropping those beyond doesn't change the verdict.
use Rattle.std.proofs.Common.{◌≡◌, ◌≢◌, ◌∙◌, ℕ, ◌*◌, ◌≤◌, zero, suc, ◌||◌, ◌&&◌, not, nat_lt, Bool, true, false, cond, List, [], ◌∷◌, Option, Some, None, length, map, take, ap, arith, length-append, length-take, inl, inr}
use Rattle.std.specs.Prelude.{IfSome, IsTrue, codes, filter}
use Rattle.std.specs.Cmp.{IsEquivalence}
use Rattle.std.specs.List.{AllByRecursion, IsDistinct, cons_option, filter_map, flat_map, list_any}
use Rattle.std.specs.Option.{option_and_then, option_map}
use Rattle.std.specs.Str.{bytes_eq}
use Rattle.std.proofs.lemmas.Bool.{cases_Bool, false_from_ne_true}
use Rattle.std.proofs.lemmas.List.{length-map, take_all}
use Rattle.std.proofs.lemmas.List.Elements.{recursion_from_All}
use Rattle.std.proofs.lemmas.Map.Keys.{IsDistinct-cons}
use Rattle.std.proofs.lemmas.Map.Made.{length-le_from_is_member}
use Rattle.gu_terms.proofs.KeyLemmas.{key_eq-refl, key_eq-same, key_eq-sym}
use Rattle.gu_terms.proofs.Lists.{Later, Later-from_AllPairs, list_any-agree}
use Rattle.gu_terms.specs.LimitKeys.{has_key, key_eq}
use Rattle.gu_terms.specs.declared.limit_key.LimitKey.{LimitKey}
use Rattle.gu_view.specs.Making.{AreRooms, MakesView}
use Rattle.gu_view.specs.View.{firsts, keys_of}
use Rattle.gu_view.specs.declared.view.ViewOffer.{ViewOffer}
use Rattle.gu_view.specs.declared.view.Room.{Room}
use Rattle.gu_view.proofs.MakingLemmas.{good_offers}
use Rattle.gu_terms.specs.Names.{is_name}
use Rattle.gu_terms.specs.Paths.{path_through}
use Rattle.gu_terms.specs.declared.firm.FirmId.{FirmId}
use Rattle.gu_text.specs.Lines.{is_silent, longest_line}
use Rattle.gu_text.specs.Words.{is_ragged, words_of}
use Rattle.gu_text.specs.Reading.{most_offers, most_rooms}
use Rattle.gu_text.specs.SheetLines.{cut_said, end_said, guarantor_said, key_said, name_of, number_of, offer_no_of, offer_said, path_said, room_said, said_by, says, sheet_said, spoken, take_said, words_say}
use Rattle.gu_text.specs.SheetParts.{offer_in}
use Rattle.gu_text.specs.Sheets.{said_in}
use Rattle.gu_text.specs.declared.sheet_line.SheetLine.{SheetLine}
use Rattle.gu_text.specs.declared.sheet_line.SheetLine.TheVariants as line

-- ---- keys

-- the elements that pass a test are no more than all
filtered-le : (p : LimitKey → Bool) (keys : List LimitKey) → length (filter p keys) ≤ length keys
filtered-le p [] = omega arith
filtered-le p (k ∷ keys) = by (p k) (filtered-le p keys)
  where
    by : (b : Bool) → length (filter p keys) ≤ length keys → length (cond b (k ∷ filter p keys) (filter p keys)) ≤ length (k ∷ keys)
    by true h = omega (arith, h)
    by false h = omega (arith, h)

-- the first occurrences of keys are no more than all
firsts-le : (keys : List LimitKey) → length (firsts keys) ≤ length keys
firsts-le [] = omega arith
firsts-le (k ∷ keys) = omega (arith, filtered-le (λ j. not (key_eq k j)) (firsts keys), firsts-le keys)

-- at most five on a path
paths-le : (offers : List ViewOffer) → AllByRecursion (λ (o : ViewOffer). length o.path ≤ 5) offers → length (flat_map (λ (o : ViewOffer). o.path) offers) ≤ 5 * length offers
paths-le [] few = omega arith
paths-le (o ∷ offers) few = omega (arith, length-append o.path (flat_map (λ (o : ViewOffer). o.path) offers), few.0, paths-le offers few.1)

pub keys_of-le : (offers : List ViewOffer) → AllByRecursion (λ (o : ViewOffer). length o.path ≤ 5) offers → length (keys_of offers) ≤ 5 * length offers
keys_of-le offers few = omega (arith, firsts-le (flat_map (λ (o : ViewOffer). o.path) offers), paths-le offers few)

-- ---- rooms

keys_alike : IsEquivalence key_eq
keys_alike = record { refl = key_eq-refl; symm = key_eq-sym; congr = λ x y z same. ap (λ k. key_eq k z) (key_eq-same x y same) }

-- keys of distinct rooms
different_keys : (rooms : List Room) → Later (λ (a b : Room). a.key ≢ b.key) rooms → IsDistinct key_eq (map (λ (r : Room). r.key) rooms)
unfolding IsDistinct
different_keys [] once = tt
different_keys (r ∷ rooms) once = IsDistinct-cons key_eq r.key (map (λ (r : Room). r.key) rooms) (apart rooms once.0) (different_keys rooms once.1)
  where
    apart : (others : List Room) → AllByRecursion (λ (b : Room). r.key ≢ b.key) others → AllByRecursion (λ k. key_eq r.key k ≡ false) (map (λ (r : Room). r.key) others)
    apart [] h = tt
    apart (b ∷ others) h = (false_from_ne_true (key_eq r.key b.key) (λ same. h.0 (key_eq-same r.key b.key same)), apart others h.1)

-- each key of a room is one of these
needed_keys : (keys : List LimitKey) (rooms : List Room) → AllByRecursion (λ (r : Room). IsTrue (has_key keys r.key)) rooms
    → (k : LimitKey) → list_any (key_eq k) (map (λ (r : Room). r.key) rooms) ≡ true → list_any (key_eq k) keys ≡ true
needed_keys keys [] needed k there = cc
needed_keys keys (r ∷ rooms) needed k there =
    elim (cases_Bool (key_eq k r.key)) [
      | inl here ↦ list_any-agree (key_eq k) (λ j. key_eq j k) keys (λ j. key_eq-sym k j) ∙ ap (has_key keys) (key_eq-same k r.key here) ∙ needed.0
      | inr other ↦ needed_keys keys rooms needed.1 k (rw other at there)
    ]

-- rooms of distinct keys are no more than the keys
rooms-le : (keys : List LimitKey) (rooms : List Room) → AreRooms keys rooms → length rooms ≤ length keys
rooms-le keys rooms are =
    omega (
      arith,
      length-map rooms (λ (r : Room). r.key),
      length-le_from_is_member keys_alike (map (λ (r : Room). r.key) rooms) keys
          (different_keys rooms (Later-from_AllPairs (λ (a b : Room). a.key ≢ b.key) rooms are.once))
          (needed_keys keys rooms (recursion_from_All (λ (r : Room). IsTrue (has_key keys r.key)) rooms are.needed)),
    )

-- ---- views

module _ (offers : List ViewOffer) (rooms : List Room) (few : AllByRecursion (λ (o : ViewOffer). length o.path ≤ 5) offers) where
  -- a view has at most 4,096 offers, and at most five rooms for each
  few_of_both : MakesView offers rooms → (length offers ≤ 4096) × (length rooms ≤ 20480)
  few_of_both makes =
      let most = (good_offers offers makes.numbers).few in
      (most, omega (arith, most, rooms-le (keys_of offers) rooms makes.exact, keys_of-le offers few))

  -- so all of them are stored
  pub all_kept : MakesView offers rooms → (take most_offers offers ≡ offers) × (take most_rooms rooms ≡ rooms)
  all_kept makes = let most = few_of_both makes in (take_all most_offers offers (omega (arith, most.0)), take_all most_rooms rooms (omega (arith, most.1)))

-- at most this many are stored
few_taken : (n : ℕ) (offers : List ViewOffer) → AllByRecursion (λ (o : ViewOffer). length o.path ≤ 5) offers → AllByRecursion (λ (o : ViewOffer). length o.path ≤ 5) (take n offers)
few_taken zero offers few = tt
few_taken (suc n) [] few = tt
few_taken (suc n) (o ∷ offers) few = (few.0, few_taken n offers few.1)

-- the stored parts make a view only if they are all the parts
pub kept_all : (offers : List ViewOffer) (rooms : List Room) → AllByRecursion (λ (o : ViewOffer). length o.path ≤ 5) offers → MakesView (take most_offers offers) (take most_rooms rooms)
    → (take most_offers offers ≡ offers) × (take most_rooms rooms ≡ rooms)
kept_all offers rooms few makes =
    let most = few_of_both (take most_offers offers) (take most_rooms rooms) (few_taken most_offers offers few) makes in
    (take_all most_offers offers (omega (arith, most.0, length-take most_offers offers)), take_all most_rooms rooms (omega (arith, most.1, length-take most_rooms rooms)))

-- ---- the offers of a sheet's lines

-- an offer in a line has at most five keys
abbrev HasFewKeys : SheetLine → Type 0
HasFewKeys (line.Offer offer) = length offer.path ≤ 5
HasFewKeys _ = Unit {0}

either_way : {Y : Type 0} (P : Y → Type 0) (o p : Option Y) (b : Bool) → IfSome o P → IfSome p P → IfSome (cond b o p) P
either_way P o p true h k = h
either_way P o p false h k = k

path_few : (agreement : List ℕ) (words : List (List ℕ)) → IfSome (path_said agreement words) (λ keys. length keys ≤ 5)
path_few agreement [] = tt
path_few agreement (executing ∷ []) = tt
path_few agreement (executing ∷ account ∷ []) = tt
path_few agreement (executing ∷ account ∷ carrying ∷ rest) =
    either_way (λ keys. length keys ≤ 5)
    (option_map (path_through (record { name = executing }) (record { name = agreement }) (record { name = account }) (record { name = carrying })) (guarantor_said rest)) None
    (is_name executing && is_name account && is_name carrying) (by (guarantor_said rest)) tt
  where
    by : (guarantor : Option (Option FirmId))
        → IfSome (option_map (path_through (record { name = executing }) (record { name = agreement }) (record { name = account }) (record { name = carrying })) guarantor) (λ keys. length keys ≤ 5)
    by None = tt
    by (Some None) = omega arith
    by (Some (Some firm)) = omega arith

offer_few : (words : List (List ℕ)) → IfSome (offer_said words) HasFewKeys
offer_few [] = tt
offer_few (number ∷ []) = tt
offer_few (number ∷ lots ∷ []) = tt
offer_few (number ∷ lots ∷ agreement ∷ path) = by (offer_no_of number) (number_of lots) (name_of agreement)
  where
    along : (n l : ℕ) (name : List ℕ) (o : Option (List LimitKey)) → IfSome o (λ keys. length keys ≤ 5)
        → IfSome (option_map (λ keys. line.Offer (record { number = n; lots = l; agreement = record { name = name }; path = keys })) o) HasFewKeys
    along n l name None h = tt
    along n l name (Some keys) h = h

    by : (n l : Option ℕ) (a : Option (List ℕ))
        → IfSome (option_and_then (λ n. option_and_then (λ l. option_and_then (λ a. option_map (λ keys. line.Offer (record { number = n; lots = l; agreement = record { name = a }; path = keys })) (path_said a path)) a) l) n) HasFewKeys
    by None l a = tt
    by (Some n) None a = tt
    by (Some n) (Some l) None = tt
    by (Some n) (Some l) (Some name) = along n l name (path_said name path) (path_few name path)

sheet_few : (words : List (List ℕ)) → IfSome (sheet_said words) HasFewKeys
sheet_few [] = tt
sheet_few (group ∷ []) = tt
sheet_few (group ∷ version ∷ []) = by (name_of group) (number_of version)
  where
    by : (name : Option (List ℕ)) (n : Option ℕ) → IfSome (option_and_then (λ name. option_map (λ n. line.Sheet (record { group = record { name = name }; version = n })) n) name) HasFewKeys
    by None n = tt
    by (Some name) None = tt
    by (Some name) (Some n) = tt
sheet_few (group ∷ version ∷ more ∷ words) = tt

room_few : (words : List (List ℕ)) → IfSome (room_said words) HasFewKeys
room_few [] = tt
room_few (kind ∷ []) = tt
room_few (kind ∷ name ∷ []) = tt
room_few (kind ∷ name ∷ lots ∷ []) = by (key_said kind name) (number_of lots)
  where
    by : (key : Option LimitKey) (n : Option ℕ) → IfSome (option_and_then (λ k. option_map (λ l. line.Room (record { key = k; lots = l })) n) key) HasFewKeys
    by None n = tt
    by (Some key) None = tt
    by (Some key) (Some n) = tt
room_few (kind ∷ name ∷ lots ∷ more ∷ words) = tt

take_few : (words : List (List ℕ)) → IfSome (take_said words) HasFewKeys
take_few [] = tt
take_few (number ∷ []) = tt
take_few (number ∷ lots ∷ []) = by (offer_no_of number) (number_of lots)
  where
    by : (o m : Option ℕ) → IfSome (option_and_then (λ n. option_map (λ l. line.Take (record { offer = n; lots = l })) m) o) HasFewKeys
    by None n = tt
    by (Some o) None = tt
    by (Some o) (Some n) = tt
take_few (number ∷ lots ∷ more ∷ words) = tt

cut_few : (words : List (List ℕ)) → IfSome (cut_said words) HasFewKeys
cut_few [] = tt
cut_few (kind ∷ []) = tt
cut_few (kind ∷ member ∷ []) = by (bytes_eq kind (codes "OFFER")) (offer_no_of member) (key_said kind member)
  where
    by : (b : Bool) (n : Option ℕ) (key : Option LimitKey) → IfSome (cond b (option_map line.CutOffer n) (option_map line.CutKey key)) HasFewKeys
    by true None key = tt
    by true (Some n) key = tt
    by false n None = tt
    by false n (Some key) = tt
cut_few (kind ∷ member ∷ more ∷ words) = tt

end_few : (words : List (List ℕ)) → IfSome (end_said words) HasFewKeys
end_few [] = tt
end_few (more ∷ words) = tt

words_few : (kind : List ℕ) (words : List (List ℕ)) → IfSome (words_say kind words) HasFewKeys
words_few kind words =
    by (bytes_eq kind (codes "SHEET")) (bytes_eq kind (codes "OFFER")) (bytes_eq kind (codes "ROOM")) (bytes_eq kind (codes "TAKE")) (bytes_eq kind (codes "CUT")) (bytes_eq kind (codes "END"))
  where
    by : (a b c d e f : Bool) → IfSome (cond a (sheet_said words) (cond b (offer_said words) (cond c (room_said words) (cond d (take_said words) (cond e (cut_said words) (cond f (end_said words) None)))))) HasFewKeys
    by true b c d e f = sheet_few words
    by false true c d e f = offer_few words
    by false false true d e f = room_few words
    by false false false true e f = take_few words
    by false false false false true f = cut_few words
    by false false false false false true = end_few words
    by false false false false false false = tt

said_few : (words : List (List ℕ)) → IfSome (said_by words) HasFewKeys
said_few [] = tt
said_few (kind ∷ words) = words_few kind words

line_few : (text : List ℕ) → IfSome (says text) HasFewKeys
line_few text =
    either_way HasFewKeys None (spoken text) (is_silent text) tt
    (either_way HasFewKeys None (said_by (words_of text)) (nat_lt longest_line (length text) || is_ragged text) tt (said_few (words_of text)))

-- so have the offers in lines
pub offers_few : (lines : List (List ℕ)) → AllByRecursion (λ (o : ViewOffer). length o.path ≤ 5) (filter_map offer_in (said_in lines))
offers_few [] = tt
offers_few (text ∷ lines) = first (says text) (said_in lines) (line_few text) (offers_few lines)
  where
    first : (o : Option SheetLine) (said : List SheetLine) → IfSome o HasFewKeys → AllByRecursion (λ (o : ViewOffer). length o.path ≤ 5) (filter_map offer_in said)
        → AllByRecursion (λ (o : ViewOffer). length o.path ≤ 5) (filter_map offer_in (cons_option o said))
    first None said h few = few
    first (Some (line.Sheet header)) said h few = few
    first (Some (line.Offer offer)) said h few = (h, few)
    first (Some (line.Room room)) said h few = few
    first (Some (line.Take t)) said h few = few
    first (Some (line.CutKey key)) said h few = few
    first (Some (line.CutOffer number)) said h few = few
    first (Some line.End) said h few = few
