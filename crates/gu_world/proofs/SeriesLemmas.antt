-- Series of outcomes: their length, the outcome at an index, and one more outcome.
use Rattle.gu_world.proofs.Words.{◌≡◌, ℕ, zero, suc, ◌+◌, ◌-◌, ◌<◌, ◌≤◌, arith, List, [], ◌∷◌, ◌++◌, length, Some, refl, sym, ap, subst, ◌∙◌, append_assoc, append-nil, get_or, take, drop, slice_get, slice_set, All, drop_more, take_all, take_more, get_or_from_slice_get, slice_get-get_or, all_outcomes, outcomes_of, KeptOutcome}
use Rattle.std.proofs.lemmas.List.{length-append}
use Rattle.std.proofs.lemmas.List.Concat.{flat_map-append, get_or-flat_map}
use Rattle.std.proofs.lemmas.List.Folds.{length-flat_map-take}
use Rattle.std.proofs.lemmas.List.FromFn.{get_or-map-range_with_len, length-map-range_with_len, map-range_with_len_more}
use Rattle.gu_world.specs.declared.outcomes.KeptOutcome.TheVariants as kept
use Rattle.gu_world.specs.declared.series.Series.{Series}
use Rattle.gu_world.specs.declared.series.Series.TheVariants.{Asked}

-- ---- consecutive commands

pub asked_len : (first more : ℕ) → length (outcomes_of (Asked first more)) ≡ more + 1
asked_len first more = length-map-range_with_len kept.Asked first (more + 1)

pub asked_at : (first more place : ℕ) → place < length (outcomes_of (Asked first more)) → slice_get (outcomes_of (Asked first more)) place ≡ Some (kept.Asked (first + place))
asked_at first more place within =
    slice_get-get_or (outcomes_of (Asked first more)) place (kept.Asked 0) within
    ∙ ap Some (get_or-map-range_with_len kept.Asked first (more + 1) place (first + place) (kept.Asked 0) (omega (arith, within, asked_len first more)) refl)

pub asked_more : (first more : ℕ) → outcomes_of (Asked first (more + 1)) ≡ outcomes_of (Asked first more) ++ kept.Asked (first + more + 1) ∷ []
asked_more first more = map-range_with_len_more kept.Asked first (more + 1) (first + more + 1) (omega arith)

-- ---- indexes in what series stand for

-- an element of two joined lists is in the first or in the second
pub get-left : {X : Type 0} (xs ys : List X) (place : ℕ) → place < length xs → slice_get (xs ++ ys) place ≡ slice_get xs place
get-left [] ys place within = absurd (omega (arith, within))
get-left (x ∷ xs) ys zero within = refl
get-left (x ∷ xs) ys (suc place) within = get-left xs ys place (omega (arith, within))

pub get-right : {X : Type 0} (xs ys : List X) (place : ℕ) → slice_get (xs ++ ys) (length xs + place) ≡ slice_get ys place
get-right [] ys place = let same : 0 + place ≡ place = omega arith in ap (slice_get ys) same
get-right {X} (x ∷ xs) ys place =
    let next : suc (length xs) + place ≡ suc (length xs + place) = omega arith in
    ap (slice_get {X = X} (x ∷ xs ++ ys)) next ∙ get-right xs ys place

-- among the remaining series, an index is in the first or past it
module _ (list : List Series) (i left : ℕ) (first : Series) (within : i < length list) where
  begins : all_outcomes (drop i list) ≡ outcomes_of (get_or list i first) ++ all_outcomes (drop (i + 1) list)
  begins = ap all_outcomes (drop_more list i first within)

  pub place_here : left < length (outcomes_of (get_or list i first)) → slice_get (all_outcomes (drop i list)) left ≡ slice_get (outcomes_of (get_or list i first)) left
  place_here short = ap (λ (ks : List KeptOutcome). slice_get ks left) begins ∙ get-left (outcomes_of (get_or list i first)) (all_outcomes (drop (i + 1) list)) left short

  pub place_past : length (outcomes_of (get_or list i first)) ≤ left
      → slice_get (all_outcomes (drop i list)) left ≡ slice_get (all_outcomes (drop (i + 1) list)) (left - length (outcomes_of (get_or list i first)))
  place_past long =
      let there : left ≡ length (outcomes_of (get_or list i first)) + (left - length (outcomes_of (get_or list i first))) = omega (arith, long) in
      ap (λ (ks : List KeptOutcome). slice_get ks left) begins
      ∙ ap (slice_get (outcomes_of (get_or list i first) ++ all_outcomes (drop (i + 1) list))) there
      ∙ get-right (outcomes_of (get_or list i first)) (all_outcomes (drop (i + 1) list)) (left - length (outcomes_of (get_or list i first)))

-- the last outcome is the last of the last series
pub last_is : (list : List Series) (last : Series) (k : KeptOutcome) → 1 ≤ length list → slice_get list (length list - 1) ≡ Some last → 1 ≤ length (outcomes_of last)
    → slice_get (outcomes_of last) (length (outcomes_of last) - 1) ≡ Some k → slice_get (all_outcomes list) (length (all_outcomes list) - 1) ≡ Some k
last_is list last k some is full at =
    ap (λ (ks : List KeptOutcome). slice_get ks (length ks - 1)) all
    ∙ ap (slice_get (all_outcomes front ++ outcomes_of last)) end
    ∙ get-right (all_outcomes front) (outcomes_of last) (length (outcomes_of last) - 1)
    ∙ at
  where
    front : List Series
    front = take (length list - 1) list

    end : length (all_outcomes front ++ outcomes_of last) - 1 ≡ length (all_outcomes front) + (length (outcomes_of last) - 1)
    end = omega (arith, full, length-append (all_outcomes front) (outcomes_of last))

    parts : list ≡ front ++ last ∷ []
    parts =
        sym (take_all (length list - 1 + 1) list (omega (arith, some)))
        ∙ take_more list (length list - 1) last (omega (arith, some))
        ∙ ap (λ (s : Series). front ++ s ∷ []) (get_or_from_slice_get list (length list - 1) last last is)

    all : all_outcomes list ≡ all_outcomes front ++ outcomes_of last
    all = ap all_outcomes parts ∙ flat_map-append outcomes_of front (last ∷ []) ∙ ap (λ (ks : List KeptOutcome). all_outcomes front ++ ks) (append-nil (outcomes_of last))

-- ---- one outcome more

-- the last series with one outcome more
module _ (last longer : Series) (kept : KeptOutcome) (more : outcomes_of longer ≡ outcomes_of last ++ kept ∷ []) where
  extended_at : (list : List Series) (at : ℕ) → length list ≡ suc at → slice_get list at ≡ Some last
      → all_outcomes (slice_set list at longer) ≡ all_outcomes list ++ kept ∷ []
  extended_at [] at long is = cc
  extended_at (s ∷ []) zero long is =
      let same : s ≡ last = cc in
      append-nil (outcomes_of longer)
      ∙ more
      ∙ ap (λ (t : Series). outcomes_of t ++ kept ∷ []) (sym same)
      ∙ ap (λ (ks : List KeptOutcome). ks ++ kept ∷ []) (sym (append-nil (outcomes_of s)))
  extended_at (s ∷ t ∷ rest) zero long is = absurd (omega (arith, long))
  extended_at (s ∷ []) (suc at) long is = absurd (omega (arith, long))
  extended_at (s ∷ t ∷ rest) (suc at) long is =
      ap (λ (ks : List KeptOutcome). outcomes_of s ++ ks) (extended_at (t ∷ rest) at (omega (arith, long)) is)
      ∙ sym (append_assoc (outcomes_of s) (all_outcomes (t ∷ rest)) (kept ∷ []))

pub last_extended : (list : List Series) (last longer : Series) (kept : KeptOutcome) → 1 ≤ length list → slice_get list (length list - 1) ≡ Some last
    → outcomes_of longer ≡ outcomes_of last ++ kept ∷ [] → all_outcomes (slice_set list (length list - 1) longer) ≡ all_outcomes list ++ kept ∷ []
last_extended list last longer kept some is more = extended_at last longer kept more list (length list - 1) (omega (arith, some)) is

-- a property of each outcome is one of those in each series
pub All-part : (P : KeptOutcome → Type 0) (list : List Series) (i : ℕ) (first : Series) → All P (all_outcomes list) → i < length list → All P (outcomes_of (get_or list i first))
All-part P list i first all within j k short =
    subst P (get_or-flat_map outcomes_of list i j first k within short)
    (all _ k (omega (arith, short, length-flat_map-take outcomes_of list i first within)))
