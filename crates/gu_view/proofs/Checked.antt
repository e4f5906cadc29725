-- The meaning of the verdict on takes and a cut.
use Rattle.gu_view.proofs.Words.{◌≡◌, ℕ, ◌+◌, ◌≤◌, ◌<◌, ◌&&◌, ◌==◌, not, nat_lt, Bool, true, false, cond, List, [], ◌∷◌, Option, Some, None, Result, Ok, Err, length, take, get_or, refl, sym, ap, ◌∙◌, arith, inl, inr, All, find, sum, sum_by, OnOk, list_any, zip, option_map, cases_Bool, not-false, not_from_true, lt-ltb, le-ltb, ltb-false, ltb-true, eqb-true, eq-eqb, ne_eqb, and_left, and_right, get_or-take, length-take, get_or_default, All-from_recursion, recursion_from_All, sum-map, sum_by-le, CutLists, has_number, has_key, lots_of, Agr, key_eq-same, key_eq-from, has_offer, has_room, unknown_take, unknown_key, unknown_offer, over_offer, over_limit, has_older_rest, not_oldest_first, uncovered, room_differs, first_found, unless, verdict_of_known, verdict, IsRight, is_covered, room_of, same_agreement, IsMarked, IsGreatest, IsOldestFirst, lots_under, total, GroupView, IsView, RoomDiffers, ViewOffer, Room, Later-from_AllPairs, along, any_none, find_none, none_any, none_found, sum_by-zip, sum_by-zip-le}
use Rattle.gu_terms.specs.declared.takes.Take.{Take}
use Rattle.gu_view.specs.declared.error.CutFault.{CutFault}
use Rattle.gu_view.proofs.CutBounds.{greatest_by_cut}
use Rattle.gu_view.proofs.TakesLemmas.{is_too_early, older_is_before}

-- the offers of a view are few and small, and so are its rooms
pub lots_small : (view : GroupView) → IsView view → sum_by (λ (o : ViewOffer). o.lots) view.offers ≤ 4096000000
lots_small view sound = omega (arith, sum_by-le (λ (o : ViewOffer). o.lots) 1000000 view.offers (λ i d inside. (sound.lots i d inside).most), sound.few)

pub keys_small : (view : GroupView) (marks : List Bool) → IsView view → sum_by (λ (p : Room × Bool). cond p.1 p.0.lots 0) (zip view.rooms marks) ≤ 20480000000000
keys_small view marks sound =
    omega (arith, sum_by-zip-le (λ (r : Room). r.lots) 1000000000 view.rooms marks (recursion_from_All (λ (r : Room). r.lots ≤ 1000000000) view.rooms sound.limits), sound.few_rooms)

pub offers_small : (view : GroupView) (marks : List Bool) → IsView view → sum_by (λ (p : ViewOffer × Bool). cond p.1 p.0.lots 0) (zip view.offers marks) ≤ 4096000000
offers_small view marks sound =
    omega (arith, sum_by-zip-le (λ (o : ViewOffer). o.lots) 1000000 view.offers marks (recursion_from_All (λ (o : ViewOffer). o.lots ≤ 1000000) view.offers (λ i d inside. (sound.lots i d inside).most)), sound.few)

module _ (view : GroupView) (taken : List ℕ) (keys numbers : List Bool) (lots : ℕ → ℕ) (cut : CutLists) (marked : IsMarked view taken keys numbers lots cut) where
  -- the sums over indexes equal those in the definitions
  total_is : (n : ℕ) → n ≡ sum taken → total view.offers lots ≡ n
  total_is n is = sym (is ∙ ap sum marked.taken_are ∙ sum-map (λ (o : ViewOffer). lots o.number) view.offers)

  room_is : (k o : ℕ) → k ≡ sum_by (λ (p : Room × Bool). cond p.1 p.0.lots 0) (zip view.rooms keys) → o ≡ sum_by (λ (p : ViewOffer × Bool). cond p.1 p.0.lots 0) (zip view.offers numbers) → room_of view cut ≡ k + o
  room_is k o k-is o-is =
      omega (
        arith,
        k-is ∙ ap (λ l. sum_by (λ (p : Room × Bool). cond p.1 p.0.lots 0) (zip view.rooms l)) marked.keys_are ∙ sum_by-zip (λ (r : Room). r.lots) (λ (r : Room). has_key cut.keys r.key) view.rooms,
        o-is ∙ ap (λ l. sum_by (λ (p : ViewOffer × Bool). cond p.1 p.0.lots 0) (zip view.offers l)) marked.numbers_are ∙ sum_by-zip (λ (o : ViewOffer). o.lots) (λ (o : ViewOffer). has_number cut.offers o.number) view.offers,
      )

  -- no fault, or a room that differs
  pub known_ok : (n k o : ℕ) → over_offer view.offers lots ≡ None → over_limit view.offers view.rooms lots ≡ None → not_oldest_first view.offers lots ≡ None → uncovered view.offers cut ≡ None
      → n ≡ sum taken → k ≡ sum_by (λ (p : Room × Bool). cond p.1 p.0.lots 0) (zip view.rooms keys) → o ≡ sum_by (λ (p : ViewOffer × Bool). cond p.1 p.0.lots 0) (zip view.offers numbers)
      → n ≡ k + o → Ok n ≡ verdict_of_known view lots cut
  known_ok n k o e1 e2 e3 e4 n-is k-is o-is same =
      rw (e1, e2, e3, e4, total_is n n-is, room_is k o k-is o-is, eq-eqb n (k + o) same) refl

  pub known_differs : (n k o : ℕ) → over_offer view.offers lots ≡ None → over_limit view.offers view.rooms lots ≡ None → not_oldest_first view.offers lots ≡ None → uncovered view.offers cut ≡ None
      → n ≡ sum taken → k ≡ sum_by (λ (p : Room × Bool). cond p.1 p.0.lots 0) (zip view.rooms keys) → o ≡ sum_by (λ (p : ViewOffer × Bool). cond p.1 p.0.lots 0) (zip view.offers numbers)
      → (n ≡ k + o → ⊥) → Err RoomDiffers ≡ verdict_of_known view lots cut
  known_differs n k o e1 e2 e3 e4 n-is k-is o-is other =
      rw (e1, e2, e3, e4, total_is n n-is, room_is k o k-is o-is, ne_eqb n (k + o) other) refl

-- the first fault decides
unless_ok : (found : Option CutFault) (answer : Result ℕ CutFault) (n : ℕ) → unless found answer ≡ Ok n → (found ≡ None) × (answer ≡ Ok n)
unless_ok None answer n h = (refl, h)
unless_ok (Some fault) answer n h = cc

first_none : (found : Option CutFault) (others : List (Option CutFault)) → first_found (found ∷ others) ≡ None → (found ≡ None) × (first_found others ≡ None)
first_none None others h = (refl, h)
first_none (Some fault) others h = cc

named_none : {X : Type 0} (f : X → CutFault) (found : Option X) → option_map f found ≡ None → found ≡ None
named_none f None h = refl
named_none f (Some x) h = cc

-- what holds if the search for a counterexample finds nothing
all_known : {X : Type 0} (f : X → CutFault) (known : X → Bool) (xs : List X) → option_map f (find (λ x. not (known x)) xs) ≡ None → All (λ x. known x ≡ true) xs
all_known f known xs h =
    All-from_recursion (λ x. known x ≡ true) xs
    (along (λ x. not (known x) ≡ false) (λ x. known x ≡ true) xs (λ x e. not-false (known x) e) (find_none (λ x. not (known x)) xs (named_none f (find (λ x. not (known x)) xs) h)))

none_missing : {X : Type 0} (f : X → CutFault) (known : X → Bool) (xs : List X) → All (λ x. known x ≡ true) xs → option_map f (find (λ x. not (known x)) xs) ≡ None
none_missing f known xs h =
    ap (option_map f) (none_found (λ x. not (known x)) xs (along (λ x. known x ≡ true) (λ x. not (known x) ≡ false) xs (λ x e. not_from_true (known x) e) (recursion_from_All (λ x. known x ≡ true) xs h)))

-- nothing is above its bound
all_within : {X : Type 0} (f : X → CutFault) (bound n : X → ℕ) (xs : List X) → option_map f (find (λ x. nat_lt (bound x) (n x)) xs) ≡ None → All (λ x. n x ≤ bound x) xs
all_within f bound n xs h =
    All-from_recursion (λ x. n x ≤ bound x) xs
    (along (λ x. nat_lt (bound x) (n x) ≡ false) (λ x. n x ≤ bound x) xs (λ x e. ltb-false (bound x) (n x) e) (find_none (λ x. nat_lt (bound x) (n x)) xs (named_none f (find (λ x. nat_lt (bound x) (n x)) xs) h)))

none_above : {X : Type 0} (f : X → CutFault) (bound n : X → ℕ) (xs : List X) → All (λ x. n x ≤ bound x) xs → option_map f (find (λ x. nat_lt (bound x) (n x)) xs) ≡ None
none_above f bound n xs h =
    ap (option_map f) (none_found (λ x. nat_lt (bound x) (n x)) xs (along (λ x. n x ≤ bound x) (λ x. nat_lt (bound x) (n x) ≡ false) xs (λ x e. le-ltb (bound x) (n x) e) (recursion_from_All (λ x. n x ≤ bound x) xs h)))

-- two offers are under the same agreement
agreement-same : (a b : ViewOffer) → same_agreement a b ≡ true → a.agreement ≡ b.agreement
agreement-same a b h = let same = key_eq-same (Agr a.agreement) (Agr b.agreement) h in cc

module _ (view : GroupView) (sound : IsView view) (lots : ℕ → ℕ) (within : All (λ o. lots o.number ≤ o.lots) view.offers) where
  -- an older offer that isn't full
  rests : ViewOffer → ViewOffer → Bool
  rests o older = same_agreement older o && nat_lt (lots older.number) older.lots

  older : (j : ℕ) (d : ViewOffer) → j < length view.offers → has_older_rest view.offers lots (get_or view.offers j d) ≡ list_any (rests (get_or view.offers j d)) (take j view.offers)
  unfolding rests
  older j d inside =
      older_is_before (λ e. same_agreement e (get_or view.offers j d) && nat_lt (lots e.number) e.lots) view.offers j d inside (Later-from_AllPairs (λ (a b : ViewOffer). a.number < b.number) view.offers sound.ascending)

  -- none takes lots too early
  pub oldest_first : not_oldest_first view.offers lots ≡ None → IsOldestFirst view lots
  unfolding rests
  oldest_first none i j d before inside same takes =
      let e = get_or view.offers i d in
      let o = get_or view.offers j d in
      let quiet : is_too_early view.offers lots o ≡ false =
      All-from_recursion (λ o. is_too_early view.offers lots o ≡ false) view.offers (find_none (is_too_early view.offers lots) view.offers (named_none _ (find (is_too_early view.offers lots) view.offers) none)) j d inside in
      let no_rest : list_any (rests o) (take j view.offers) ≡ false = sym (older j d inside) ∙ rest_of (nat_lt 0 (lots o.number)) (has_older_rest view.offers lots o) (lt-ltb 0 (lots o.number) takes) quiet in
      let at : get_or (take j view.offers) i d ≡ e = get_or-take j view.offers i d before in
      let full : rests o e ≡ false =
      ap (rests o) (sym at) ∙ All-from_recursion (λ e. rests o e ≡ false) (take j view.offers) (any_none (rests o) (take j view.offers) no_rest) i d (omega (arith, length-take j view.offers)) in
      let enough = ltb-false (lots e.number) e.lots (rest_of (same_agreement e o) (nat_lt (lots e.number) e.lots) (key_eq-from (Agr e.agreement) (Agr o.agreement) (ap (λ a. Agr a) same)) full) in
      omega (arith, within i d (omega arith))
    where
      rest_of : (a b : Bool) → a ≡ true → (a && b) ≡ false → b ≡ false
      rest_of true b h e = e
      rest_of false b h e = cc

  pub none_early : IsOldestFirst view lots → not_oldest_first view.offers lots ≡ None
  unfolding rests
  none_early oldest =
      ap (option_map _) (none_found (is_too_early view.offers lots) view.offers (recursion_from_All (λ o. is_too_early view.offers lots o ≡ false) view.offers quiet))
    where
      full : (i j : ℕ) (d : ViewOffer) → i < j → j < length view.offers → 0 < lots (get_or view.offers j d).number → rests (get_or view.offers j d) (get_or (take j view.offers) i d) ≡ false
      full i j d before inside takes =
          rw (get_or-take j view.offers i d before) (
          elim (cases_Bool (same_agreement (get_or view.offers i d) (get_or view.offers j d))) [
            | inl same ↦
                and_right _ _ (le-ltb (lots (get_or view.offers i d).number) (get_or view.offers i d).lots (omega (arith, oldest i j d before inside (agreement-same (get_or view.offers i d) (get_or view.offers j d) same) takes)))
            | inr other ↦ and_left _ _ other
          ])

      quiet : (j : ℕ) (d : ViewOffer) → j < length view.offers → is_too_early view.offers lots (get_or view.offers j d) ≡ false
      quiet j d inside =
          elim (cases_Bool (nat_lt 0 (lots (get_or view.offers j d).number))) [
            | inl takes ↦
                and_right _ _ (older j d inside ∙ none_any (rests (get_or view.offers j d)) (take j view.offers) (recursion_from_All (λ e. rests (get_or view.offers j d) e ≡ false) (take j view.offers)
                (λ i e within'. ap (rests (get_or view.offers j d)) (get_or_default (take j view.offers) i e d within') ∙ full i j d (omega (arith, length-take j view.offers)) inside (ltb-true 0 (lots (get_or view.offers j d).number) takes))))
            | inr idle ↦ and_left _ _ idle
          ]

-- the room equals the lots taken
same_room : (a b : ℕ) → (cond (a == b) None (Some RoomDiffers)) ≡ None → a ≡ b
same_room a b h =
    elim (cases_Bool (a == b)) [
      | inl same ↦ eqb-true a b same
      | inr other ↦ let never : Some RoomDiffers ≡ None = rw other at h in absurd (some_none never)
    ]
  where
    some_none : {f : CutFault} → Some f ≡ None → ⊥
    some_none h = cc

module _ (view : GroupView) (sound : IsView view) (takes : List Take) (cut : CutLists) (n : ℕ) where
  -- a positive verdict implies all of it
  pub right_from_ok : verdict view takes cut ≡ Ok n → IsRight view takes cut n
  right_from_ok h =
      let lots = lots_of takes in
      let outer = unless_ok (first_found (unknown_take view.offers takes ∷ unknown_key view.rooms cut.keys ∷ unknown_offer view.offers cut.offers ∷ [])) (verdict_of_known view lots cut) n h in
      let a = first_none (unknown_take view.offers takes) (unknown_key view.rooms cut.keys ∷ unknown_offer view.offers cut.offers ∷ []) outer.0 in
      let b = first_none (unknown_key view.rooms cut.keys) (unknown_offer view.offers cut.offers ∷ []) a.1 in
      let c = first_none (unknown_offer view.offers cut.offers) [] b.1 in
      let inner = unless_ok (first_found (over_offer view.offers lots ∷ over_limit view.offers view.rooms lots ∷ not_oldest_first view.offers lots ∷ uncovered view.offers cut ∷ room_differs view lots cut ∷ [])) (Ok (total view.offers lots)) n outer.1 in
      let d = first_none (over_offer view.offers lots) (over_limit view.offers view.rooms lots ∷ not_oldest_first view.offers lots ∷ uncovered view.offers cut ∷ room_differs view lots cut ∷ []) inner.0 in
      let e = first_none (over_limit view.offers view.rooms lots) (not_oldest_first view.offers lots ∷ uncovered view.offers cut ∷ room_differs view lots cut ∷ []) d.1 in
      let f = first_none (not_oldest_first view.offers lots) (uncovered view.offers cut ∷ room_differs view lots cut ∷ []) e.1 in
      let g = first_none (uncovered view.offers cut) (room_differs view lots cut ∷ []) f.1 in
      let h' = first_none (room_differs view lots cut) [] g.1 in
      let within = all_within _ (λ (o : ViewOffer). o.lots) (λ (o : ViewOffer). lots o.number) view.offers d.0 in
      let taken : total view.offers lots ≡ n = ok_same (total view.offers lots) n inner.1 in
      record {
        takes_known = all_known _ (λ (t : Take). has_offer view.offers t.offer) takes a.0;
        keys_known = all_known _ (has_room view.rooms) cut.keys b.0;
        offers_known = all_known _ (has_offer view.offers) cut.offers c.0;
        admissible = record { offers = within; rooms = all_within _ (λ (r : Room). r.lots) (λ (r : Room). lots_under view.offers r.key lots) view.rooms e.0 };
        oldest_first = oldest_first view sound lots within f.0;
        covers = all_known _ (is_covered cut) view.offers g.0;
        taken = taken;
        room = sym (same_room (total view.offers lots) (room_of view cut) h'.0) ∙ taken;
      }
    where
      ok_same : (a b : ℕ) → ◌≡◌ {A = Result ℕ CutFault} (Ok a) (Ok b) → a ≡ b
      ok_same a b h = cc

  -- all of it implies a positive verdict
  pub ok_from_right : IsRight view takes cut n → verdict view takes cut ≡ Ok n
  ok_from_right right =
      let lots = lots_of takes in
      rw (
        none_missing _ (λ (t : Take). has_offer view.offers t.offer) takes right.takes_known,
        none_missing _ (has_room view.rooms) cut.keys right.keys_known,
        none_missing _ (has_offer view.offers) cut.offers right.offers_known,
        none_above _ (λ (o : ViewOffer). o.lots) (λ (o : ViewOffer). lots o.number) view.offers right.admissible.offers,
        none_above _ (λ (r : Room). r.lots) (λ (r : Room). lots_under view.offers r.key lots) view.rooms right.admissible.rooms,
        none_early view sound lots right.admissible.offers right.oldest_first,
        none_missing _ (is_covered cut) view.offers right.covers,
        right.taken,
        right.room,
        eq-eqb n n refl,
      ) refl

-- with a positive verdict the takes are greatest
pub greatest_if_ok : (view : GroupView) (takes : List Take) (cut : CutLists) (answer : Result ℕ CutFault) → IsView view → answer ≡ verdict view takes cut → OnOk answer (IsGreatest view (lots_of takes))
greatest_if_ok view takes cut (Ok n) sound is =
    let right = right_from_ok view sound takes cut n (sym is) in
    greatest_by_cut view cut (lots_of takes) sound right.admissible right.covers (right.taken ∙ sym right.room)
greatest_if_ok view takes cut (Err fault) sound is = tt

-- if takes and cut name only what the view has, what they name is no fault
pub verdict_known : (view : GroupView) (takes : List Take) (cut : CutLists) (answer : Result ℕ CutFault) → unknown_take view.offers takes ≡ None → unknown_key view.rooms cut.keys ≡ None → unknown_offer view.offers cut.offers ≡ None
    → answer ≡ verdict_of_known view (lots_of takes) cut → answer ≡ verdict view takes cut
verdict_known view takes cut answer e1 e2 e3 is = is ∙ sym (rw (e1, e2, e3) refl)
