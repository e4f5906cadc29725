-- Keys in order of mention, and their indexes.
use Rattle.gu_view.proofs.Words.{◌≡◌, ℕ, ◌+◌, ◌-◌, ◌<◌, ◌≤◌, ◌||◌, not, Bool, true, false, cond, List, [], ◌∷◌, ◌++◌, length, map, take, get_or, refl, sym, ap, ◌∙◌, subst, arith, inl, inr, append-nil, append_assoc, length-append, filter, AllByRecursion, flat_map, list_any, position_or_len, cases_Bool, or_left, or_right, flat_map_more, get_or-map, get_or-take, length-map, length-take, map_more, take_more, All-from_recursion, All-more, recursion_from_All, filter-append, list_any_at, list_any-append, eq, eq_is, key_eq-refl, key_eq-sym, along, list_any-agree, position_or_len-agree, key_eq, has_key, path_through, LimitKey, AreMentioned, IsPath, firsts, keys_of, place_among, ViewOffer}
use Rattle.gu_view.proofs.RoomLemmas.{has_key-others, has_key-keys_of, on_own_path}

-- one more key is mentioned
firsts_more : (keys : List LimitKey) (k : LimitKey) → firsts (keys ++ k ∷ []) ≡ cond (has_key (firsts keys) k) (firsts keys) (firsts keys ++ k ∷ [])
firsts_more [] k = refl
firsts_more (x ∷ keys) k = go (firsts_more keys k) (has_key (firsts keys) k) refl
  where
    go : firsts (keys ++ k ∷ []) ≡ cond (has_key (firsts keys) k) (firsts keys) (firsts keys ++ k ∷ []) → (b : Bool) → has_key (firsts keys) k ≡ b → x ∷ filter (λ j. not (key_eq x j)) (firsts (keys ++ k ∷ [])) ≡ cond (key_eq x k || has_key (filter (λ j. not (key_eq x j)) (firsts keys)) k) (firsts (x ∷ keys)) (firsts (x ∷ keys) ++ k ∷ [])
    go more true there =
        let before : firsts (keys ++ k ∷ []) ≡ firsts keys = more ∙ rw there refl in
        elim (cases_Bool (key_eq x k)) [
          | inl same ↦ rw (before, same) refl
          | inr other ↦ rw (before, other, has_key-others x k (firsts keys) other, there) refl
        ]
    go more false missing =
        let before : firsts (keys ++ k ∷ []) ≡ firsts keys ++ k ∷ [] = more ∙ rw missing refl in
        elim (cases_Bool (key_eq x k)) [
          | inl same ↦ rw (before, filter-append (λ j. not (key_eq x j)) (firsts keys) (k ∷ []), same) (ap (λ l. x ∷ l) (append-nil (filter (λ j. not (key_eq x j)) (firsts keys))))
          | inr other ↦ rw (before, filter-append (λ j. not (key_eq x j)) (firsts keys) (k ∷ []), other, has_key-others x k (firsts keys) other, missing) refl
        ]

-- keys already mentioned are mentioned again
pub firsts-known : (keys path : List LimitKey) → AllByRecursion (λ k. has_key (firsts keys) k ≡ true) path → firsts (keys ++ path) ≡ firsts keys
firsts-known keys [] known = ap firsts (append-nil keys)
firsts-known keys (k ∷ path) known =
    let same : firsts (keys ++ k ∷ []) ≡ firsts keys = firsts_more keys k ∙ rw known.0 refl in
    ap firsts (sym (append_assoc keys (k ∷ []) path))
    ∙ firsts-known (keys ++ k ∷ []) path (subst (λ (firsts' : List LimitKey). AllByRecursion (λ k. has_key firsts' k ≡ true) path) (sym same) known.1)
    ∙ same

-- the keys followed by this one, if it is new
abbrev pub with_key : List LimitKey → LimitKey → List LimitKey
with_key keys k = cond (list_any (eq k) keys) keys (keys ++ k ∷ [])

-- the key is then among them
pub has_key-with_key : (keys : List LimitKey) (k : LimitKey) → has_key (with_key keys k) k ≡ true
has_key-with_key keys k =
    elim (cases_Bool (list_any (eq k) keys)) [
      | inl hit ↦ rw hit (list_any-agree (λ j. key_eq j k) (eq k) keys (λ j. key_eq-sym j k ∙ sym (eq_is k j)) ∙ hit)
      | inr miss ↦ rw miss (list_any-append (λ j. key_eq j k) keys (k ∷ []) ∙ or_right (has_key keys k) (key_eq k k || false) (or_left (key_eq k k) false (key_eq-refl k)))
    ]

-- so are the earlier ones
pub has_key-stay : (keys : List LimitKey) (k j : LimitKey) → has_key keys j ≡ true → has_key (with_key keys k) j ≡ true
has_key-stay keys k j there =
    elim (cases_Bool (list_any (eq k) keys)) [
      | inl hit ↦ rw hit there
      | inr miss ↦ rw miss (list_any-append (λ j'. key_eq j' j) keys (k ∷ []) ∙ or_left (has_key keys j) (key_eq k j || false) there)
    ]

-- it is at the index where it is found
position_or_len-own : (test : LimitKey → Bool) (keys : List LimitKey) (k : LimitKey) → test k ≡ true → position_or_len test (keys ++ k ∷ []) ≡ position_or_len test keys
position_or_len-own test [] k hit = rw hit refl
position_or_len-own test (j ∷ keys) k hit = ap (λ n. cond (not (test j)) (1 + n) 0) (position_or_len-own test keys k hit)

pub place_among-with_key : (keys : List LimitKey) (k : LimitKey) → place_among (with_key keys k) k ≡ place_among keys k
place_among-with_key keys k =
    elim (cases_Bool (list_any (eq k) keys)) [
      | inl hit ↦ rw hit refl
      | inr miss ↦ rw miss (position_or_len-own (λ j. key_eq j k) keys k (key_eq-refl k))
    ]

-- the others stay at their indexes
position_or_len-stay : (test : LimitKey → Bool) (keys more : List LimitKey) → list_any test keys ≡ true → position_or_len test (keys ++ more) ≡ position_or_len test keys
position_or_len-stay test [] more there = cc
position_or_len-stay test (j ∷ keys) more there =
    elim (cases_Bool (test j)) [
      | inl hit ↦ rw hit refl
      | inr miss ↦ rw miss (ap (λ n. 1 + n) (position_or_len-stay test keys more (rw miss at there)))
    ]

pub place_among-stay : (keys : List LimitKey) (k j : LimitKey) → has_key keys j ≡ true → place_among (with_key keys k) j ≡ place_among keys j
place_among-stay keys k j there =
    elim (cases_Bool (list_any (eq k) keys)) [
      | inl hit ↦ rw hit refl
      | inr miss ↦ rw miss (position_or_len-stay (λ i. key_eq i j) keys (k ∷ []) there)
    ]

-- the index at which a key is added is its index among the keys
pub place_put : (keys : List LimitKey) (k : LimitKey) → position_or_len (eq k) keys ≡ place_among (with_key keys k) k
place_put keys k =
    position_or_len-agree (eq k) (λ j. key_eq j k) keys (λ j. eq_is k j ∙ key_eq-sym k j) ∙ sym (place_among-with_key keys k)

-- keys that stay have the same indexes
pub places-stay : (old new keys : List LimitKey) → ((k : LimitKey) → has_key old k ≡ true → place_among new k ≡ place_among old k) → AllByRecursion (λ k. has_key old k ≡ true) keys
    → map (place_among old) keys ≡ map (place_among new) keys
places-stay old new [] stay known = refl
places-stay old new (k ∷ keys) stay known = rw (stay k known.0, places-stay old new keys stay known.1) refl

pub all_places-stay : (old new : List LimitKey) (offers : List ViewOffer) → ((k : LimitKey) → has_key old k ≡ true → place_among new k ≡ place_among old k)
    → AllByRecursion (λ (o : ViewOffer). AllByRecursion (λ k. has_key old k ≡ true) o.path) offers
    → map (λ (o : ViewOffer). map (place_among old) o.path) offers ≡ map (λ (o : ViewOffer). map (place_among new) o.path) offers
all_places-stay old new [] stay known = refl
all_places-stay old new (o ∷ offers) stay known = rw (places-stay old new o.path stay known.0, all_places-stay old new offers stay known.1) refl

-- one more key of a path is mentioned
pub mention_more : (mentioned path keys : List LimitKey) (i : ℕ) (k : LimitKey) → i < length path → k ≡ get_or path i k → keys ≡ firsts (mentioned ++ take i path)
    → with_key keys k ≡ firsts (mentioned ++ take (i + 1) path)
mention_more mentioned path keys i k inside is are =
    let test : list_any (eq k) keys ≡ has_key (firsts (mentioned ++ take i path)) k =
    list_any-agree (eq k) (λ j. key_eq j k) keys (λ j. eq_is k j ∙ key_eq-sym k j) ∙ ap (λ l. has_key l k) are in
    let longer : mentioned ++ take (i + 1) path ≡ (mentioned ++ take i path) ++ k ∷ [] =
    ap (λ l. mentioned ++ l) (take_more path i k inside ∙ ap (λ x. take i path ++ x ∷ []) (sym is)) ∙ sym (append_assoc mentioned (take i path) (k ∷ [])) in
    rw (test, longer, are) (sym (firsts_more (mentioned ++ take i path) k))

-- one more index of a path
pub places_more : (keys path : List LimitKey) (made : List ℕ) (i : ℕ) (k : LimitKey) (place : ℕ) → i < length path → k ≡ get_or path i k → made ≡ map (place_among keys) (take i path) → place ≡ place_among keys k
    → made ++ place ∷ [] ≡ map (place_among keys) (take (i + 1) path)
places_more keys path made i k place inside is are at =
    ap (λ l. l ++ place ∷ []) are ∙ ap (λ n. map (place_among keys) (take i path) ++ n ∷ []) (at ∙ ap (place_among keys) is) ∙ sym (map_more (place_among keys) path i k inside)

-- at most one more key
pub length-with_key : (keys : List LimitKey) (k : LimitKey) → length (with_key keys k) ≤ length keys + 1
length-with_key keys k = go (list_any (eq k) keys)
  where
    go : (b : Bool) → length (cond b keys (keys ++ k ∷ [])) ≤ length keys + 1
    go true = omega arith
    go false = omega (arith, length-append keys (k ∷ []))

-- the keys of each path are among all keys
pub all_known : (offers : List ViewOffer) → AllByRecursion (λ (o : ViewOffer). AllByRecursion (λ k. has_key (keys_of offers) k ≡ true) o.path) offers
all_known offers =
    recursion_from_All (λ (o : ViewOffer). AllByRecursion (λ k. has_key (keys_of offers) k ≡ true) o.path) offers (λ i d inside.
    let o = get_or offers i d in
    along (λ k. has_key o.path k ≡ true) (λ k. has_key (keys_of offers) k ≡ true) o.path
    (λ k on_path. has_key-keys_of offers k ∙ list_any_at (λ (o : ViewOffer). has_key o.path k) offers i d inside on_path) (on_own_path o.path))

-- one more offer
pub keys_of-more : (offers : List ViewOffer) (i : ℕ) (o : ViewOffer) → i < length offers → o ≡ get_or offers i o → firsts (flat_map (λ (o : ViewOffer). o.path) (take i offers) ++ o.path) ≡ keys_of (take (i + 1) offers)
keys_of-more offers i o inside is =
    ap firsts (flat_map_more (λ (o : ViewOffer). o.path) [] (take i offers) o)
    ∙ ap keys_of (ap (λ (x : ViewOffer). take i offers ++ x ∷ []) is ∙ sym (take_more offers i o inside))

pub all_places-more : (keys : List LimitKey) (offers : List ViewOffer) (made : List (List ℕ)) (i : ℕ) (o : ViewOffer) (list : List ℕ) → i < length offers → o ≡ get_or offers i o
    → made ≡ map (λ (o : ViewOffer). map (place_among keys) o.path) (take i offers) → list ≡ map (place_among keys) o.path
    → made ++ list ∷ [] ≡ map (λ (o : ViewOffer). map (place_among keys) o.path) (take (i + 1) offers)
all_places-more keys offers made i o list inside is are at =
    let places : ViewOffer → List ℕ = λ o. map (place_among keys) o.path in
    ap (λ l. l ++ list ∷ []) are ∙ ap (λ l. map places (take i offers) ++ l ∷ []) (at ∙ ap places is) ∙ sym (map_more places offers i o inside)

-- the path of another offer of its agreement
path_again : (before o : ViewOffer) → before.agreement ≡ o.agreement → before.path ≡ o.path → IsPath before → IsPath o
path_again before o agreement same (e, c, d, g, is) = (e, c, d, g, sym same ∙ is ∙ ap (λ x. path_through e x c d g) agreement)

-- one more offer with the path of the previous one: its keys are mentioned already, and its list is the last
pub mentioned_again : (offers : List ViewOffer) (keys : List LimitKey) (places : List (List ℕ)) (i : ℕ) (before o : ViewOffer) → 0 < i → i < length offers
    → before ≡ get_or offers (i - 1) before → o ≡ get_or offers i o → before.agreement ≡ o.agreement → before.path ≡ o.path → AreMentioned (take i offers) keys places
    → AreMentioned (take (i + 1) offers) keys (places ++ get_or places (length places - 1) [] ∷ [])
mentioned_again offers keys places i before o some inside before_is is agreement same h =
    let seen = take i offers in
    let list_of : ViewOffer → List ℕ = λ o. map (place_among keys) o.path in
    let IsKnown : ViewOffer → Type 0 = λ o. AllByRecursion (λ k. has_key (keys_of seen) k ≡ true) o.path in
    let long : length seen ≡ i = omega (arith, length-take i offers) in
    let many : length places ≡ i = omega (arith, ap length h.places_are, length-map seen list_of) in
    let last : get_or seen (i - 1) before ≡ before = get_or-take i offers (i - 1) before (omega arith) ∙ sym before_is in
    let known : IsKnown before = subst IsKnown last (All-from_recursion IsKnown seen (all_known seen) (i - 1) before (omega arith)) in
    record {
      whole = All-more IsPath offers i o inside h.whole (subst IsPath is (path_again before o agreement same (subst IsPath last (h.whole (i - 1) before (omega arith)))));
      keys_are = h.keys_are
          ∙ sym (firsts-known (flat_map (λ (o : ViewOffer). o.path) seen) o.path (subst (AllByRecursion (λ k. has_key (keys_of seen) k ≡ true)) same known))
          ∙ keys_of-more offers i o inside is;
      few = omega (arith, h.few, long, length-take (i + 1) offers);
      places_are = all_places-more keys offers places i o (get_or places (length places - 1) []) inside is h.places_are
          (ap (λ n. get_or places (n - 1) []) many ∙ ap (λ (lists : List (List ℕ)). get_or lists (i - 1) []) h.places_are
          ∙ get_or-map list_of seen (i - 1) before [] (omega arith) ∙ ap list_of last ∙ ap (map (place_among keys)) same);
    }
