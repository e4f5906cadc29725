-- Versions: what entries add to them, and when two are equal.
use Rattle.gu_rules.proofs.Words.{◌≡◌, ◌↔◌, ℕ, zero, suc, ◌+◌, ◌-◌, ◌<◌, ◌≤◌, Bool, true, false, List, [], ◌∷◌, ◌++◌, length, take, drop, get_or, Some, None, refl, sym, ap, ◌∙◌, arith, append-nil, append_assoc, length-append, take-append-drop, if◌then◌else◌, slice_get, option_to_list, take-add, get_or-drop, length-drop, get_or_from_slice_get, slice_get-get_or, slice_get_within, Entry, Group, touches, touching, touching_after, version_of}

-- the touches of consecutive entries
pub touching_after-append : (before first later : List Entry) (group : Group)
    → touching_after before group (first ++ later) ≡ touching_after before group first ++ touching_after (before ++ first) group later
touching_after-append before [] later group = ap (λ (b : List Entry). touching_after b group later) (sym (append-nil before))
touching_after-append before (entry ∷ first) later group =
    let here = option_to_list (if touches before group entry then Some (length before + 1) else None) in
    let rest = touching_after (before ++ entry ∷ []) group first in
    ap (λ (l : List ℕ). here ++ l) (touching_after-append (before ++ entry ∷ []) first later group)
    ∙ sym (append_assoc here rest (touching_after (before ++ entry ∷ [] ++ first) group later))
    ∙ ap (λ (b : List Entry). here ++ rest ++ touching_after b group later) (append_assoc before (entry ∷ []) first)

-- later entries add their touches after the earlier ones
pub touching-append : (first later : List Entry) (group : Group) → touching (first ++ later) group ≡ touching first group ++ touching_after first group later
touching-append first later group = touching_after-append [] first later group

-- the version after one more entry
pub version_of-push : (history : List Entry) (entry : Entry) (group : Group)
    → version_of (history ++ entry ∷ []) group ≡ (if touches history group entry then version_of history group + 1 else version_of history group)
version_of-push history entry group =
    ap (λ (l : List ℕ). length l) (touching-append history (entry ∷ []) group) ∙ length-append (touching history group) (touching_after history group (entry ∷ []))
    ∙ by (touches history group entry)
  where
    by : (b : Bool) → version_of history group + length (option_to_list (if b then Some (length history + 1) else None) ++ [])
        ≡ (if b then version_of history group + 1 else version_of history group)
    by true = omega arith
    by false = omega arith

one_more : (b : Bool) (n : ℕ) (rest : List ℕ) → length (option_to_list (if b then Some n else None) ++ rest) ≤ length rest + 1
one_more true n rest = omega arith
one_more false n rest = omega arith

few_touches : (before later : List Entry) (group : Group) → length (touching_after before group later) ≤ length later
few_touches before [] group = omega arith
few_touches before (entry ∷ later) group =
    omega (arith, one_more (touches before group entry) (length before + 1) (touching_after (before ++ entry ∷ []) group later), few_touches (before ++ entry ∷ []) later group)

-- no group has a version above the number of entries
pub version-le : (history : List Entry) (group : Group) → version_of history group ≤ length history
version-le history group = few_touches [] history group

-- ---- equal versions

-- none of these entries touches the group, after these earlier ones
abbrev AreQuiet : List Entry → Group → List Entry → Type 0
AreQuiet before group later = (m : ℕ) (entry : Entry) → slice_get later m ≡ Some entry → touches (before ++ take m later) group entry ≡ false

-- this holds for the first of them and for those after it
quiet_first : (before : List Entry) (group : Group) (first : Entry) (later : List Entry) → AreQuiet before group (first ∷ later) → touches before group first ≡ false
quiet_first before group first later quiet = ap (λ (b : List Entry). touches b group first) (sym (append-nil before)) ∙ quiet 0 first refl

quiet_rest : (before : List Entry) (group : Group) (first : Entry) (later : List Entry) → AreQuiet before group (first ∷ later) → AreQuiet (before ++ first ∷ []) group later
quiet_rest before group first later quiet m entry at =
    ap (λ (b : List Entry). touches b group entry) (append_assoc before (first ∷ []) (take m later)) ∙ quiet (suc m) entry at

none_counted : (b : Bool) (n : ℕ) (rest : List ℕ) → length (option_to_list (if b then Some n else None) ++ rest) ≡ 0 → (b ≡ false) × (length rest ≡ 0)
none_counted true n rest h = absurd (omega (arith, h))
none_counted false n rest h = (refl, h)

-- the count of touches is 0 if and only if no entry touches
quiet_none : (before : List Entry) (group : Group) (later : List Entry) → AreQuiet before group later → length (touching_after before group later) ≡ 0
quiet_none before group [] quiet = refl
quiet_none before group (entry ∷ later) quiet =
    ap (λ (b : Bool). length (option_to_list (if b then Some (length before + 1) else None) ++ touching_after (before ++ entry ∷ []) group later)) (quiet_first before group entry later quiet)
    ∙ quiet_none (before ++ entry ∷ []) group later (quiet_rest before group entry later quiet)

none_quiet : (before : List Entry) (group : Group) (later : List Entry) → length (touching_after before group later) ≡ 0 → AreQuiet before group later
none_quiet before group [] none m entry at = cc
none_quiet before group (first ∷ later) none zero entry at =
    let here = (none_counted (touches before group first) (length before + 1) (touching_after (before ++ first ∷ []) group later) none).0 in
    let same : first ≡ entry = cc in
    ap (λ (b : List Entry). touches b group entry) (append-nil before) ∙ ap (touches before group) (sym same) ∙ here
none_quiet before group (first ∷ later) none (suc m) entry at =
    let rest = (none_counted (touches before group first) (length before + 1) (touching_after (before ++ first ∷ []) group later) none).1 in
    ap (λ (b : List Entry). touches b group entry) (sym (append_assoc before (first ∷ []) (take m later)))
    ∙ none_quiet (before ++ first ∷ []) group later rest m entry at

-- the version after all entries is that after the first ones plus the touches of the others
version_at : (history : List Entry) (k : ℕ) (group : Group)
    → version_of history group ≡ version_of (take k history) group + length (touching_after (take k history) group (drop k history))
version_at history k group =
    ap (λ (h : List Entry). version_of h group) (sym (take-append-drop k history))
    ∙ ap (λ (l : List ℕ). length l) (touching-append (take k history) (drop k history) group)
    ∙ length-append (touching (take k history) group) (touching_after (take k history) group (drop k history))

-- an entry after the first ones is among the others
behind : (history : List Entry) (k m : ℕ) (entry : Entry) → slice_get (drop k history) m ≡ Some entry → slice_get history (k + m) ≡ Some entry
behind history k m entry at =
    let inside = slice_get_within (drop k history) m entry at in
    let here : get_or history (k + m) entry ≡ entry = sym (get_or-drop k history m entry) ∙ get_or_from_slice_get (drop k history) m entry entry at in
    let within : k + m < length history = omega (arith, inside, length-drop k history) in
    slice_get-get_or history (k + m) entry within ∙ ap (λ (e : Entry). Some e) here

among : (history : List Entry) (k m : ℕ) (entry : Entry) → slice_get history (k + m) ≡ Some entry → slice_get (drop k history) m ≡ Some entry
among history k m entry at =
    let inside = slice_get_within history (k + m) entry at in
    let here : get_or (drop k history) m entry ≡ entry = get_or-drop k history m entry ∙ get_or_from_slice_get history (k + m) entry entry at in
    let within : m < length (drop k history) = omega (arith, inside, length-drop k history) in
    slice_get-get_or (drop k history) m entry within ∙ ap (λ (e : Entry). Some e) here

-- versions at two moments of one history are equal if and only if no entry between touches the group
pub equal_versions : (history : List Entry) (k : ℕ) (group : Group) → (version_of (take k history) group ≡ version_of history group)
    ↔ ((m : ℕ) (entry : Entry) → k ≤ m → slice_get history m ≡ Some entry → touches (take m history) group entry ≡ false)
equal_versions history k group = (forth, back)
  where
    later : List Entry
    later = drop k history

    forth : version_of (take k history) group ≡ version_of history group → (m : ℕ) (entry : Entry) → k ≤ m → slice_get history m ≡ Some entry → touches (take m history) group entry ≡ false
    forth same m entry from at =
        let none : length (touching_after (take k history) group (drop k history)) ≡ 0 = omega (arith, same, version_at history k group) in
        let place : k + (m - k) ≡ m = omega arith in
        let there = among history k (m - k) entry (ap (slice_get history) place ∙ at) in
        ap (λ (h : List Entry). touches h group entry) (ap (λ (n : ℕ). take n history) (sym place) ∙ take-add k (m - k) history)
        ∙ none_quiet (take k history) group (drop k history) none (m - k) entry there

    back : ((m : ℕ) (entry : Entry) → k ≤ m → slice_get history m ≡ Some entry → touches (take m history) group entry ≡ false) → version_of (take k history) group ≡ version_of history group
    back quiet =
        let none = quiet_none (take k history) group (drop k history)
        (λ m entry at. ap (λ (h : List Entry). touches h group entry) (sym (take-add k m history)) ∙ quiet (k + m) entry (omega arith) (behind history k m entry at)) in
        omega (arith, none, version_at history k group)
