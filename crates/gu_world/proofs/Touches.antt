-- Equal versions, and entries between them that touch nothing.
use Rattle.gu_world.proofs.Words.{◌≡◌, ◌↔◌, ℕ, ◌+◌, ◌<◌, ◌≤◌, Bool, true, false, nat_lt, List, [], ◌∷◌, ◌++◌, length, take, drop, Option, Some, None, is_some, cond, if◌then◌else◌, refl, sym, ap, subst, ◌∙◌, arith, length-append, append_assoc, append-nil, take-append-drop, find, option_to_list, nat_tests, length-take, Entry, Group, touches, touching, touching_after, version_of, touching_after-append, first_touch_above}

-- a number at the front, if a test passes
abbrev in_front : Bool → ℕ → List ℕ → List ℕ
in_front b n ns = option_to_list (if b then Some n else None) ++ ns

-- entries up to a number have no touch above it
none_low : (b : Bool) (n k : ℕ) (ns : List ℕ) → k ≤ n → find (nat_lt n) ns ≡ None → find (nat_lt n) (in_front b k ns) ≡ None
none_low true n k ns low h = grind (arith, nat_tests)
none_low false n k ns low h = h

low : (before es : List Entry) (group : Group) (n : ℕ) → length before + length es ≤ n → find (nat_lt n) (touching_after before group es) ≡ None
low before [] group n h = refl
low before (e ∷ es) group n h =
    none_low (touches before group e) n (length before + 1) (touching_after (before ++ e ∷ []) group es) (omega arith)
    (low (before ++ e ∷ []) es group n (omega (arith, length-append before (e ∷ []))))

-- those after it have one above it if they have one
some_high : (b : Bool) (n k : ℕ) (ns : List ℕ) → n < k → is_some (find (nat_lt n) ns) ≡ nat_lt 0 (length ns) → is_some (find (nat_lt n) (in_front b k ns)) ≡ nat_lt 0 (length (in_front b k ns))
some_high true n k ns high h = grind (arith, nat_tests)
some_high false n k ns high h = h

high : (before es : List Entry) (group : Group) (n : ℕ) → n ≤ length before → is_some (find (nat_lt n) (touching_after before group es)) ≡ nat_lt 0 (length (touching_after before group es))
high before [] group n h = refl
high before (e ∷ es) group n h =
    some_high (touches before group e) n (length before + 1) (touching_after (before ++ e ∷ []) group es) (omega arith)
    (high (before ++ e ∷ []) es group n (omega (arith, length-append before (e ∷ []))))

kept_after : (b : Bool) (x : ℕ) (f g o : Option ℕ) → cond b (Some x) f ≡ None → (f ≡ None → g ≡ o) → cond b (Some x) g ≡ o
kept_after true x f g o h k = cc
kept_after false x f g o h k = k h

pub found_after : (n : ℕ) (first second : List ℕ) → find (nat_lt n) first ≡ None → find (nat_lt n) (first ++ second) ≡ find (nat_lt n) second
found_after n [] second h = refl
found_after n (x ∷ first) second h = kept_after (nat_lt n x) x (find (nat_lt n) first) (find (nat_lt n) (first ++ second)) (find (nat_lt n) second) h (found_after n first second)

module _ (history : List Entry) (n : ℕ) (group : Group) where
  -- the touches of the entries up to a number, then those of the later ones
  pub touching_at : touching history group ≡ touching (take n history) group ++ touching_after (take n history) group (drop n history)
  touching_at = ap (λ (h : List Entry). touching h group) (sym (take-append-drop n history)) ∙ touching_after-append [] (take n history) (drop n history) group

  -- an entry above the number touches the group if there is a later touch
  touched_above : n ≤ length history → is_some (first_touch_above history group n) ≡ nat_lt 0 (length (touching_after (take n history) group (drop n history)))
  touched_above within =
      ap (λ (ns : List ℕ). is_some (find (nat_lt n) ns)) touching_at
      ∙ ap (λ (o : Option ℕ). is_some o) (found_after n (touching (take n history) group) (touching_after (take n history) group (drop n history)) (low [] (take n history) group n (omega (arith, length-take n history))))
      ∙ high (take n history) (drop n history) group n (omega (arith, length-take n history, within))

  -- versions at two moments are equal if and only if no entry between touches the group
  sizes : (first second all : List ℕ) → all ≡ first ++ second → (length first ≡ length all) ↔ (nat_lt 0 (length second) ≡ false)
  sizes first second all e =
      let size : length all ≡ length first + length second = ap {A = List ℕ} length e ∙ length-append first second in
      (λ h. grind (arith, nat_tests), λ h. grind (arith, nat_tests))

  pub versions_and_touches : n ≤ length history → (version_of (take n history) group ≡ version_of history group) ↔ (is_some (first_touch_above history group n) ≡ false)
  versions_and_touches within =
      let parts = sizes (touching (take n history) group) (touching_after (take n history) group (drop n history)) (touching history group) touching_at in
      (λ h. touched_above within ∙ parts.0 h, λ h. parts.1 (sym (touched_above within) ∙ h))
