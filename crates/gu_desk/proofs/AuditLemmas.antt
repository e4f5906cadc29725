-- Receipts, one after another, and their numbers.
use Rattle.gu_desk.proofs.Words.{◌≡◌, ◌≢◌, ℕ, suc, zero, ◌+◌, ◌-◌, ◌<◌, ◌≤◌, ◌==◌, ◌||◌, Bool, true, false, List, [], ◌∷◌, ◌++◌, length, take, Some, None, refl, sym, ap, subst, ◌∙◌, arith, append_assoc, append-nil, drop, set, length-append, length-set, ◌⊎◌, inl, inr, slice_get, flat_map, list_any, take-append_seam, take-append-le, take_all, slice_get_within, entry_at, Entry, Receipt, has_receipt, IsNumber, IsReceiptOf, AreReceiptsOf, AreSound, IsFaultOf, IsFirstFault, AreMarks}
use Rattle.std.proofs.lemmas.Bool.{cases_Bool}
use Rattle.std.proofs.lemmas.Grind.{flat_map-append}
use Rattle.std.proofs.lemmas.List.Folds.{list_any-append}
use Rattle.std.proofs.lemmas.Bool.Decides.{nat_tests}
use Rattle.gu_desk.specs.declared.error.AuditFault.{AuditFault}
use Rattle.gu_desk.specs.declared.error.AuditFault.TheVariants.{Memory, Missing, Differs, Twice, Unclaimed}

-- if an entry is at a number, there is an entry with that number
pub entry_number : (history : List Entry) (number : ℕ) (entry : Entry) → entry_at history number ≡ Some entry → IsNumber history number
entry_number history zero entry at = cc
entry_number history (suc place) entry at = let within = slice_get_within history place entry at in (omega arith, omega (arith, within))

-- if none is, there is none
pub no_entry : (history : List Entry) (number : ℕ) → entry_at history number ≡ None → ¬ IsNumber history number
no_entry history zero none (low, high) = absurd (omega arith)
no_entry [] (suc place) none (low, high) = absurd (omega arith)
no_entry (entry ∷ history) (suc zero) none is = cc
no_entry (entry ∷ history) (suc (suc place)) none (low, high) = no_entry history (suc place) none (omega arith, omega arith)

-- the list up to the item at an index
pub take_at : {X : Type 0} (xs : List X) (k : ℕ) (x : X) → slice_get xs k ≡ Some x → take (suc k) xs ≡ take k xs ++ x ∷ []
take_at [] k x at = cc
take_at (y ∷ ys) zero x at = let same : y ≡ x = cc in ap (λ z. z ∷ []) same
take_at (y ∷ ys) (suc k) x at = ap (λ zs. y ∷ zs) (take_at ys k x at)

or_false : (b : Bool) → (b || false) ≡ b
or_false true = refl
or_false false = refl

or_true : (b : Bool) → (b || true) ≡ true
or_true true = refl
or_true false = refl

-- whether an item of a list with one more passes a test
any_last : {X : Type 0} (p : X → Bool) (xs : List X) (x : X) → list_any p (xs ++ x ∷ []) ≡ (list_any p xs || p x)
any_last p xs x = list_any-append p xs (x ∷ []) ∙ ap (λ b. list_any p xs || b) (or_false (p x))

-- the number of a receipt for an entry is a number of the history
pub receipt_number : (h : List Entry) (r : Receipt) → IsReceiptOf h r → IsNumber h r.number
receipt_number h r stands = entry_number h r.number r.entry stands

-- what a mark says about a number
pub marked_as : (rs : List Receipt) (marks : List Bool) (n : ℕ) (b : Bool)
    → slice_get marks (n - 1) ≡ Some (has_receipt rs n) → slice_get marks (n - 1) ≡ Some b → has_receipt rs n ≡ b
marked_as rs marks n b marked is = let e = sym marked ∙ is in cc

-- the fault of a receipt that follows sound ones is the first fault
pub fault_first : (h : List Entry) (rs : List Receipt) (k : ℕ) (r : Receipt) (f : AuditFault)
    → AreSound h rs k → slice_get rs k ≡ Some r → IsFaultOf h (has_receipt (take k rs) r.number) r f → IsFirstFault h rs f
fault_first h rs k r Memory sound at is = absurd is
fault_first h rs k r (Missing n) sound at is = (k, r, record { sound = sound; here = at; is = is })
fault_first h rs k r (Differs n) sound at is = (k, r, record { sound = sound; here = at; is = is })
fault_first h rs k r (Twice n) sound at is = (k, r, record { sound = sound; here = at; is = is })
fault_first h rs k r (Unclaimed n) sound at is = absurd is

below_or_at : (j k : ℕ) → j < k + 1 → (j < k) ⊎ (j ≡ k)
below_or_at zero zero less = inr refl
below_or_at zero (suc k) less = inl (omega arith)
below_or_at (suc j) zero less = absurd (omega arith)
below_or_at (suc j) (suc k) less = elim (below_or_at j k (omega arith)) [ inl h ↦ inl (omega arith) | inr e ↦ inr (ap suc e) ]

-- one more receipt is sound, if it is for its entry and its number is new
pub sound_more : (h : List Entry) (rs : List Receipt) (k : ℕ) (r : Receipt)
    → AreSound h rs k → slice_get rs k ≡ Some r → IsReceiptOf h r → has_receipt (take k rs) r.number ≡ false → AreSound h rs (k + 1)
sound_more h rs k r sound at stands new j s less here =
    elim (below_or_at j k less) [
      | inl before ↦ sound j s before here
      | inr is ↦
          let there : slice_get rs k ≡ Some s = ap (slice_get rs) (sym is) ∙ here in
          let same : r ≡ s = cc in
          subst (λ (u : Receipt). IsReceiptOf h u × (has_receipt (take j rs) u.number ≡ false)) same (stands, ap (λ i. has_receipt (take i rs) r.number) is ∙ new)
    ]

get_set_same : {X : Type 0} (xs : List X) (i : ℕ) (x : X) → i < length xs → slice_get (set xs i x) i ≡ Some x
get_set_same [] i x less = absurd (omega arith)
get_set_same (y ∷ ys) zero x less = refl
get_set_same (y ∷ ys) (suc i) x less = get_set_same ys i x (omega arith)

get_set_other : {X : Type 0} (xs : List X) (i j : ℕ) (x : X) → j ≢ i → slice_get (set xs i x) j ≡ slice_get xs j
get_set_other [] i j x apart = refl
get_set_other (y ∷ ys) zero zero x apart = absurd (apart refl)
get_set_other (y ∷ ys) zero (suc j) x apart = refl
get_set_other (y ∷ ys) (suc i) zero x apart = refl
get_set_other (y ∷ ys) (suc i) (suc j) x apart = get_set_other ys i j x (λ e. apart (ap suc e))

-- the marks with that of one more receipt
pub marked_more : (h : List Entry) (rs : List Receipt) (marks : List Bool) (k : ℕ) (r : Receipt)
    → length marks ≡ length h → slice_get rs k ≡ Some r → IsReceiptOf h r
    → ((number : ℕ) → IsNumber h number → slice_get marks (number - 1) ≡ Some (has_receipt (take k rs) number))
    → (number : ℕ) → IsNumber h number → slice_get (set marks (r.number - 1) true) (number - 1) ≡ Some (has_receipt (take (suc k) rs) number)
marked_more h rs marks k r sized at stands marked n number =
    let mine = receipt_number h r stands in
    let is : has_receipt (take (suc k) rs) n ≡ (has_receipt (take k rs) n || (r.number == n)) =
    ap (λ us. has_receipt us n) (take_at rs k r at) ∙ any_last (λ (u : Receipt). u.number == n) (take k rs) r in
    elim (cases_Bool (r.number == n)) [
      | inl hit ↦
          let same : r.number ≡ n = grind (arith, nat_tests) in
          let here : slice_get (set marks (r.number - 1) true) (r.number - 1) ≡ Some true = get_set_same marks (r.number - 1) true (omega (arith, mine, sized)) in
          let all : has_receipt (take (suc k) rs) n ≡ true = is ∙ ap (λ b. has_receipt (take k rs) n || b) hit ∙ or_true (has_receipt (take k rs) n) in
          ap (λ m. slice_get (set marks (r.number - 1) true) (m - 1)) (sym same) ∙ here ∙ ap Some (sym all)
      | inr miss ↦
          let apart : (n - 1) ≢ (r.number - 1) = λ e. let same : r.number ≡ n = omega (arith, mine, number) in grind (arith, nat_tests) in
          let all : has_receipt (take (suc k) rs) n ≡ has_receipt (take k rs) n = is ∙ ap (λ b. has_receipt (take k rs) n || b) miss ∙ or_false (has_receipt (take k rs) n) in
          get_set_other marks (r.number - 1) (n - 1) true apart ∙ marked n number ∙ ap Some (sym all)
    ]

-- an item of a list followed by others
get_before : {X : Type 0} (xs ys : List X) (k : ℕ) → k < length xs → slice_get (xs ++ ys) k ≡ slice_get xs k
get_before [] ys k less = absurd (omega arith)
get_before (x ∷ xs) ys zero less = refl
get_before (x ∷ xs) ys (suc k) less = get_before xs ys k (omega arith)

-- the first item after those of a list
get_seam : {X : Type 0} (xs : List X) (x : X) (ys : List X) → slice_get (xs ++ x ∷ ys) (length xs) ≡ Some x
get_seam [] x ys = refl
get_seam (y ∷ xs) x ys = get_seam xs x ys

-- a list around the item at an index
pub around : {X : Type 0} (xs : List X) (k : ℕ) (x : X) → slice_get xs k ≡ Some x → xs ≡ take k xs ++ x ∷ drop (suc k) xs
around [] k x at = cc
around (y ∷ ys) zero x at = let same : y ≡ x = cc in ap (λ z. z ∷ ys) same
around (y ∷ ys) (suc k) x at = ap (λ zs. y ∷ zs) (around ys k x at)

-- receipts are sound whatever follows them
sound_before : (h : List Entry) (rs more : List Receipt) → AreSound h rs (length rs) → AreSound h (rs ++ more) (length rs)
sound_before h rs more sound j r less here =
    let there : slice_get rs j ≡ Some r = sym (get_before rs more j less) ∙ here in
    let is = sound j r less there in
    (is.0, ap (λ (us : List Receipt). has_receipt us r.number) (take-append-le j rs more (omega arith)) ∙ is.1)

-- the fault of the receipt after those looked at
pub fault_after : (h : List Entry) (seen rest : List Receipt) (marks : List Bool) (r : Receipt) (f : AuditFault)
    → AreMarks h seen marks
    → ((earlier : Bool) → (IsNumber h r.number → slice_get marks (r.number - 1) ≡ Some earlier) → IsFaultOf h earlier r f)
    → IsFirstFault h (seen ++ r ∷ rest) f
fault_after h seen rest marks r f are found =
    let is = found (has_receipt seen r.number) (are.marked r.number) in
    fault_first h (seen ++ r ∷ rest) (length seen) r f
    (sound_before h seen (r ∷ rest) are.sound)
    (get_seam seen r rest)
    (subst (λ (us : List Receipt). IsFaultOf h (has_receipt us r.number) r f) (sym (take-append_seam seen (r ∷ rest))) is)

-- the marks with that of one more receipt
pub mark_after : (h : List Entry) (seen : List Receipt) (marks : List Bool) (r : Receipt)
    → AreMarks h seen marks → IsReceiptOf h r → slice_get marks (r.number - 1) ≡ Some false
    → AreMarks h (seen ++ r ∷ []) (set marks (r.number - 1) true)
mark_after h seen marks r are stands free =
    let number = receipt_number h r stands in
    let seam : take (length seen) (seen ++ r ∷ []) ≡ seen = take-append_seam seen (r ∷ []) in
    let new : has_receipt seen r.number ≡ false = marked_as seen marks r.number false (are.marked r.number number) free in
    let new_there : has_receipt (take (length seen) (seen ++ r ∷ [])) r.number ≡ false = ap (λ (us : List Receipt). has_receipt us r.number) seam ∙ new in
    let here = get_seam seen r [] in
    let long : length (seen ++ r ∷ []) ≡ length seen + 1 = length-append seen (r ∷ []) in
    let whole : take (suc (length seen)) (seen ++ r ∷ []) ≡ seen ++ r ∷ [] = take_all (suc (length seen)) (seen ++ r ∷ []) (omega arith) in
    let marked_there : (n : ℕ) → IsNumber h n → slice_get marks (n - 1) ≡ Some (has_receipt (take (length seen) (seen ++ r ∷ [])) n) =
    λ n is. are.marked n is ∙ ap (λ (us : List Receipt). Some (has_receipt us n)) (sym seam) in
    record {
      sized = length-set marks (r.number - 1) true ∙ are.sized;
      sound = λ j s less at. sound_more h (seen ++ r ∷ []) (length seen) r (sound_before h seen (r ∷ []) are.sound) here stands new_there j s (omega arith) at;
      marked = λ n is. marked_more h (seen ++ r ∷ []) marks (length seen) r are.sized here stands marked_there n is ∙ ap (λ (us : List Receipt). Some (has_receipt us n)) whole;
    }

-- before any receipt is looked at
pub none_marked : (h : List Entry) (marks : List Bool) → length marks ≡ length h
    → ((number : ℕ) → IsNumber h number → slice_get marks (number - 1) ≡ Some false) → AreMarks h [] marks
none_marked h marks sized marked = record { sized = sized; sound = λ j r less. absurd (omega arith); marked = marked }

-- the first missing mark is that of the lowest number without a receipt
pub first_unmarked : (h : List Entry) (rs : List Receipt) (marks : List Bool) (n : ℕ)
    → AreMarks h rs marks → 1 ≤ n → slice_get marks (n - 1) ≡ Some false
    → ((lesser : ℕ) → 1 ≤ lesser → lesser < n → slice_get marks (lesser - 1) ≡ Some true)
    → IsFirstFault h rs (Unclaimed n)
first_unmarked h rs marks n are low free others =
    let within = slice_get_within marks (n - 1) false free in
    let sized = are.sized in
    let number : IsNumber h n = (low, omega arith) in
    record {
      sound = are.sound;
      entry = number;
      none = marked_as rs marks n false (are.marked n number) free;
      least = λ m above less. marked_as rs marks m true (are.marked m (above, omega arith)) (others m above less);
    }

-- if no mark is missing, each entry has its receipt
pub all_marked : (h : List Entry) (rs : List Receipt) (marks : List Bool)
    → AreMarks h rs marks → ((n : ℕ) → 1 ≤ n → n ≤ length marks → slice_get marks (n - 1) ≡ Some true) → AreReceiptsOf h rs
all_marked h rs marks are every =
    let sized = are.sized in
    record { sound = are.sound; all = λ n is. marked_as rs marks n true (are.marked n is) (every n is.0 (omega (arith, is))) }

-- the receipts looked at, the next one, and the rest, among kept receipts with more before and after
pub around_kept : {X : Type 0} (seen xs rest : List X) (k : ℕ) (x : X) → slice_get xs k ≡ Some x
    → seen ++ (xs ++ rest) ≡ (seen ++ take k xs) ++ x ∷ (drop (suc k) xs ++ rest)
around_kept seen xs rest k x at =
    ap (λ ys. seen ++ (ys ++ rest)) (around xs k x at)
    ∙ ap (λ ys. seen ++ ys) (append_assoc (take k xs) (x ∷ drop (suc k) xs) rest)
    ∙ sym (append_assoc seen (take k xs) (x ∷ (drop (suc k) xs ++ rest)))

-- one part more
pub parts_more : {X Y : Type 0} (f : X → List Y) (xs : List X) (k : ℕ) (x : X) → slice_get xs k ≡ Some x
    → flat_map f (take (suc k) xs) ≡ flat_map f (take k xs) ++ f x
parts_more f xs k x at = ap (flat_map f) (take_at xs k x at) ∙ flat_map-append f (take k xs) (x ∷ []) ∙ ap (λ ys. flat_map f (take k xs) ++ ys) (append-nil (f x))

-- the parts around one
pub parts_around : {X Y : Type 0} (f : X → List Y) (xs : List X) (k : ℕ) (x : X) → slice_get xs k ≡ Some x
    → flat_map f xs ≡ flat_map f (take k xs) ++ (f x ++ flat_map f (drop (suc k) xs))
parts_around f xs k x at = ap (flat_map f) (around xs k x at) ∙ flat_map-append f (take k xs) (x ∷ drop (suc k) xs)
