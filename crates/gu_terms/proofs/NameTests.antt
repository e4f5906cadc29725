-- The test of a name.
use Rattle.std.proofs.Common.{◌≡◌, refl, ap, Bool, true, false, ◌&&◌, ℕ, List, length, Option, None, Some, IsSome, IfSome, ◌↔◌, if◌then◌else◌, arith, nat_le}
use Rattle.std.specs.List.{list_all}
use Rattle.std.proofs.lemmas.List.Sums.{AllPass-from_list_all, list_all-from_AllPass}
use Rattle.gu_terms.specs.Names.{IsName, is_name, is_name_byte}

three : (p q r : Bool) → (p && q && r) ≡ true → (p ≡ true) × (q ≡ true) × (r ≡ true)
three true true true h = (refl, refl, refl)
three true true false h = cc
three true false r h = cc
three false q r h = cc

-- bytes that pass are a name
pub IsName-from_test : (bytes : List ℕ) → is_name bytes ≡ true → IsName bytes
IsName-from_test bytes h =
    let t = three (nat_le 1 (length bytes)) (nat_le (length bytes) 12) (list_all is_name_byte bytes) h in
    record { some = search (arith, t.0); most = search (arith, t.1); each = AllPass-from_list_all is_name_byte bytes t.2 }

-- a name passes
pub test-from_IsName : (bytes : List ℕ) → IsName bytes → is_name bytes ≡ true
test-from_IsName bytes h =
    let a : nat_le 1 (length bytes) ≡ true = search (arith, h.some) in
    let b : nat_le (length bytes) 12 ≡ true = search (arith, h.most) in
    let c : list_all is_name_byte bytes ≡ true = list_all-from_AllPass is_name_byte bytes h.each in
    rw (a, b, c) refl

chosen : (b : Bool) (o : Option (List ℕ)) (bytes : List ℕ) → (b ≡ true → IsName bytes) → (IsName bytes → b ≡ true)
    → IsSome o ↔ IsName bytes → IfSome o (λ name. name ≡ bytes) → o ≡ (if b then Some bytes else None)
chosen true None bytes to from h same = let e : false ≡ true = h.1 (to refl) in cc
chosen false None bytes to from h same = refl
chosen true (Some name) bytes to from h same = ap Some same
chosen false (Some name) bytes to from h same = let e : false ≡ true = from (h.0 refl) in cc

-- the name that bytes make, if they are one
pub name_made : (o : Option (List ℕ)) (bytes : List ℕ) → IsSome o ↔ IsName bytes → IfSome o (λ name. name ≡ bytes) → o ≡ (if is_name bytes then Some bytes else None)
name_made o bytes h same = chosen (is_name bytes) o bytes (IsName-from_test bytes) (test-from_IsName bytes) h same
