-- Sums over offers after one of them changes.
use Rattle.gu_rules.proofs.Words.{◌≡◌, ◌≢◌, ℕ, zero, suc, ◌+◌, ◌<◌, List, [], ◌∷◌, sum_by, Some, refl, sym, ap, arith, slice_get, subst, sum_by-cons, Entry, Row}
use Rattle.gu_rules.proofs.StandingLemmas.{stepped, stepped_from}

-- an entry changes no offer except one
abbrev pub LeavesOthers : Entry → ℕ → Type 0
LeavesOthers entry n = (m : ℕ) → m ≢ n → (row : Row) → stepped entry m row ≡ row

-- offers with higher numbers are unchanged
pub behind : (entry : Entry) (n m : ℕ) (rows : List Row) → LeavesOthers entry n → n < m → stepped_from entry m rows ≡ rows
behind entry n m [] others above = refl
behind entry n m (row ∷ rows) others above =
    let one = others m (λ same. absurd (omega (arith, above, same))) row in
    let more = behind entry n (m + 1) rows others (omega (arith, above)) in
    λ i. one i ∷ more i

-- if one offer changes, a sum over all changes by its change
pub one_changes : (f : Row → ℕ) (entry : Entry) (m : ℕ) (rows : List Row) (place : ℕ) (row : Row)
    → LeavesOthers entry (m + place) → slice_get rows place ≡ Some row
    → sum_by f (stepped_from entry m rows) + f row ≡ sum_by f rows + f (stepped entry (m + place) row)
one_changes f entry m [] place row others at = cc
one_changes f entry m (first ∷ rows) zero row others at =
    let same : first ≡ row = cc in
    let number : m ≡ m + zero = omega arith in
    let rest : sum_by f (stepped_from entry (m + 1) rows) ≡ sum_by f rows = ap (sum_by f) (behind entry (m + zero) (m + 1) rows others (omega arith)) in
    let changed : f (stepped entry m first) ≡ f (stepped entry (m + zero) row) = λ i. f (stepped entry (number i) (same i)) in
    omega (arith, sum_by-cons f (stepped entry m first) (stepped_from entry (m + 1) rows), sum_by-cons f first rows, rest, changed, ap f same)
one_changes f entry m (first ∷ rows) (suc place) row others at =
    let next : m + 1 + place ≡ m + suc place = omega arith in
    let stays : f (stepped entry m first) ≡ f first = ap f (others m (λ same. absurd (omega (arith, same))) first) in
    let rest = one_changes f entry (m + 1) rows place row (subst (LeavesOthers entry) (sym next) others) at in
    let changed : f (stepped entry (m + 1 + place) row) ≡ f (stepped entry (m + suc place) row) = ap (λ (k : ℕ). f (stepped entry k row)) next in
    omega (arith, sum_by-cons f (stepped entry m first) (stepped_from entry (m + 1) rows), sum_by-cons f first rows, stays, rest, changed)
