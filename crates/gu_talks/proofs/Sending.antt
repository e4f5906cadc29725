-- The bytes that a send drops, and the marks that are left.
use Rattle.std.proofs.Common.{◌≡◌, ◌≤◌, ◌-◌, ◌++◌, ℕ, List, [], length, take, ap, subst, arith, length-append}
use Rattle.std.proofs.lemmas.List.{take-take}
use Rattle.std.proofs.lemmas.List.Elements.{All-take}
use Rattle.std.specs.List.{All}

-- the bytes that were sent and those that are still held are all the bytes that were held
pub count_that_went : (held kept sent : List ℕ) → held ++ [] ≡ sent ++ kept → length held - length kept ≡ length sent
count_that_went held kept sent parts = omega (arith, ap length parts, length-append held [], length-append sent kept)

-- what is true of the marks of the first bytes is true of those of fewer
pub first_marks : (P : ℕ → Type 0) (marks : List ℕ) (few many : ℕ) → few ≤ many → All P (take many marks) → All P (take few marks)
first_marks P marks few many fewer all = subst (λ (xs : List ℕ). All P xs) (take-take few many marks fewer) (All-take P few (take many marks) all)
