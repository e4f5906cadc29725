-- A list is split at the first element that passes.
use Rattle.std.proofs.Common.{◌≡◌, ◌<◌, ◌+◌, ◌∷◌, [], ◌∙◌, ℕ, Bool, true, false, List, None, Some, cond, length, take, drop, position, nat_lt, refl, ap, arith}
use Rattle.std.specs.List.{slice_split, position_or_len}
use Rattle.std.proofs.lemmas.Option.{cond_some}
use Rattle.std.proofs.lemmas.List.Splits.{slice_split_none, slice_split_first}
use Rattle.std.proofs.lemmas.List.Sums.{fails_before_first}

cond_none : (b : Bool) (n : ℕ) → cond b (Some n) None ≡ None → b ≡ false
cond_none true n h = cc
cond_none false n h = refl

-- the first part ends where the first byte passes
pub split_first : (p : ℕ → Bool) (bytes : List ℕ) (place : ℕ) → position p bytes ≡ Some place → slice_split p bytes ≡ take place bytes ∷ slice_split p (drop (place + 1) bytes)
split_first p bytes place h =
    let found = cond_some (nat_lt (position_or_len p bytes) (length bytes)) (position_or_len p bytes) place h in
    let inside : position_or_len p bytes < length bytes = search (arith, found.0) in
    slice_split_first p bytes 0 inside ∙ ap (λ (n : ℕ). take n bytes ∷ slice_split p (drop (n + 1) bytes)) found.1

-- if none passes, everything is one part
pub split_none : (p : ℕ → Bool) (bytes : List ℕ) → position p bytes ≡ None → slice_split p bytes ≡ bytes ∷ []
split_none p bytes h =
    let out = cond_none (nat_lt (position_or_len p bytes) (length bytes)) (position_or_len p bytes) h in
    slice_split_none p bytes (λ k d k_in. fails_before_first p bytes k d (search (arith, out, k_in)))
