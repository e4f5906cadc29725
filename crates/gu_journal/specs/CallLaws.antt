-- Machinery: one more call.
use Rattle.std.specs.Prelude.{◌≡◌, ℕ, ◌≤◌, List, [], ◌∷◌, ◌++◌, length}
use Rattle.std.proofs.Common.{refl, sym, subst, arith}
use Rattle.std.proofs.lemmas.List.{take_all}
use Rattle.gu_journal.specs.declared.memory.Call.{Call}
use Rattle.gu_journal.specs.Calls.{done, left_after, left_from, outcomes_after, seen_after, torn}

pub seen_push : (file : List ℕ) (calls : List Call) (call : Call) → seen_after file (calls ++ call ∷ []) ≡ done call (seen_after file calls)
seen_push file [] call = refl
seen_push file (c ∷ calls) call = seen_push (done c file) calls call

pub left_push : (file : List ℕ) (outcomes : List ℕ → Type 0) (calls : List Call) (call : Call) (c : List ℕ) → left_after file outcomes (calls ++ call ∷ []) c
    → torn call (seen_after file calls) (left_after file outcomes calls) c
left_push file outcomes [] call c left = left
left_push file outcomes (d ∷ calls) call c left = left_push (done d file) (torn d file outcomes) calls call c left

pub counts_now : (first : List ℕ) (calls : List Call) (t : ℕ) (c : List ℕ) → t ≤ length calls → outcomes_after first calls c → left_from first calls t c
counts_now first calls t c before left =
    (length calls, before, omega arith, subst (λ (l : List Call). outcomes_after first l c) (sym (take_all (length calls) calls (omega arith))) left)

pub only_now : (first : List ℕ) (calls : List Call) (c : List ℕ) → left_from first calls (length calls) c → outcomes_after first calls c
only_now first calls c left = subst (λ (l : List Call). outcomes_after first l c) (take_all left.0 calls (omega (arith, left.1))) left.3
