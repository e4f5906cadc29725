-- The bytes of a device after calls, and what a crash may leave of them.
use Rattle.std.specs.Prelude.{◌≡◌, ◌⊎◌, ℕ, ◌≤◌, List, [], ◌∷◌, ◌++◌, length, replicate, take}
use Rattle.gu_journal.specs.declared.memory.Call.{Call}
use Rattle.gu_journal.specs.declared.memory.Call.TheVariants.{Cut, Lengthen, Sync, Write}
use Rattle.gu_journal.specs.Device.{Cuts, Lengthens, Mixes, written}

-- what a read returns after a call
abbrev pub done : Call → List ℕ → List ℕ
done (Write at bytes) file = written at bytes.items file
done (Lengthen more) file = file ++ replicate more 0
done (Cut len) file = take len file
done Sync file = file

-- what a read returns after calls, the oldest first
abbrev pub seen_after : List ℕ → List Call → List ℕ
seen_after file [] = file
seen_after file (call ∷ calls) = seen_after (done call file) calls

-- what a crash may leave after a call: a part of it, or, after a sync, what a read returned
abbrev pub torn : Call → List ℕ → (List ℕ → Type 0) → List ℕ → Type 0
torn (Write at bytes) file outcomes c = (d : List ℕ) × outcomes d × Mixes at bytes.items d c
torn (Lengthen more) file outcomes c = (d : List ℕ) × outcomes d × Lengthens more d c
torn (Cut len) file outcomes c = (d : List ℕ) × outcomes d × Cuts len d c
torn Sync file outcomes c = c ≡ file

-- what partial calls leave of a file that was on the disk
abbrev pub left_after : List ℕ → (List ℕ → Type 0) → List Call → List ℕ → Type 0
left_after file outcomes [] = outcomes
left_after file outcomes (call ∷ calls) = left_after (done call file) (torn call file outcomes) calls

-- what a crash may leave after calls: everything that they did, or parts of it
abbrev pub outcomes_after : List ℕ → List Call → List ℕ → Type 0
outcomes_after first calls c = (c ≡ seen_after first calls) ⊎ left_after first (λ d. d ≡ first) calls c

-- what a crash might have left after the first `k` calls, with `k` at least the moment
abbrev pub left_from : List ℕ → List Call → ℕ → List ℕ → Type 0
left_from first calls t c = (k : ℕ) × (t ≤ k) × (k ≤ length calls) × outcomes_after first (take k calls) c
