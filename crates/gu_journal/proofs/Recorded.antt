-- One more call of a device in memory.
use Rattle.std.proofs.Common.{◌≡◌, ◌⊎◌, inl, inr, zero-add, drop, ℕ, zero, suc, ◌+◌, ◌≤◌, List, [], ◌∷◌, ◌++◌, length, take, Bool, true, false, if◌then◌else◌, refl, sym, ◌∙◌, ap, subst, arith, length-append}
use Rattle.std.proofs.Math.Nat.{eq-or-lt_of_le}
use Rattle.std.proofs.lemmas.List.{take_all, take-append-le}
use Rattle.gu_journal.specs.declared.memory.Call.{Call}
use Rattle.gu_journal.specs.declared.memory.Call.TheVariants.{Sync}
use Rattle.gu_journal.specs.Device.{over, written}
use Rattle.gu_journal.specs.CallLaws.{left_push, seen_push}
use Rattle.gu_journal.specs.Calls.{done, left_after, left_from, outcomes_after, seen_after, torn}

module _ (first : List ℕ) (calls : List Call) (call : Call) where
  abbrev pushed : List Call
  pushed = calls ++ call ∷ []

  front : (k : ℕ) → k ≤ length calls → take k pushed ≡ take k calls
  front k fits = take-append-le k calls (call ∷ []) fits

  pub nothing_else : (t : ℕ) (c : List ℕ) → left_from first pushed t c → left_from first calls t c ⊎ outcomes_after first pushed c
  nothing_else t c left = elim (eq-or-lt_of_le left.2) [
    | inl all ↦ inr (subst (λ (l : List Call). outcomes_after first l c) (take_all left.0 pushed (omega (arith, all))) left.3)
    | inr fewer ↦
        let within : left.0 ≤ length calls = omega (arith, fewer, length-append calls (call ∷ [])) in
        inl (left.0, left.1, within, subst (λ (l : List Call). outcomes_after first l c) (front left.0 within) left.3)
  ]

  pub keeps : (t : ℕ) (c : List ℕ) → left_from first calls t c → left_from first pushed t c
  keeps t c left = (left.0, left.1, omega (arith, left.2, length-append calls (call ∷ [])), subst (λ (l : List Call). outcomes_after first l c) (sym (front left.0 left.2)) left.3)

-- for a device with one more call in its list
module _ (first : List ℕ) (calls : List Call) (call : Call) (calls' : List Call) (is : calls' ≡ calls ++ call ∷ []) where
  pub later : length calls ≤ length calls'
  later = omega (arith, ap length is, length-append calls (call ∷ []))

  pub nothing_else_to : (t : ℕ) (c : List ℕ) → left_from first calls' t c → left_from first calls t c ⊎ outcomes_after first calls' c
  nothing_else_to t c = subst (λ (l : List Call). left_from first l t c → left_from first calls t c ⊎ outcomes_after first l c) (sym is) (nothing_else first calls call t c)

  pub keeps_to : (t : ℕ) (c : List ℕ) → left_from first calls t c → left_from first calls' t c
  keeps_to t c = subst (λ (l : List Call). left_from first calls t c → left_from first l t c) (sym is) (keeps first calls call t c)

  pub seen_to : (bytes : List ℕ) → bytes ≡ seen_after first calls → done call bytes ≡ seen_after first calls'
  seen_to bytes same = ap (done call) same ∙ sym (seen_push first calls call) ∙ ap (seen_after first) (sym is)

  -- what it may leave: everything that the call did to what was seen, or a part of it done to what might have been left
  pub left_to : (bytes c : List ℕ) → bytes ≡ seen_after first calls → outcomes_after first calls' c → (c ≡ done call bytes) ⊎ torn call bytes (left_after first (λ (d : List ℕ). d ≡ first) calls) c
  left_to bytes c same (inl all) = inl (all ∙ sym (seen_to bytes same))
  left_to bytes c same (inr part) =
      let here = left_push first (λ (d : List ℕ). d ≡ first) calls call c (subst (λ (l : List Call). left_after first (λ (d : List ℕ). d ≡ first) l c) is part) in
      inr (subst (λ (f : List ℕ). torn call f (left_after first (λ (d : List ℕ). d ≡ first) calls) c) (sym same) here)

-- a sync adds nothing to what is seen, whether it was recorded or not
pub synced_seen : (first bytes : List ℕ) (calls calls' : List Call) (noted : Bool) → calls' ≡ (if noted then calls ++ Sync ∷ [] else calls) → bytes ≡ seen_after first calls → bytes ≡ seen_after first calls'
synced_seen first bytes calls calls' true is same = seen_to first calls Sync calls' is bytes same
synced_seen first bytes calls calls' false is same = same ∙ ap (seen_after first) (sym is)

over_all : (bytes olds : List ℕ) → length bytes ≤ length olds → over bytes olds ≡ bytes ++ drop (length bytes) olds
over_all [] olds fits = refl
over_all (byte ∷ bytes) [] fits = absurd (omega arith)
over_all (byte ∷ bytes) (old ∷ olds) fits = ap (λ (l : List ℕ). byte ∷ l) (over_all bytes olds (omega arith))

pub written_parts : (at : ℕ) (bytes olds : List ℕ) → at + length bytes ≤ length olds → (take at olds ++ bytes) ++ drop (at + length bytes) olds ≡ written at bytes olds
written_parts zero bytes olds fits = ap (λ (n : ℕ). bytes ++ drop n olds) (zero-add (length bytes)) ∙ sym (over_all bytes olds (omega arith))
written_parts (suc at) bytes [] fits = absurd (omega arith)
written_parts (suc at) bytes (old ∷ olds) fits =
    let further : suc at + length bytes ≡ suc (at + length bytes) = omega arith in
    ap (λ (n : ℕ). (take (suc at) (old ∷ olds) ++ bytes) ++ drop n (old ∷ olds)) further ∙ ap (λ (l : List ℕ). old ∷ l) (written_parts at bytes olds (omega arith))
