-- What a call of an etcd in memory says of its log.
use Rattle.std.proofs.Common.{◌≡◌, ◌⊎◌, inl, inr, ⊎_elim, ℕ, zero, suc, ◌+◌, ◌≤◌, List, [], ◌∷◌, ◌++◌, length, take, drop, Some, slice_get, sym, ◌∙◌, ap, subst, arith}
use Rattle.std.proofs.Math.Nat.{eq-or-lt_of_le}
use Rattle.std.proofs.lemmas.List.{length-append, length-map, length-take-le, take_all, take-append-le}
use Rattle.std.proofs.lemmas.Option.{slice_get_within}
use Rattle.gu_etcd.specs.declared.memory_node.MemoryNode.{MemoryNode}
use Rattle.gu_etcd.specs.declared.node.PutAnswer.{PutAnswer}
use Rattle.gu_etcd.specs.declared.node.PutAnswer.TheVariants.{Kept, Holds, NotLeading}
use Rattle.gu_etcd.specs.InMemory.{HadSince}
use Rattle.gu_etcd.specs.Log.{IsAt}
use Rattle.gu_etcd.specs.Node.{Says, known_after}
use Rattle.gu_etcd.specs.Steps.{Answers, Grows, log_in}

-- the entry at a place, with what is before it and after it
place : (log : List (List ℕ)) (k : ℕ) (entry : List ℕ) → slice_get log k ≡ Some entry → log ≡ take k log ++ entry ∷ drop (suc k) log
place [] k entry there = absurd (cc)
place (first ∷ log) zero entry there = cc
place (first ∷ log) (suc k) entry there = ap (λ (l : List (List ℕ)). first ∷ l) (place log k entry there)

-- one entry more is taken
taken : (log : List (List ℕ)) (k : ℕ) (entry : List ℕ) → slice_get log k ≡ Some entry → take (suc k) log ≡ take k log ++ entry ∷ []
taken [] k entry there = absurd (cc)
taken (first ∷ log) zero entry there = cc
taken (first ∷ log) (suc k) entry there = ap (λ (l : List (List ℕ)). first ∷ l) (taken log k entry there)

-- an entry is at the number after those before it
is_at : (log : List (List ℕ)) (k : ℕ) (entry : List ℕ) → slice_get log k ≡ Some entry → IsAt (k + 1) entry log
is_at log k entry there =
    let within = slice_get_within log k entry there in
    let fits : k ≤ length log = omega (arith, within) in
    record {
      before = take k log;
      after = drop (suc k) log;
      number_is = omega (arith, length-take-le k log fits);
      log_is = place log k entry there;
    }

-- what is answered holds of the log
pub says_of : (desk entry : List ℕ) (old new : MemoryNode) (number : ℕ) (answer : PutAnswer) → number ≡ old.known + 1 → Answers entry old.known new answer
    → Says desk number entry answer (log_in new)
says_of desk entry old new number Kept next is = subst (λ (n : ℕ). IsAt n entry (log_in new)) (sym next) (is_at (log_in new) old.known entry is.there)
says_of desk entry old new number (Holds there) next is = subst (λ (n : ℕ). IsAt n there.items (log_in new)) (sym next) (is_at (log_in new) old.known there.items is.there)
says_of desk entry old new number NotLeading next is = λ e at own.
    let long : length (log_in new) ≡ length new.log.items = length-map new.log.items (λ entry. entry.items) in
    let whole : length (log_in new) ≡ length (at.before ++ e ∷ at.after) = ap (λ (l : List (List ℕ)). length l) at.log_is in
    let parts : length (at.before ++ e ∷ at.after) ≡ length at.before + length (e ∷ at.after) = length-append at.before (e ∷ at.after) in
    let number_is : length at.before + 1 ≡ number = at.number_is in
    omega (arith, is.1)

-- what was known is there after the call
front : (entry : List ℕ) (old new : MemoryNode) → old.known ≤ length old.log.items → Grows entry old new → take old.known (log_in new) ≡ take old.known (log_in old)
front entry old new within grows =
    let long : length (log_in old) ≡ length old.log.items = length-map old.log.items (λ entry. entry.items) in
    let fits : old.known ≤ length (log_in old) = omega arith in
    ⊎_elim
    (λ (same : log_in new ≡ log_in old). ap (λ (l : List (List ℕ)). take old.known l) same)
    (λ (more : (old.known ≡ length old.log.items) × (log_in new ≡ log_in old ++ entry ∷ [])).
    ap (λ (l : List (List ℕ)). take old.known l) more.1 ∙ take-append-le old.known (log_in old) (entry ∷ []) fits)
    grows

-- what is known after it
pub known_of : (entry : List ℕ) (old new : MemoryNode) (answer : PutAnswer) → old.known ≤ length old.log.items → Grows entry old new → Answers entry old.known new answer
    → take new.known (log_in new) ≡ known_after (take old.known (log_in old)) entry answer
known_of entry old new Kept within grows is =
    let next : new.known ≡ suc old.known = omega (arith, is.known_now) in
    ap (λ (n : ℕ). take n (log_in new)) next ∙ taken (log_in new) old.known entry is.there ∙ ap (λ (l : List (List ℕ)). l ++ entry ∷ []) (front entry old new within grows)
known_of entry old new (Holds there) within grows is =
    let next : new.known ≡ suc old.known = omega (arith, is.known_now) in
    ap (λ (n : ℕ). take n (log_in new)) next ∙ taken (log_in new) old.known there.items is.there ∙ ap (λ (l : List (List ℕ)). l ++ there.items ∷ []) (front entry old new within grows)
known_of entry old new NotLeading within grows is = ap (λ (n : ℕ). take n (log_in new)) is.0 ∙ front entry old new within grows

-- the log that it has, and one with an entry more
module _ (now : List (List ℕ)) (entry : List ℕ) (next : List (List ℕ)) (is : next ≡ now ++ entry ∷ []) where
  longer : length next ≡ length now + 1
  longer = omega (arith, ap (λ (l : List (List ℕ)). length l) is, length-append now (entry ∷ []))

  first : (k : ℕ) → k ≤ length now → take k next ≡ take k now
  first k fits = ap (λ (l : List (List ℕ)). take k l) is ∙ take-append-le k now (entry ∷ []) fits

  more_else : (t : ℕ) (log : List (List ℕ)) → HadSince next t log → HadSince now t log ⊎ (log ≡ next)
  more_else t log had = elim (eq-or-lt_of_le had.2) [
    | inl all ↦ inr (had.3 ∙ take_all had.0 next (omega (arith, all)))
    | inr fewer ↦
        let within : had.0 ≤ length now = omega (arith, fewer, longer) in
        inl (had.0, had.1, within, had.3 ∙ first had.0 within)
  ]

  more_keeps : (t : ℕ) (log : List (List ℕ)) → HadSince now t log → HadSince next t log
  more_keeps t log had = (had.0, had.1, omega (arith, had.2, longer), had.3 ∙ sym (first had.0 had.2))

-- the log never gets shorter
pub later : (entry : List ℕ) (old new : MemoryNode) → Grows entry old new → length (log_in old) ≤ length (log_in new)
later entry old new grows = ⊎_elim
    (λ (same : log_in new ≡ log_in old). omega (arith, ap (λ (l : List (List ℕ)). length l) same))
    (λ (more : (old.known ≡ length old.log.items) × (log_in new ≡ log_in old ++ entry ∷ [])). omega (arith, longer (log_in old) entry (log_in new) more.1))
    grows

-- it has had what it had before, and has what it has now
pub nothing_else : (entry : List ℕ) (old new : MemoryNode) → Grows entry old new → (t : ℕ) (log : List (List ℕ)) → HadSince (log_in new) t log
    → HadSince (log_in old) t log ⊎ (log ≡ log_in new)
nothing_else entry old new grows t log had = ⊎_elim
    (λ (same : log_in new ≡ log_in old). inl (subst (λ (l : List (List ℕ)). HadSince l t log) same had))
    (λ (more : (old.known ≡ length old.log.items) × (log_in new ≡ log_in old ++ entry ∷ [])). more_else (log_in old) entry (log_in new) more.1 t log had)
    grows

-- and what it had is not forgotten
pub keeps : (entry : List ℕ) (old new : MemoryNode) → Grows entry old new → (t : ℕ) (log : List (List ℕ)) → HadSince (log_in old) t log → HadSince (log_in new) t log
keeps entry old new grows t log had = ⊎_elim
    (λ (same : log_in new ≡ log_in old). subst (λ (l : List (List ℕ)). HadSince l t log) (sym same) had)
    (λ (more : (old.known ≡ length old.log.items) × (log_in new ≡ log_in old ++ entry ∷ [])). more_keeps (log_in old) entry (log_in new) more.1 t log had)
    grows
