-- What an answer of etcd says of a log, and how the log goes on.
use Rattle.std.specs.Prelude.{◌≡◌, ◌⊎◌, ◌+◌, ◌<◌, ℕ, List, [], ◌∷◌, ◌++◌, length, Result, IsErrOf, IfOk, ⊤}
use Rattle.gu_etcd.specs.declared.node.PutAnswer.{PutAnswer}
use Rattle.gu_etcd.specs.declared.node.PutAnswer.TheVariants.{Kept, Holds, NotLeading}
use Rattle.gu_etcd.specs.declared.node.NodeError.{NodeError}
use Rattle.gu_etcd.specs.declared.node.NodeError.TheVariants.{Memory, Unanswered}
use Rattle.gu_etcd.specs.Counts.{Counts, CountsStay}
use Rattle.gu_etcd.specs.Log.{IsOthers, IsAt, HasNoneAt}

-- How a log goes on while a desk asks for an entry to be put at a number: other desks may put entries at its end, and before them the
-- entry may be put, if its number is the next one.
pub record Puts (desk : List ℕ) (number : ℕ) (entry : List ℕ) (old new : List (List ℕ)) : Type 0 where
  pub others : List (List ℕ)
  pub are_others : IsOthers desk others
  pub is : (new ≡ old ++ others) ⊎ ((length old + 1 ≡ number) × (new ≡ old ++ entry ∷ others))

-- each log that there may be after a step is one that there might be before, gone on by the step
abbrev pub Follows : (List (List ℕ) → List (List ℕ) → Type 0) → (List (List ℕ) → Type 0) → (List (List ℕ) → Type 0) → Type 0
Follows step old new = (log : List (List ℕ)) → new log → (was : List (List ℕ)) × old was × step was log

-- what an answer says of each log that there may be from then on
abbrev pub Says : List ℕ → ℕ → List ℕ → PutAnswer → List (List ℕ) → Type 0
Says desk number entry Kept log = IsAt number entry log
Says desk number entry (Holds there) log = IsAt number there.items log
Says desk number entry NotLeading log = HasNoneAt number desk log

-- the entries whose places are known, after an answer
abbrev pub known_after : List (List ℕ) → List ℕ → PutAnswer → List (List ℕ)
known_after known entry Kept = known ++ entry ∷ []
known_after known entry (Holds there) = known ++ there.items ∷ []
known_after known entry NotLeading = known

-- the answer is a refusal
abbrev pub IsRefusal : PutAnswer → Type 0
IsRefusal Kept = ⊥
IsRefusal (Holds there) = ⊤
IsRefusal NotLeading = ⊤

-- a call gets no answer only if an exchange failed, runs out of memory only if an allocation failed, and is refused only if etcd refused
pub record HasCause {N : Type 0} (counts : Counts N) (old new : N) (result : Result PutAnswer NodeError) : Type 0 where
  pub unanswered : IsErrOf result Unanswered → counts.failures old < counts.failures new
  pub memory : IsErrOf result Memory → counts.shortages old < counts.shortages new
  pub refused : IfOk result (λ answer. IsRefusal answer → counts.refusals old < counts.refusals new)
  pub stay : CountsStay counts old new
