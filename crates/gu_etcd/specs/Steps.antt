-- What a call does to an etcd in memory.
use Rattle.std.specs.Prelude.{◌≡◌, ◌⊎◌, ◌+◌, ◌≤◌, ℕ, List, [], ◌∷◌, ◌++◌, length, Some, slice_get, Result, IfOk, OnErr, IsErrOf}
use Rattle.gu_etcd.specs.declared.memory_node.MemoryNode.{MemoryNode}
use Rattle.gu_etcd.specs.declared.node.PutAnswer.{PutAnswer}
use Rattle.gu_etcd.specs.declared.node.PutAnswer.TheVariants.{Kept, Holds, NotLeading}
use Rattle.gu_etcd.specs.declared.node.NodeError.{NodeError}
use Rattle.gu_etcd.specs.declared.node.NodeError.TheVariants.{Memory, Unanswered}
use Rattle.gu_etcd.specs.InMemory.{WentUp, log_of}
use Rattle.gu_etcd.specs.Node.{IsRefusal}

-- the log of an etcd in memory
abbrev pub log_in : MemoryNode → List (List ℕ)
log_in node = log_of node.log.items

-- the log stays, or has the entry more, if all of it is known
abbrev pub Grows : List ℕ → MemoryNode → MemoryNode → Type 0
Grows entry old new = (log_in new ≡ log_in old) ⊎ ((old.known ≡ length old.log.items) × (log_in new ≡ log_in old ++ entry ∷ []))

-- the entry after those that were known is this one, and is known now
pub record Learns (entry : List ℕ) (known : ℕ) (new : MemoryNode) : Type 0 where
  pub there : slice_get (log_in new) known ≡ Some entry
  pub known_now : new.known ≡ known + 1

-- what is answered, and what is known after it, if this number of entries was known
abbrev pub Answers : List ℕ → ℕ → MemoryNode → PutAnswer → Type 0
Answers entry known new Kept = Learns entry known new
Answers entry known new (Holds there) = Learns there.items known new
Answers entry known new NotLeading = (new.known ≡ known) × (length new.log.items ≡ known)

-- a call
pub record Steps (entry : List ℕ) (old new : MemoryNode) (result : Result PutAnswer NodeError) : Type 0 where
  pub leader : new.leader ≡ old.leader
  pub log : Grows entry old new
  pub answer : IfOk result (Answers entry old.known new)
  pub unknown : OnErr result (new.known ≡ old.known)
  pub unanswered : IsErrOf result Unanswered → WentUp old.failures new.failures
  pub memory : IsErrOf result Memory → WentUp old.shortages new.shortages
  pub refused : IfOk result (λ answer. IsRefusal answer → WentUp old.refusals new.refusals)
  pub failures_stay : old.failures ≤ new.failures
  pub refusals_stay : old.refusals ≤ new.refusals
  pub shortages_stay : old.shortages ≤ new.shortages
