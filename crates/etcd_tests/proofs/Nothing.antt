-- An etcd in memory of whose empty log nothing is known.
use Rattle.std.proofs.Common.{◌≡◌, ℕ, List, [], ◌∷◌, length, take, drop, codes, refl, sym, ◌∙◌, ap, subst}
use Rattle.std.proofs.lemmas.List.Elements.{All-nil}
use Rattle.std.specs.declared.vec.Vec.{Vec}
use Rattle.std.specs.declared.alloc.Global.{Global}
use Rattle.gu_etcd.specs.declared.memory_node.MemoryNode.{MemoryNode}
use Rattle.gu_etcd.specs.InMemory.{log_of}
use Rattle.gu_etcd.specs.Log.{IsOf, IsSettled, entry_of}

-- nothing is known
known_none : (node : MemoryNode) → node.known ≡ 0 → take node.known (log_of node.log.items) ≡ []
known_none node known = ap (λ (n : ℕ). take n (log_of node.log.items)) known

pub counts_none : (node : MemoryNode) → node.known ≡ 0 → 0 ≡ length (take node.known (log_of node.log.items))
counts_none node known = sym (ap (λ (l : List (List ℕ)). length l) (known_none node known))

empty_settled : (desk : List ℕ) → IsSettled [] desk []
empty_settled desk = record { kept_is = refl; are_others = All-nil (λ (e : List ℕ). ¬ IsOf desk e) }

-- nothing of the desk is there
pub settled : (node : MemoryNode) → node.log.items ≡ [] → node.known ≡ 0 → (log : List (List ℕ)) → log ≡ log_of node.log.items
    → IsSettled (take node.known (log_of node.log.items)) node.leader.items log
settled node none known log is =
    let empty : log ≡ [] = is ∙ ap (λ (l : List (Vec ℕ Global)). log_of l) none in
    subst (λ (k : List (List ℕ)). IsSettled k node.leader.items log) (sym (known_none node known))
    (subst (λ (l : List (List ℕ)). IsSettled [] node.leader.items l) (sym empty) (empty_settled node.leader.items))

-- the entry is the desk's
pub is_own : (node : MemoryNode) → node.leader.items ≡ codes "A-2" → (entry : List ℕ) → entry ≡ entry_of (codes "A-2") (codes "DAY 20260105\n") → IsOf node.leader.items entry
is_own node leader entry is = record {
  batch = codes "DAY 20260105\n";
  is = is ∙ ap (λ (d : List ℕ). entry_of d (codes "DAY 20260105\n")) (sym leader);
}
