-- What an answer means for an entry.
use Rattle.std.specs.Prelude.{◌≡◌, ◌≢◌, ℕ, List, ⊤}
use Rattle.gu_etcd.specs.declared.node.PutAnswer.{PutAnswer}
use Rattle.gu_etcd.specs.declared.node.PutAnswer.TheVariants.{Kept, Holds, NotLeading}

-- the entry is in the log: it was put, or exactly this entry is at its number
abbrev pub IsIn : PutAnswer → List ℕ → Type 0
IsIn Kept entry = ⊤
IsIn (Holds there) entry = there.items ≡ entry
IsIn NotLeading entry = ⊥

-- the entry is not in the log: another one is at its number, or another desk leads
abbrev pub IsNotIn : PutAnswer → List ℕ → Type 0
IsNotIn Kept entry = ⊥
IsNotIn (Holds there) entry = there.items ≢ entry
IsNotIn NotLeading entry = ⊤
