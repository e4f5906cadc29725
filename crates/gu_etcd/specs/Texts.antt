-- The text of a log in etcd, and the part of a log that one desk answers for.
use Rattle.std.specs.Prelude.{◌==◌, ◌||◌, ◌++◌, ℕ, List, [], ◌∷◌, take, drop, Bool, false, if◌then◌else◌}
use Rattle.std.specs.List.{starts_with}
use Rattle.gu_etcd.specs.Log.{desk_line}

-- the batch of an entry: what follows its first line
abbrev pub batch_of : List ℕ → List ℕ
batch_of [] = []
batch_of (byte ∷ rest) = if byte == 10 then rest else batch_of rest

-- the text of a log: the batches of its entries, one after the other
abbrev pub text_of_log : List (List ℕ) → List ℕ
text_of_log [] = []
text_of_log (entry ∷ log) = batch_of entry ++ text_of_log log

-- the entry is one of this desk: it begins with the desk's line
abbrev pub is_own : List ℕ → List ℕ → Bool
is_own desk entry = starts_with (λ a b. a == b) entry (desk_line desk)

-- one of the entries is of this desk
abbrev pub has_own : List ℕ → List (List ℕ) → Bool
has_own desk [] = false
has_own desk (entry ∷ entries) = is_own desk entry || has_own desk entries

-- the entries up to the last one of this desk
abbrev pub up_to_last : List ℕ → List (List ℕ) → List (List ℕ)
up_to_last desk [] = []
up_to_last desk (entry ∷ entries) = if has_own desk (entry ∷ entries) then entry ∷ up_to_last desk entries else []

-- The part of a log that a desk answers for: the entries that were there at its start, and those up to its last one. What other desks put
-- after them is theirs.
abbrev pub own_part : ℕ → List ℕ → List (List ℕ) → List (List ℕ)
own_part start desk log = take start log ++ up_to_last desk (drop start log)
