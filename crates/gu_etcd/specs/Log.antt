-- The log of a day in etcd: entries at the numbers 1, 2, 3 and so on. An entry is a batch under the name of the desk that put it.
use Rattle.std.specs.Prelude.{◌≡◌, ◌⊎◌, ◌+◌, ℕ, List, [], ◌∷◌, ◌++◌, length, take, drop, All, codes}

-- the line with which each entry of a desk begins; a script has it as a comment
abbrev pub desk_line : List ℕ → List ℕ
desk_line desk = codes "# desk " ++ (desk ++ 10 ∷ [])

-- the entry with which a desk puts a batch
abbrev pub entry_of : List ℕ → List ℕ → List ℕ
entry_of desk batch = desk_line desk ++ batch

-- the entry is one of this desk
pub record IsOf (desk entry : List ℕ) : Type 0 where
  pub batch : List ℕ
  pub is : entry ≡ entry_of desk batch

-- the entries are those of other desks
abbrev pub IsOthers : List ℕ → List (List ℕ) → Type 0
IsOthers desk entries = All (λ entry. ¬ IsOf desk entry) entries

-- the log has this entry at this number; the first has number 1
pub record IsAt (number : ℕ) (entry : List ℕ) (log : List (List ℕ)) : Type 0 where
  pub before : List (List ℕ)
  pub after : List (List ℕ)
  pub number_is : length before + 1 ≡ number
  pub log_is : log ≡ before ++ entry ∷ after

-- the log has no entry of this desk at this number
abbrev pub HasNoneAt : ℕ → List ℕ → List (List ℕ) → Type 0
HasNoneAt number desk log = (entry : List ℕ) → IsAt number entry log → ¬ IsOf desk entry

-- the log begins with the entries that were kept, and after them has none of this desk
pub record IsSettled (kept : List (List ℕ)) (desk : List ℕ) (log : List (List ℕ)) : Type 0 where
  pub kept_is : take (length kept) log ≡ kept
  pub are_others : IsOthers desk (drop (length kept) log)

-- the same, with one entry of this desk next
pub record IsPutNext (kept : List (List ℕ)) (desk entry : List ℕ) (log : List (List ℕ)) : Type 0 where
  pub others : List (List ℕ)
  pub log_is : log ≡ kept ++ entry ∷ others
  pub are_others : IsOthers desk others

-- what was kept is there, and of this desk nothing after it, or this one entry next
abbrev pub HasBegun : List (List ℕ) → List ℕ → List ℕ → List (List ℕ) → Type 0
HasBegun kept desk entry log = IsSettled kept desk log ⊎ IsPutNext kept desk entry log
