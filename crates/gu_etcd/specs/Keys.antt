-- The keys of a log in etcd: one for each entry, and one for the desk that leads.
use Rattle.std.specs.Prelude.{ℕ, ◌+◌, ◌/◌, ◌%◌, ◌≤◌, length, ◌==◌, ◌||◌, ◌&&◌, ◌≢◌, Bool, List, [], ◌∷◌, ◌++◌, nat_le, codes}
use Rattle.std.specs.List.{AllPass}
use Rattle.gu_etcd.specs.declared.name.TheConstants.{MAX_NAME}

-- a letter, a digit, `-`, `_` or `.`
abbrev pub is_name_byte : ℕ → Bool
is_name_byte b = (nat_le 97 b && nat_le b 122) || (nat_le 65 b && nat_le b 90) || (nat_le 48 b && nat_le b 57) || b == 45 || b == 95 || b == 46

-- a name of a log or of a desk: such bytes, one at least and 64 at most
pub record IsName (name : List ℕ) : Type 0 where
  pub some : name ≢ []
  pub short : length name ≤ MAX_NAME
  pub each : AllPass is_name_byte name

-- the digit of a number that counts these units
abbrev pub digit_of : ℕ → ℕ → ℕ
digit_of number unit = 48 + number / unit % 10

-- a number as ten digits
abbrev pub ten_digits : ℕ → List ℕ
ten_digits number = digit_of number 1000000000 ∷ digit_of number 100000000 ∷ digit_of number 10000000 ∷ digit_of number 1000000 ∷ digit_of number 100000
    ∷ digit_of number 10000 ∷ digit_of number 1000 ∷ digit_of number 100 ∷ digit_of number 10 ∷ digit_of number 1 ∷ []

-- the key of the entry with a number: the log's name, a slash and ten digits
abbrev pub batch_key : List ℕ → ℕ → List ℕ
batch_key name number = name ++ 47 ∷ ten_digits number

-- the end of the keys of entries: the byte after the digits
abbrev pub end_key : List ℕ → List ℕ
end_key name = name ++ codes "/:"

-- the key of the desk that leads
abbrev pub leader_key : List ℕ → List ℕ
leader_key name = name ++ codes "/leader"
