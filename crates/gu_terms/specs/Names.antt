-- Names that the house gives, and ids that firms give.
use Rattle.std.specs.Prelude.{ℕ, Bool, ◌≤◌, ◌==◌, ◌||◌, ◌&&◌, nat_le, List, length}
use Rattle.std.specs.List.{AllPass, list_all}

-- a capital letter, a digit or `-`
abbrev pub is_name_byte : ℕ → Bool
is_name_byte b = (nat_le 65 b && nat_le b 90) || (nat_le 48 b && nat_le b 57) || b == 45

-- one to twelve such bytes
pub record IsName (bytes : List ℕ) : Type 0 where
  pub some : 1 ≤ length bytes
  pub most : length bytes ≤ 12
  pub each : AllPass is_name_byte bytes

-- whether these bytes are a name
abbrev pub is_name : List ℕ → Bool
is_name bytes = nat_le 1 (length bytes) && nat_le (length bytes) 12 && list_all is_name_byte bytes

-- a byte of printable ASCII other than the space
abbrev pub is_id_byte : ℕ → Bool
is_id_byte b = nat_le 33 b && nat_le b 126

-- one to sixty-four such bytes
pub record IsId (bytes : List ℕ) : Type 0 where
  pub some : 1 ≤ length bytes
  pub most : length bytes ≤ 64
  pub each : AllPass is_id_byte bytes
