-- Texts written whole or in part.
use Rattle.std.specs.Prelude.{◌≡◌, ◌++◌, ℕ, List, Option}
use Rattle.std.specs.Io.KnownBytes.{Appends}

-- the first bytes are a prefix of the others
pub record IsPrefixOf (prefix all : List ℕ) : Type 0 where
  pub rest : List ℕ
  pub parts : all ≡ prefix ++ rest

-- some prefix of the text was written
pub record WrotePart (text : List ℕ) (output_old output_new : Option (List ℕ)) : Type 0 where
  pub written : List ℕ
  pub appended : Appends output_old output_new written
  pub prefix : IsPrefixOf written text

-- the first of the held bytes were written, and the rest are held
pub record LetsGo (held_old held_new : List ℕ) (output_old output_new : Option (List ℕ)) : Type 0 where
  pub sent : List ℕ
  pub appended : Appends output_old output_new sent
  pub parts : held_old ≡ sent ++ held_new
