-- The address of a log in an etcd: where its nodes listen, and the log's name.
use Rattle.std.specs.Prelude.{◌≡◌, ◌==◌, ℕ, List, [], ◌∷◌, ◌++◌, codes, if◌then◌else◌}
use Rattle.std.specs.List.{AllByRecursion}
use Rattle.gu_etcd.specs.Keys.{IsName}
use Rattle.gu_etcd.specs.Splitting.{Lacks}
use Rattle.gu_exchange.specs.Endpoints.{IsEndpoint}

-- the texts, with a byte before the first one
abbrev pub onto_first : ℕ → List (List ℕ) → List (List ℕ)
onto_first byte [] = (byte ∷ []) ∷ []
onto_first byte (text ∷ texts) = (byte ∷ text) ∷ texts

-- the texts between the commas of a text
abbrev pub between_commas : List ℕ → List (List ℕ)
between_commas [] = [] ∷ []
between_commas (byte ∷ text) = if byte == 44 then [] ∷ between_commas text else onto_first byte (between_commas text)

-- the text is `etcd://`, these endpoints with commas between them, a slash and this name
pub record IsAddress (text : List ℕ) (endpoints : List (List ℕ)) (name : List ℕ) : Type 0 where
  pub listed : List ℕ
  pub text_is : text ≡ codes "etcd://" ++ (listed ++ 47 ∷ name)
  pub no_slash : Lacks 47 listed
  pub endpoints_are : endpoints ≡ between_commas listed
  pub each : AllByRecursion IsEndpoint endpoints
  pub named : IsName name
