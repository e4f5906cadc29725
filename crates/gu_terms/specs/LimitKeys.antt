-- What limits apply to.
use Rattle.std.specs.Prelude.{ℕ, Bool, false, List, [], ◌∷◌, Option, codes}
use Rattle.std.specs.List.{find, list_any}
use Rattle.std.specs.Str.{bytes_eq}
use Rattle.gu_terms.specs.declared.limit_key.KeyKind.{KeyKind}
use Rattle.gu_terms.specs.declared.limit_key.KeyKind.TheVariants as kind
use Rattle.gu_terms.specs.declared.limit_key.LimitKey.{LimitKey}
use Rattle.gu_terms.specs.declared.limit_key.LimitKey.TheVariants.{Exec, Agr, Acct, Carry, Guar}
use Rattle.gu_terms.specs.declared.name.Name.{Name}

-- the word for a key's kind
abbrev pub kind_of : LimitKey → List ℕ
kind_of (Exec _) = codes "EXEC"
kind_of (Agr _) = codes "AGR"
kind_of (Acct _) = codes "ACCT"
kind_of (Carry _) = codes "CARRY"
kind_of (Guar _) = codes "GUAR"

-- the name of the firm, the agreement or the account
abbrev pub name_of_key : LimitKey → List ℕ
name_of_key (Exec firm) = firm.name
name_of_key (Agr agreement) = agreement.name
name_of_key (Acct account) = account.name
name_of_key (Carry firm) = firm.name
name_of_key (Guar firm) = firm.name

-- the key of this kind with this name
abbrev pub key_by : KeyKind → Name → LimitKey
key_by kind.Exec name = Exec (record { name = name })
key_by kind.Agr name = Agr (record { name = name })
key_by kind.Acct name = Acct (record { name = name })
key_by kind.Carry name = Carry (record { name = name })
key_by kind.Guar name = Guar (record { name = name })

-- the keys with this name, one of each kind
abbrev pub keys_named : Name → List LimitKey
keys_named name =
    Exec (record { name = name }) ∷ Agr (record { name = name }) ∷ Acct (record { name = name })
    ∷ Carry (record { name = name }) ∷ Guar (record { name = name }) ∷ []

-- the key with this word for its kind and this name, if there is such a kind
abbrev pub key_of : List ℕ → Name → Option LimitKey
key_of kind name = find (λ key. bytes_eq (kind_of key) kind) (keys_named name)

-- two keys have the same kind and the same name
abbrev pub key_eq : LimitKey → LimitKey → Bool
key_eq (Exec a) (Exec b) = bytes_eq a.name b.name
key_eq (Agr a) (Agr b) = bytes_eq a.name b.name
key_eq (Acct a) (Acct b) = bytes_eq a.name b.name
key_eq (Carry a) (Carry b) = bytes_eq a.name b.name
key_eq (Guar a) (Guar b) = bytes_eq a.name b.name
key_eq _ _ = false

-- a key is in this list
abbrev pub has_key : List LimitKey → LimitKey → Bool
has_key keys k = list_any (λ j. key_eq j k) keys
