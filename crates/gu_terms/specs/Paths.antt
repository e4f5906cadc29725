-- The path of an offer: the limit keys that apply to it.
use Rattle.std.specs.Prelude.{◌≡◌, ℕ, ◌==◌, List, [], ◌∷◌, length, Option, None, Some, if◌then◌else◌, refl}
use Rattle.gu_terms.specs.declared.account.AccountId.{AccountId}
use Rattle.gu_terms.specs.declared.agreement.AgreementId.{AgreementId}
use Rattle.gu_terms.specs.declared.firm.FirmId.{FirmId}
use Rattle.gu_terms.specs.declared.limit_key.LimitKey.{LimitKey}
use Rattle.gu_terms.specs.declared.limit_key.LimitKey.TheVariants.{Exec, Agr, Acct, Carry, Guar}
use Rattle.gu_terms.specs.declared.path.Keys.{Keys}
use Rattle.gu_terms.specs.declared.path.Keys.TheVariants.{Four, Five}

-- the key of a guarantor, if there is one
abbrev pub guarantor_key : Option FirmId → List LimitKey
guarantor_key None = []
guarantor_key (Some firm) = Guar firm ∷ []

-- the keys of a path, in order: executing firm, agreement, account, carrying firm, and its guarantor if it has one
abbrev pub path_through : FirmId → AgreementId → AccountId → FirmId → Option FirmId → List LimitKey
path_through executing agreement account carrying guarantor =
    Exec executing ∷ Agr agreement ∷ Acct account ∷ Carry carrying ∷ guarantor_key guarantor

-- these are the keys of a path
abbrev pub ArePathKeys : List LimitKey → Type 0
ArePathKeys keys =
    (executing : FirmId) × (agreement : AgreementId) × (account : AccountId) × (carrying : FirmId) × (guarantor : Option FirmId)
    × (keys ≡ path_through executing agreement account carrying guarantor)

-- ---- how a path is stored

-- the stored keys
abbrev pub listed : Keys → List LimitKey
listed (Four keys) = keys
listed (Five keys) = keys

-- the number of stored keys
abbrev pub size_of : Keys → ℕ
size_of (Four keys) = 4
size_of (Five keys) = 5

-- keys as stored
abbrev pub kept : List LimitKey → Keys
kept keys = if length keys == 5 then Five keys else Four keys

-- the keys determine the stored form
pub kept-listed : (keys : Keys) → length (listed keys) ≡ size_of keys → kept (listed keys) ≡ keys
kept-listed (Four keys) h = rw h refl
kept-listed (Five keys) h = rw h refl
