-- A secret that is issued to a firm: its text, and its line in the file of secrets, by 32 bytes that were drawn.
use Rattle.std.specs.Prelude.{◌≡◌, ℕ, List, ◌∷◌, ◌++◌, length, take, drop, Contains, None, Some}
use Rattle.hex.specs.Hex.{IsBytes, encode_lower}
use Rattle.sha2.specs.Sha256.{sha256}
use Rattle.gu_terms.specs.Names.{IsName}
use Rattle.gu_terms.specs.declared.firm.FirmId.{FirmId}
use Rattle.gu_secrets.specs.Secrets.{Admits, first_bad, rows_in}
use Rattle.gu_secrets.specs.declared.row.SecretRow.{SecretRow}

-- the salt: the first 16 bytes
abbrev pub issued_salt : List ℕ → List ℕ
issued_salt drawn = take 16 drawn

-- the secret's text: the other 16 bytes as hexadecimal digits in lower case
abbrev pub issued_secret : List ℕ → List ℕ
issued_secret drawn = encode_lower (drop 16 drawn)

-- the row that the secret fits
abbrev pub issued_row : FirmId → List ℕ → SecretRow
issued_row firm drawn = record { firm = firm; salt = issued_salt drawn; digest = sha256 (issued_salt drawn ++ issued_secret drawn) }

-- a row as a line: the firm's name, the salt and the digest, parted by commas, in lower case and without an LF
abbrev pub line_of : SecretRow → List ℕ
line_of row = row.firm.name ++ 44 ∷ (encode_lower row.salt ++ 44 ∷ encode_lower row.digest)

-- the line that is issued
abbrev pub issued_line : FirmId → List ℕ → List ℕ
issued_line firm drawn = line_of (issued_row firm drawn)

-- a text has no bad line, and its rows admit this firm by this secret
pub record IsAdmittedFrom (firms : List FirmId) (text : List ℕ) (firm : FirmId) (secret : List ℕ) : Type 0 where
  pub good : first_bad firms text ≡ None
  pub admits : Admits (rows_in firms text) firm (Some secret)

-- the line that is issued to a firm admits it by the secret's text, for any firms that have this one, and any 32 bytes
abbrev pub AnIssuedSecretAdmitsItsFirm : Type 0
AnIssuedSecretAdmitsItsFirm = (firm : FirmId) (firms : List FirmId) (drawn : List ℕ)
    → IsName firm.name → Contains firms firm → length drawn ≡ 32 → IsBytes drawn
    → IsAdmittedFrom firms (issued_line firm drawn) firm (issued_secret drawn)
