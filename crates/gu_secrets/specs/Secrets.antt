-- The file of secrets: the rows that it says, and which firm they admit by which secret.
use Rattle.std.specs.Prelude.{◌≡◌, ℕ, ◌==◌, ◌||◌, Bool, not, List, [], ◌∷◌, ◌++◌, length, Any, Option, None, Some, is_some}
use Rattle.std.specs.List.{filter_map, find, position_from, slice_split}
use Rattle.std.specs.Result.{result_ok}
use Rattle.std.specs.Str.{bytes_eq}
use Rattle.std.specs.Str.Lines.{lines}
use Rattle.hex.specs.Hex.{decode_sized}
use Rattle.sha2.specs.Sha256.{sha256}
use Rattle.gu_terms.specs.declared.firm.FirmId.{FirmId}
use Rattle.gu_secrets.specs.declared.row.SecretRow.{SecretRow}

-- the fields of a line: what lies between its commas
abbrev pub fields_of : List ℕ → List (List ℕ)
fields_of line = slice_split (λ b. b == 44) line

-- the firm with this name, if it is one of these firms
abbrev pub firm_named : List FirmId → List ℕ → Option FirmId
firm_named firms name = find (λ firm. bytes_eq firm.name name) firms

-- the bytes that hexadecimal digits in either case write, if they write this number of bytes
abbrev pub bytes_in : ℕ → List ℕ → Option (List ℕ)
bytes_in number digits = result_ok (decode_sized digits number)

-- the row of a firm, a salt and a digest, if there are all three
abbrev pub row_from : Option FirmId → Option (List ℕ) → Option (List ℕ) → Option SecretRow
row_from (Some firm) (Some salt) (Some digest) = Some (record { firm = firm; salt = salt; digest = digest })
row_from _ _ _ = None

-- the row that fields say: the name of one of these firms, a salt of 16 bytes and a digest of 32
abbrev pub row_in : List FirmId → List (List ℕ) → Option SecretRow
row_in firms (name ∷ salt ∷ digest ∷ []) = row_from (firm_named firms name) (bytes_in 16 salt) (bytes_in 32 digest)
row_in firms _ = None

-- the row that a line says
abbrev pub row_of : List FirmId → List ℕ → Option SecretRow
row_of firms line = row_in firms (fields_of line)

-- a line is good if it is empty or says a row
abbrev pub is_good : List FirmId → List ℕ → Bool
is_good firms line = length line == 0 || is_some (row_of firms line)

-- the rows that the lines of a text say, in turn. (A CR before an LF is dropped, and the last line may lack its LF: std's `lines`.)
abbrev pub rows_in : List FirmId → List ℕ → List SecretRow
rows_in firms text = filter_map (row_of firms) (lines text)

-- the number of the first line that isn't good, if there is one; the first line of a text has number 1
abbrev pub first_bad : List FirmId → List ℕ → Option ℕ
first_bad firms text = position_from (λ line. not (is_good firms line)) 1 (lines text)

-- a secret fits a row: the row's digest is SHA-256 of its salt with the secret after it
abbrev pub Fits : SecretRow → List ℕ → Type 0
Fits row secret = sha256 (row.salt ++ secret) ≡ row.digest

-- rows admit a firm by a secret that fits a row of the firm; without a secret they admit none
abbrev pub Admits : List SecretRow → FirmId → Option (List ℕ) → Type 0
Admits rows firm None = ⊥
Admits rows firm (Some secret) = Any (λ row. (row.firm ≡ firm) × Fits row secret) rows
