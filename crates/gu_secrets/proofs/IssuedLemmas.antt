-- The line of a row is read back, and an issued row admits its firm.
use Rattle.std.proofs.Common.{◌≡◌, ◌∷◌, [], ◌++◌, ◌∙◌, ◌==◌, ℕ, Bool, true, false, not, List, None, Some, is_some, length, take, refl, ap, lit<, arith, length-append}
use Rattle.std.specs.Prelude.{All, Contains}
use Rattle.std.specs.List.{AllPass, filter_map, position_from}
use Rattle.std.specs.Result.{result_ok}
use Rattle.std.specs.Str.Lines.{lines}
use Rattle.std.proofs.lemmas.Bool.{cond-false, or_right}
use Rattle.std.proofs.lemmas.List.{length-take-le}
use Rattle.std.proofs.lemmas.List.Elements.{All-append, All-cons}
use Rattle.std.proofs.lemmas.List.Splits.{slice_split_at, slice_split_none}
use Rattle.hex.specs.Hex.{IsBytes, encode_lower, is_hex_digit}
use Rattle.hex.proofs.HexLemmas.{decode_sized-encode_lower}
use Rattle.sha2.proofs.Facts256.{length-sha256}
use Rattle.gu_terms.specs.Names.{IsName, is_name_byte}
use Rattle.gu_terms.specs.declared.firm.FirmId.{FirmId}
use Rattle.gu_secrets.specs.Issued.{AnIssuedSecretAdmitsItsFirm, issued_line, issued_row, issued_secret, line_of}
use Rattle.gu_secrets.specs.Secrets.{bytes_in, fields_of, firm_named, is_good, row_from, row_in, row_of, rows_in}
use Rattle.gu_secrets.specs.declared.row.SecretRow.{SecretRow}
use Rattle.gu_secrets.proofs.Bytes.{IsBytes-sha256, IsBytes-take, digits_pass, none_is}
use Rattle.gu_secrets.proofs.NamedFirms.{named}
use Rattle.gu_secrets.proofs.Splits.{lines_one}

-- what a row's type keeps
record IsWritable (row : SecretRow) : Type 0 where
  name : AllPass is_name_byte row.firm.name
  salt : IsBytes row.salt
  digest : IsBytes row.digest
  salt_long : length row.salt ≡ 16
  digest_long : length row.digest ≡ 32

no_comma : (bytes : List ℕ) → IsBytes bytes → All (λ b. (b == 44) ≡ false) (encode_lower bytes)
no_comma bytes are = none_is is_hex_digit 44 refl (encode_lower bytes) (digits_pass bytes are)

no_feed : (bytes : List ℕ) → IsBytes bytes → All (λ b. (b == 10) ≡ false) (encode_lower bytes)
no_feed bytes are = none_is is_hex_digit 10 refl (encode_lower bytes) (digits_pass bytes are)

-- the fields of a row's line
fields_of-line_of : (row : SecretRow) → IsWritable row → fields_of (line_of row) ≡ row.firm.name ∷ encode_lower row.salt ∷ encode_lower row.digest ∷ []
fields_of-line_of row is =
    let comma : ℕ → Bool = λ b. b == 44 in
    let salt = encode_lower row.salt in
    let digest = encode_lower row.digest in
    slice_split_at comma row.firm.name 44 (salt ++ 44 ∷ digest) (none_is is_name_byte 44 refl row.firm.name is.name) refl
    ∙ ap (λ (fields : List (List ℕ)). row.firm.name ∷ fields)
    (slice_split_at comma salt 44 digest (no_comma row.salt is.salt) refl
    ∙ ap (λ (fields : List (List ℕ)). salt ∷ fields) (slice_split_none comma digest (no_comma row.digest is.digest)))

-- its line says a row, if its firm is among the firms
row_of-line_of : (firms : List FirmId) (row : SecretRow) → IsWritable row → Contains firms row.firm → row_of firms (line_of row) ≡ Some row
row_of-line_of firms row is has =
    let salt : bytes_in 16 (encode_lower row.salt) ≡ Some row.salt = ap result_ok (decode_sized-encode_lower row.salt 16 is.salt_long is.salt) in
    let digest : bytes_in 32 (encode_lower row.digest) ≡ Some row.digest = ap result_ok (decode_sized-encode_lower row.digest 32 is.digest_long is.digest) in
    let firm : firm_named firms row.firm.name ≡ Some row.firm = named firms row.firm has in
    ap (row_in firms) (fields_of-line_of row is) ∙ (λ i. row_from (firm i) (salt i) (digest i))

-- a row's line is one line
lines-line_of : (row : SecretRow) → IsWritable row → lines (line_of row) ≡ line_of row ∷ []
lines-line_of row is =
    let feed : ℕ → Bool = λ b. b == 10 in
    let salt = encode_lower row.salt in
    let digest = encode_lower row.digest in
    let P : ℕ → Type 0 = λ b. (b == 10) ≡ false in
    let none : All P (line_of row) =
    All-append P row.firm.name (44 ∷ (salt ++ 44 ∷ digest)) (none_is is_name_byte 10 refl row.firm.name is.name)
    (All-cons P 44 (salt ++ 44 ∷ digest) refl (All-append P salt (44 ∷ digest) (no_feed row.salt is.salt) (All-cons P 44 digest refl (no_feed row.digest is.digest)))) in
    lines_one (line_of row) (omega (arith, length-append row.firm.name (44 ∷ (salt ++ 44 ∷ digest)))) (slice_split_none feed (line_of row) none)

-- an issued row is one that can be written
issued_writable : (firm : FirmId) (drawn : List ℕ) → IsName firm.name → length drawn ≡ 32 → IsBytes drawn → IsWritable (issued_row firm drawn)
issued_writable firm drawn name long bytes = record {
  name = name.each;
  salt = IsBytes-take 16 drawn bytes;
  digest = IsBytes-sha256 (take 16 drawn ++ issued_secret drawn);
  salt_long = length-take-le 16 drawn (omega (arith, long));
  digest_long = length-sha256 (take 16 drawn ++ issued_secret drawn);
}

pub an_issued_secret_admits_its_firm : AnIssuedSecretAdmitsItsFirm
an_issued_secret_admits_its_firm firm firms drawn name has long bytes =
    let row = issued_row firm drawn in
    let line = issued_line firm drawn in
    let is = issued_writable firm drawn name long bytes in
    let said : row_of firms line ≡ Some row = row_of-line_of firms row is has in
    let only : lines line ≡ line ∷ [] = lines-line_of row is in
    let good : is_good firms line ≡ true = or_right (length line == 0) (is_some (row_of firms line)) (ap is_some said) in
    let rows : rows_in firms line ≡ row ∷ [] = ap (filter_map (row_of firms)) only ∙ put firms line row said in
    record {
      good = ap (position_from (λ l. not (is_good firms l)) 1) only ∙ cond-false (not (is_good firms line)) (Some 1) None (ap not good);
      admits = rw rows (0, row, lit< tt, refl, (refl, refl));
    }
  where
    put : (firms : List FirmId) (line : List ℕ) (row : SecretRow) → row_of firms line ≡ Some row → filter_map (row_of firms) (line ∷ []) ≡ row ∷ []
    put firms line row said = rw said refl
