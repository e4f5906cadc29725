-- Lists of bytes: digests, and texts of digits, in which there is no comma and no LF.
use Rattle.std.proofs.Common.{◌≡◌, ◌<◌, ◌/◌, ◌^◌, ◌==◌, ℕ, zero, suc, Bool, true, false, List, length, take, get_or, w32, subst, lit<, arith, inl, inr}
use Rattle.std.specs.Prelude.{All}
use Rattle.std.specs.Int.{byte_at, bytes_high_first, to_be_bytes}
use Rattle.std.specs.List.{AllPass}
use Rattle.std.proofs.lemmas.Bool.{both_ways, cases_lt, ne_eqb}
use Rattle.std.proofs.lemmas.List.{get_or_default, get_or_past}
use Rattle.std.proofs.lemmas.List.Elements.{All-append, All-cons, All-nil, All-take, All-weaker}
use Rattle.std.proofs.lemmas.Nat.{mod_below}
use Rattle.hex.specs.Hex.{IsBytes, encode_lower, is_hex_digit}
use Rattle.hex.proofs.HexLemmas.{decode_of-encode_lower, decode_of-ok}
use Rattle.sha2.specs.Sha256.{digest_bytes, final_hash, initial_hash_256, sha256}

-- each element is a byte
IsBytes-from_All : (xs : List ℕ) → All (λ b. b < 256) xs → IsBytes xs
IsBytes-from_All xs all i = elim (cases_lt i (length xs)) [
  | inl within ↦ all i 0 within
  | inr past ↦ rw (get_or_past xs i 0 past) (lit< tt)
]

All-from_IsBytes : (xs : List ℕ) → IsBytes xs → All (λ b. b < 256) xs
All-from_IsBytes xs bytes k d within = omega (arith, bytes k, get_or_default xs k d 0 within)

pub IsBytes-take : (n : ℕ) (xs : List ℕ) → IsBytes xs → IsBytes (take n xs)
IsBytes-take n xs bytes = IsBytes-from_All (take n xs) (All-take (λ b. b < 256) n xs (All-from_IsBytes xs bytes))

-- ---- digests

small : (k n : ℕ) → byte_at k n < 256
small zero n = mod_below n 256 (lit< tt)
small (suc k) n = mod_below (n / 256 ^ suc k) 256 (lit< tt)

all_small : (k n : ℕ) → All (λ b. b < 256) (bytes_high_first k n)
all_small zero n = All-nil (λ b. b < 256)
all_small (suc k) n = All-cons (λ b. b < 256) (byte_at k n) (bytes_high_first k n) (small k n) (all_small k n)

words_small : (h : List ℕ) (n : ℕ) → All (λ b. b < 256) (digest_bytes h n)
unfolding digest_bytes
words_small h zero = All-nil (λ b. b < 256)
words_small h (suc n) = All-append (λ b. b < 256) (digest_bytes h n) (to_be_bytes w32 (get_or h n 0)) (words_small h n) (all_small 4 (get_or h n 0))

pub IsBytes-sha256 : (m : List ℕ) → IsBytes (sha256 m)
unfolding sha256
IsBytes-sha256 m = IsBytes-from_All _ (words_small (final_hash initial_hash_256 m) 8)

-- ---- texts

-- a byte that fails a test isn't among bytes that pass it
pub none_is : (p : ℕ → Bool) (byte : ℕ) → p byte ≡ false → (bytes : List ℕ) → AllPass p bytes → All (λ b. (b == byte) ≡ false) bytes
none_is p byte fails bytes pass =
    All-weaker (λ b. p b ≡ true) (λ b. (b == byte) ≡ false) (λ b passes. ne_eqb b byte (λ same. both_ways (p byte) fails (subst (λ (n : ℕ). p n ≡ true) same passes))) bytes pass

-- what is written as hexadecimal digits has digits alone
pub digits_pass : (bytes : List ℕ) → IsBytes bytes → AllPass is_hex_digit (encode_lower bytes)
digits_pass bytes are = (decode_of-ok (encode_lower bytes) bytes (decode_of-encode_lower bytes are)).1
