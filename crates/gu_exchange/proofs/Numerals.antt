-- Numbers in digits, and addresses, as `parse` reads them.
use Rattle.std.proofs.Common.{◌≡◌, ◌≢◌, List, ℕ, true, false, Result, Ok, Err, is_ok, refl, codes, nat_eq}
use Rattle.std.proofs.lemmas.Fmt.{IsAscii-from_digits}
use Rattle.std.proofs.lemmas.Str.{IsUtf8-from_ascii}
use Rattle.std.specs.List.{starts_with}
use Rattle.std.specs.Net.Grammar.{IsIpv4Text, Parses}
use Rattle.std.specs.Str.{IsUtf8}
use Rattle.std.specs.declared.net.ipv4_addr.Ipv4Addr.{Ipv4Addr}
use Rattle.gu_exchange.specs.Endpoints.{IsIpv4Loopback, IsSmall}

-- digits are a text
pub text_of_digits : (text : List ℕ) → IsSmall text → IsUtf8 text
text_of_digits text is = IsUtf8-from_ascii text (IsAscii-from_digits text is.0.1)

-- an address that begins with 127 is read, and no other text
pub loopback_read : {E : Type 0} (text : List ℕ) (r : Result Ipv4Addr E) → starts_with nat_eq text (codes "127.") ≡ true → Parses IsIpv4Text text r
    → (is_ok r ≡ true → IsIpv4Loopback text) × (IsIpv4Loopback text → is_ok r ≡ true)
loopback_read text (Ok a) first parses = (λ is. record { first = first; address = (a, parses) }, λ is. refl)
loopback_read text (Err e) first parses = (λ is. let bad : false ≡ true = is in absurd (cc), λ is. absurd (parses is.address.0 is.address.1))
