-- Where an etcd listens: a host of this machine, a colon and a port.
use Rattle.std.specs.Prelude.{◌≡◌, ◌≢◌, ◌⊎◌, ◌<◌, ◌^◌, ℕ, List, ◌∷◌, ◌++◌, codes, slice_index, nat_eq, true}
use Rattle.std.specs.List.{starts_with}
use Rattle.std.specs.Net.Grammar.{IsIpv4Text}
use Rattle.std.specs.Str.Parse.{IsNumeral, digits_value}
use Rattle.std.specs.declared.net.ipv4_addr.Ipv4Addr.{Ipv4Addr}
use Rattle.gu_etcd.specs.Splitting.{Lacks}

-- an IPv4 address in 127.0.0.0/8: one whose first number is 127
pub record IsIpv4Loopback (text : List ℕ) : Type 0 where
  pub first : starts_with nat_eq text (codes "127.") ≡ true
  pub address : (a : Ipv4Addr) × IsIpv4Text text a

-- a number below 65536 in digits
abbrev pub IsSmall : List ℕ → Type 0
IsSmall text = IsNumeral 10 text × (digits_value 10 text < 2 ^ 16)

-- a port: a number from 1 to 65535 in digits, of which the first isn't 0
pub record IsPort (text : List ℕ) : Type 0 where
  pub small : IsSmall text
  pub no_zero : slice_index text 0 ≢ 48

-- `localhost` or an IPv4 address in 127.0.0.0/8, a colon and a port
pub record IsNamedEndpoint (text : List ℕ) : Type 0 where
  pub host : List ℕ
  pub port : List ℕ
  pub text_is : text ≡ host ++ 58 ∷ port
  pub no_colon : Lacks 58 host
  pub is_host : (host ≡ codes "localhost") ⊎ IsIpv4Loopback host
  pub is_port : IsPort port

-- `[::1]`, a colon and a port
pub record IsIpv6Endpoint (text : List ℕ) : Type 0 where
  pub port : List ℕ
  pub text_is : text ≡ codes "[::1]:" ++ port
  pub is_port : IsPort port

-- a host of this machine, a colon and a port
abbrev pub IsEndpoint : List ℕ → Type 0
IsEndpoint text = IsIpv6Endpoint text ⊎ IsNamedEndpoint text
