-- Firms that have come in: by which way, and whether they say so.
use Rattle.std.specs.Prelude.{◌≡◌, ◌<◌, ℕ, Option, Some, None, IsSomeAnd}
use Rattle.mio.specs.declared.net.TcpStream.{TcpStream}
use Rattle.mio.specs.declared.net.UnixStream.{UnixStream}
use Rattle.gu_sockets.specs.declared.caller.Caller.{Caller}
use Rattle.gu_sockets.specs.declared.firm_ways.Arrival.{Arrival}
use Rattle.gu_sockets.specs.declared.firm_ways.Arrival.TheVariants.{ByPort, ByDoor}
use Rattle.gu_sockets.specs.declared.socket_stream.SocketStream.{SocketStream}
use Rattle.gu_sockets.specs.declared.socket_stream.SocketStream.TheVariants.{Tcp, Unix}

-- who has come in by the port has its peer's port and no door; who has come in by a door has its number, and port 0
abbrev pub caller_of : Arrival (TcpStream × ℕ) UnixStream → Caller
caller_of (ByPort peer) = record { stream = Tcp peer.0; port = peer.1; door = None }
caller_of (ByDoor number stream) = record { stream = Unix stream; port = 0; door = Some number }

-- the door of a connection: none at the port, and else one of this many doors of firms
abbrev pub HasDoor : ℕ → SocketStream → Option ℕ → Type 0
HasDoor doors (Tcp stream) door = door ≡ None
HasDoor doors (Unix stream) door = IsSomeAnd door (λ number. number < doors)
