-- Doors: which of them are there, whether a connection may be waiting at any, and by which a firm came in.
use Rattle.std.specs.Prelude.{◌≡◌, ◌||◌, ℕ, Bool, false, true, not, nat_eq, List, Option, Some, None, IsSomeAnd, map, length, slice_get}
use Rattle.std.specs.List.{list_any}
use Rattle.std.specs.Option.{option_map}
use Rattle.gu_sockets.specs.declared.door.Door.{Door}
use Rattle.gu_sockets.specs.declared.doors.Doors.{Doors}
use Rattle.gu_sockets.specs.declared.firm_ways.Arrival.{Arrival}
use Rattle.gu_sockets.specs.declared.firm_ways.Arrival.TheVariants.{ByPort, ByDoor}
use Rattle.gu_sockets.specs.declared.firm_ways.FirmWays.{FirmWays}

-- a door is there
abbrev pub is_there : {L : Type 0} → Option (Door L) → Bool
is_there (Some door) = true
is_there None = false

-- it is there, and a connection may be waiting at it
abbrev pub is_door_due : {L : Type 0} → Option (Door L) → Bool
is_door_due (Some door) = door.is_due
is_door_due None = false

-- what listens at the port of ways, if it is open
abbrev pub port_listener : {P D : Type 0} → FirmWays P D → Option P
port_listener {P} ways = option_map (λ (door : Door P). door.listener) ways.port

-- what listens at the doors of firms, in their order
abbrev pub door_listeners : {P D : Type 0} → FirmWays P D → List D
door_listeners {P} {D} ways = map (λ (door : Door D). door.listener) ways.doors.items

-- the same listen at the port and at the doors of firms as before, in the same order
pub record KeepsListeners {P D : Type 0} (old new : FirmWays P D) : Type 0 where
  pub port : port_listener new ≡ port_listener old
  pub doors : door_listeners new ≡ door_listeners old

-- firms can come in: the port is open, or there are doors of firms
abbrev pub is_open : {P D : Type 0} → FirmWays P D → Bool
is_open ways = is_there ways.port || not (nat_eq (length ways.doors.items) 0)

-- a connection may be waiting at the port or at a door of a firm
abbrev pub is_way_due : {P D : Type 0} → FirmWays P D → Bool
is_way_due ways = is_door_due ways.port || list_any (λ door. door.is_due) ways.doors.items

-- who came in by the port was accepted by what listens there, and who came in by a door by what listens at the door of that number
abbrev pub CameIn : {P D A B : Type 0} → (P → A → Type 0) → (D → B → Type 0) → FirmWays P D → Arrival A B → Type 0
CameIn at_port at_door ways (ByPort one) = IsSomeAnd (port_listener ways) (λ listener. at_port listener one)
CameIn at_port at_door ways (ByDoor number one) = IsSomeAnd (slice_get (door_listeners ways) number) (λ listener. at_door listener one)

-- the port is open
abbrev pub has_port : Doors → Bool
has_port doors = is_there doors.firms.port

-- how many doors firms have
abbrev pub door_count : Doors → ℕ
door_count doors = length doors.firms.doors.items

-- the port is as it was, and there are as many doors of firms
pub record KeepsWays (old new : Doors) : Type 0 where
  pub port : has_port new ≡ has_port old
  pub doors : door_count new ≡ door_count old

-- a connection may be waiting at the port, at a door of a firm, at the console or at the socket for those who may only look
abbrev pub is_any_due : Doors → Bool
is_any_due doors = is_way_due doors.firms || is_door_due doors.console || is_door_due doors.watch
