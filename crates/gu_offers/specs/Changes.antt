-- How offers change.
use Rattle.std.specs.Prelude.{ℕ, zero, suc, ◌+◌, ◌-◌, true, false, List, ◌++◌, map, slice_get, slice_set}
use Rattle.std.specs.Option.{option_map_or}
use Rattle.gu_terms.specs.declared.firm.FirmId.{FirmId}
use Rattle.gu_terms.specs.declared.group.Group.{Group}
use Rattle.gu_terms.specs.declared.id.Id.{Id}
use Rattle.gu_terms.specs.declared.lines.Line.{Line}
use Rattle.gu_offers.specs.Rows.{Row}

-- the offer that a line makes
abbrev pub offered : FirmId → Id → Group → Line → Row
offered firm report group line =
    record {
      offer = record { firm = firm; report = report; group = group; account = line.account; lots = line.lots };
      moved = 0;
      today = 0;
      is_shut = false;
    }

-- the offers, followed by those that the lines of a give-up make
abbrev pub with_lines : List Row → FirmId → Id → Group → List Line → List Row
with_lines rows firm report group lines = rows ++ map (offered firm report group) lines

-- the offers after the one with this number is changed
abbrev pub changed : List Row → ℕ → (Row → Row) → List Row
changed rows zero change = rows
changed rows (suc place) change = option_map_or (λ r. slice_set rows place (change r)) (slice_get rows place) rows

-- an offer after lots of it are moved
abbrev pub taken : ℕ → Row → Row
taken lots r = record { offer = r.offer; moved = r.moved + lots; today = r.today + lots; is_shut = r.is_shut }

-- an offer after it is closed: lots already moved stay moved
abbrev pub closed : Row → Row
closed r = record { offer = r.offer; moved = r.moved; today = r.today; is_shut = true }

-- an offer after what was moved since the day was opened is taken back and it is closed
abbrev pub reversed : Row → Row
reversed r = record { offer = r.offer; moved = r.moved - r.today; today = 0; is_shut = true }

-- an offer after a day is opened: nothing has been moved since
abbrev pub next_day : Row → Row
next_day r = record { offer = r.offer; moved = r.moved; today = 0; is_shut = r.is_shut }
