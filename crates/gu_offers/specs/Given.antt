-- Machinery: an offer as stored, with the number of the day on which lots were last moved.
use Rattle.std.specs.Prelude.{ℕ, ◌+◌, ◌≤◌, ◌==◌, false, Bool, List, length, if◌then◌else◌}
use Rattle.gu_terms.specs.Names.{IsId}
use Rattle.gu_terms.specs.PackedEntries.{text_at}
use Rattle.gu_terms.specs.declared.firm.FirmId.{FirmId}
use Rattle.gu_terms.specs.declared.group.Group.{Group}
use Rattle.gu_terms.specs.declared.id.Id.{Id}
use Rattle.gu_terms.specs.declared.lines.Line.{Line}
use Rattle.gu_terms.specs.declared.offer.Offer.{Offer}
use Rattle.gu_offers.specs.declared.given.Given.{Given}
use Rattle.gu_offers.specs.declared.given.Shared.{Shared}
use Rattle.gu_offers.specs.Rows.{Row}

-- an offer as stored: what was given up, the lots of it that were moved, the number of the day on which lots were last moved, those moved
-- on it, and whether it was closed
pub record GivenUp : Type 0 where
  pub offer : Offer
  pub moved : ℕ
  pub moved_on : ℕ
  pub today : ℕ
  pub is_shut : Bool

-- the id of its report, taken from the ids of all
abbrev pub report_in : List ℕ → Given → List ℕ
report_in ids g = text_at ids g.at g.len

-- the offer stored as this, with the id of its report
abbrev pub given_in : List ℕ → Given → GivenUp
given_in ids g =
    record {
      offer = record { firm = g.firm; report = report_in ids g; group = g.group; account = g.account; lots = g.lots };
      moved = g.moved;
      moved_on = g.moved_on;
      today = g.today;
      is_shut = g.is_shut;
    }

-- the id is valid and lies within those of all
pub record IsWithin (ids : List ℕ) (g : Given) : Type 0 where
  pub within : g.at + g.len ≤ length ids
  pub id : IsId (report_in ids g)

-- the offer as of a day: lots moved last count as today's if they were moved on this day, else 0
abbrev pub row_of : ℕ → GivenUp → Row
row_of day g = record { offer = g.offer; moved = g.moved; today = if g.moved_on == day then g.today else 0; is_shut = g.is_shut }

-- the stored form of the offer that a line of a give-up makes
abbrev pub given_for : FirmId → Id → Group → Line → GivenUp
given_for firm report group line =
    record {
      offer = record { firm = firm; report = report; group = group; account = line.account; lots = line.lots };
      moved = 0;
      moved_on = 0;
      today = 0;
      is_shut = false;
    }

-- the stored offer after today's lots are reset to 0
abbrev pub forgotten : GivenUp → GivenUp
forgotten g = record { offer = g.offer; moved = g.moved; moved_on = g.moved_on; today = 0; is_shut = g.is_shut }

-- the stored form of a line of a give-up, apart from the id of its report
abbrev pub kept_for : Shared → Line → Given
kept_for shared line =
    record {
      firm = shared.firm;
      group = shared.group;
      account = line.account;
      len = shared.len;
      is_shut = false;
      lots = line.lots;
      at = shared.at;
      moved = 0;
      moved_on = 0;
      today = 0;
    }

-- the same, after today's lots are reset to 0
abbrev pub without_today : Given → Given
without_today g =
    record {
      firm = g.firm;
      group = g.group;
      account = g.account;
      len = g.len;
      is_shut = g.is_shut;
      lots = g.lots;
      at = g.at;
      moved = g.moved;
      moved_on = g.moved_on;
      today = 0;
    }
