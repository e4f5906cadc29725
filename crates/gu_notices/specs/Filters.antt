-- Machinery: sets of firms that may hold more than were added.
use Rattle.std.specs.Prelude.{◌≡◌, ℕ, ◌+◌, ◌*◌, ◌%◌, ◌==◌, Bool, true, not, fold}
use Rattle.std.specs.Int.{bit_at}
use Rattle.gu_terms.specs.declared.firm.FirmId.{FirmId}
use Rattle.gu_notices.specs.declared.firm_filter.FirmFilter.{FirmFilter}

-- the place of a name after one more byte
abbrev pub next_place : ℕ → ℕ → ℕ
next_place place byte = (place * 17 + byte) % 64

-- the place of a firm, one of 64, numbered from 0
abbrev pub place_of : FirmId → ℕ
place_of firm = fold next_place 0 firm.name

-- a set has a place: its bit is set
abbrev pub has_place : FirmFilter → ℕ → Bool
has_place firms place = not (bit_at firms.places place == 0)

-- a set may hold a firm: it has the firm's place
abbrev pub may_hold : FirmFilter → FirmId → Bool
may_hold firms firm = has_place firms (place_of firm)

-- every firm that one set may hold, the other may hold too
abbrev pub Keeps : FirmFilter → FirmFilter → Type 0
Keeps old new = (firm : FirmId) → may_hold old firm ≡ true → may_hold new firm ≡ true
