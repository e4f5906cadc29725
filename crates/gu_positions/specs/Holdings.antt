-- Machinery: a row's lots, as stored beside its account and its instrument.
use Rattle.std.specs.Prelude.{ℕ, ◌+◌, ◌-◌}
use Rattle.gu_terms.specs.declared.side.Side.{Side}
use Rattle.gu_terms.specs.declared.side.Side.TheVariants.{Buy, Sell}
use Rattle.gu_positions.specs.declared.holding.Holding.{Holding}

-- the lots on a side
abbrev pub held : Side → Holding → ℕ
held Buy h = h.long
held Sell h = h.short

-- no lots, in an instrument whose open interest is at this index
abbrev pub nothing_at : ℕ → Holding
nothing_at place = record { long = 0; short = 0; interest = place }

-- more lots on a side
abbrev pub more : Side → ℕ → Holding → Holding
more Buy lots h = record h { long = h.long + lots }
more Sell lots h = record h { short = h.short + lots }

-- fewer lots on a side
abbrev pub less : Side → ℕ → Holding → Holding
less Buy lots h = record h { long = h.long - lots }
less Sell lots h = record h { short = h.short - lots }
