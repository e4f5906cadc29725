-- The lines of a give-up (FIX: NoAllocs, tag 78).
use Rattle.std.specs.Prelude.{ℕ, ◌≤◌, List, All, length, sum_by}
use Rattle.gu_terms.specs.Numbers.{IsLots}
use Rattle.gu_terms.specs.declared.lines.Line.{Line}

-- there are one to sixteen lines
pub record AreFewLines (lines : List Line) : Type 0 where
  pub some : 1 ≤ length lines
  pub most : length lines ≤ 16

-- the lines of a give-up: one to sixteen, each of 1 to 1,000,000 lots
pub record AreLines (lines : List Line) : Type 0 where
  pub some : 1 ≤ length lines
  pub most : length lines ≤ 16
  pub lots : All (λ l. IsLots l.lots) lines

-- the total lots of the lines
abbrev pub lots_in_all : List Line → ℕ
lots_in_all lines = sum_by (λ (l : Line). l.lots) lines
