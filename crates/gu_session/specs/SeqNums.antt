-- Message numbers: MsgSeqNum, tag 34 (FIXT 1.1, Standard Header).
use Rattle.std.specs.Prelude.{ℕ, ◌≤◌}

-- the greatest message number
abbrev pub greatest : ℕ
greatest = 1000000000

-- a number that a message can have
pub record IsSeqNum (n : ℕ) : Type 0 where
  pub some : 1 ≤ n
  pub most : n ≤ greatest
