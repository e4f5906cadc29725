-- Marks of many bytes by two numbers: one for a first part, and one for the rest.
use Rattle.std.specs.Prelude.{◌≡◌, ◌≤◌, ◌-◌, ◌++◌, ℕ, List, replicate}
use Rattle.gu_talks.specs.declared.marks.Marks.TheInside.{Inside}

-- the mark of each byte, in order
abbrev pub marks_of : Inside → List ℕ
marks_of marks = replicate marks.first marks.number ++ replicate (marks.marked - marks.first) marks.last

-- the first part is some of the bytes if there are any, and no byte of the rest has a lower mark; if there is no rest its mark is that of
-- the first part
pub record IsInParts (marks : Inside) : Type 0 where
  pub within : marks.first ≤ marks.marked
  pub begun : marks.first ≡ 0 → marks.marked ≡ 0
  pub rising : marks.number ≤ marks.last
  pub alone : marks.marked ≡ marks.first → marks.last ≡ marks.number
