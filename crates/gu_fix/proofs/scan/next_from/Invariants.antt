use Rattle.std.proofs.Common.{◌≡◌, ◌-◌, length}
use Rattle.gu_fix.specs.Scans.{IsGarbledTo}
use Rattle.gu_fix.proofs.scan.next_from.Given as goal

abbrev pub invariant-places : goal.invariant-places
invariant-places l = record {
  passed : IsGarbledTo l.window l.from l.at;
  same : l.window ≡ l.fn.window;
}

abbrev pub decreases-places : goal.decreases-places
decreases-places l = length l.window - l.at
