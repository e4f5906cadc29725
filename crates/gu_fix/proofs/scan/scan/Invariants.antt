use Rattle.std.proofs.Common.{◌≡◌, ◌≤◌, ◌-◌, length, drop}
use Rattle.gu_fix.specs.Stream.{LeadsOn}
use Rattle.gu_fix.proofs.scan.scan.Given as goal

abbrev pub invariant-messages : goal.invariant-messages
invariant-messages l = record {
  within : l.at ≤ length l.window;
  leads_on : LeadsOn l.window l.frames.items (drop l.at l.window);
  same : l.window ≡ l.fn.window;
}

abbrev pub decreases-messages : goal.decreases-messages
decreases-messages l = length l.window - l.at
