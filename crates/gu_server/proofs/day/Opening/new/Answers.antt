use Rattle.std.proofs.Common.{arith}
use Rattle.gu_server.proofs.day.Opening.new.Goals as goal

pub invariant_of-result : goal.invariant_of-result
invariant_of-result g c = record {
  told = c.in_ok-annals.ensures;
  journaled = c.requires;
  parts = omega (arith, c.new.ensures, c.seats.ensures);
  swept_parts = omega (arith, c.new-2.ensures, c.seats.ensures);
}
