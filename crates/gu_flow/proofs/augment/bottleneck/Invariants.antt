use Rattle.gu_flow.proofs.Words.{◌≡◌, ◌<◌, HasRoom, IsNarrow}
use Rattle.gu_flow.proofs.augment.bottleneck.Given as goal

abbrev pub invariant-loop-end : goal.invariant-loop-end
invariant-loop-end l = record {
  least : HasRoom l.net.arcs.items l.flow l.way l.end-index l.least;
  some : HasRoom l.net.arcs.items l.flow l.way l.end-index 1 → 0 < l.least;
  narrow : 0 < l.end-index → IsNarrow l.net.arcs.items l.flow l.way l.end-index l.least;
  first : l.end-index ≡ 0 → l.least ≡ 18446744073709551615;
}
