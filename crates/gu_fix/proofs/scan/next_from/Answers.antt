use Rattle.std.proofs.Common.{List, ℕ, ◌+◌, sym, subst, ◌∙◌}
use Rattle.std.proofs.lemmas.List.{take_rest}
use Rattle.gu_fix.specs.Scans.{IsGarbledTo}
use Rattle.gu_fix.proofs.Scanning.{garbled_further, garbled_some}
use Rattle.gu_fix.proofs.scan.next_from.Goals as goal

pub next_start-at-requires-clause-some : goal.next_start-at-requires-clause-some
next_start-at-requires-clause-some c = garbled_some _ c.in-Garbled.ensures

pub places-preserved : goal.places-preserved
places-preserved c =
    let next = simp (take_rest, c.bytes.ensures) at c.next_start-at.ensures in
    let kept = c.in_ok-keep_sums-in-Garbled.ensures in
    record {
      passed = subst (λ (t : List ℕ). IsGarbledTo t c.args.from (c.places.at + c.next_start-at.result)) (sym kept)
          (garbled_further c.places.window c.args.from c.places.at c.next_start-at.result c.places.invariant.passed next.within next.garbled);
      same = kept ∙ c.places.invariant.same;
    }
