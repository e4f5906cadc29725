use Rattle.std.proofs.Common.{arith}
use Rattle.gu_view.proofs.ListsInOne.{alike_at}
use Rattle.gu_view.proofs.shared_lists.SharedLists.run_end.Goals as goal

pub returns-then-index-kept-clause-alike : goal.returns-then-index-kept-clause-alike
returns-then-index-kept-clause-alike c =
    let at = c.self.inside.at in
    rw (← c.self.view_is)
    (alike_at c.self.inside.kept at.items c.args.first c.loop-end.end c.index-kept.result.now (omega (arith, c.loop-end-test.true, c.len-end-end.ensures, at.ok.0)) c.loop-end.invariant.alike)

pub returns-clause-alike : goal.returns-clause-alike
returns-clause-alike c =
    let at = c.self.inside.at in
    rw (← c.self.view_is)
    (alike_at c.self.inside.kept at.items c.args.first c.len.result c.index-kept.result.now (omega (arith, c.len.ensures, at.ok.0))
    (λ place low high. c.loop-end.invariant.alike place low (omega (arith, c.loop-end-test.false, c.len.ensures, c.len-end-end.ensures))))
