use Rattle.gu_flow.proofs.Words.{◌+◌, ◌-◌, ◌/◌, ◌%◌, ◌∙◌, ap, arith, eq-eqb, ne_eqb, get_or_default}
use Rattle.gu_flow.proofs.PushLemmas.{pushes_along, pushes_against}
use Rattle.gu_flow.proofs.allotment.Allotment.push.Goals as goal

pub returns-then-end-eq0-clause-pushes : goal.returns-then-end-eq0-clause-pushes
returns-then-end-eq0-clause-pushes c =
    let flow = c.args.self.now.flow.items in
    let end = c.args.end in
    let tail = eq-eqb (end % 2) 0 c.if-end-eq0.true in
    let room = rw tail at c.requires.room in
    let was = c.index_mut.ensures.value ∙ get_or_default flow (end / 2) c.index_mut.result.now 0 (omega (arith, c.requires.within.all, c.requires.end)) in
    pushes_along c.args.net.now.arcs.items flow end c.args.lots _ c.requires.within c.requires.end tail (rw tail room) (ap (λ n. n + c.args.lots) was)

pub returns-else-end-eq0-clause-pushes : goal.returns-else-end-eq0-clause-pushes
returns-else-end-eq0-clause-pushes c =
    let flow = c.args.self.now.flow.items in
    let end = c.args.end in
    let head = ne_eqb (end % 2) 0 c.if-end-eq0.false in
    let room = rw head at c.requires.room in
    let now = c.index_mut-else-end-eq0.result.now in
    let was = c.index_mut-else-end-eq0.ensures.value ∙ get_or_default flow (end / 2) now 0 (omega (arith, c.requires.within.all, c.requires.end)) in
    pushes_against c.args.net.now.arcs.items flow end c.args.lots _ c.requires.within c.requires.end head (rw head (omega (arith, room))) (ap (λ n. n - c.args.lots) was)
