use Rattle.gu_flow.proofs.Words.{refl, ◌%◌, eq-eqb, ne_eqb}
use Rattle.gu_flow.proofs.PushLemmas.{pushes_along, pushes_against}
use Rattle.gu_flow.proofs.residual.push.Goals as goal

pub returns-then-end-eq0 : goal.returns-then-end-eq0
returns-then-end-eq0 c = pushes_along c.args.net.now.arcs.items c.args.flow.now c.args.end c.args.lots _ c.requires.within c.requires.end (eq-eqb (c.args.end % 2) 0 c.if-end-eq0.true) c.requires.room refl

pub returns-else-end-eq0 : goal.returns-else-end-eq0
returns-else-end-eq0 c = pushes_against c.args.net.now.arcs.items c.args.flow.now c.args.end c.args.lots _ c.requires.within c.requires.end (ne_eqb (c.args.end % 2) 0 c.if-end-eq0.false) c.requires.room refl
