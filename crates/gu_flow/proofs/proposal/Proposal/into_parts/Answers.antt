use Rattle.gu_flow.proofs.Words.{ap, ProposedSweep}
use Rattle.gu_view.proofs.Checked.{ok_from_right}
use Rattle.gu_flow.proofs.proposal.Proposal.into_parts.Goals as goal

pub returns-clause-lots : goal.returns-clause-lots
returns-clause-lots c = ap (λ (s : ProposedSweep). s.lots) c.self.view_is

pub returns-clause-sound : goal.returns-clause-sound
returns-clause-sound c = c.self.invariant

pub returns-clause-checked : goal.returns-clause-checked
returns-clause-checked c =
    let p = c.self.inside in
    ok_from_right p.view c.self.invariant.of_view p.takes p.cut p.lots c.self.invariant.right
