use Rattle.gu_flow.proofs.Words.{subst, IsSound}
use Rattle.gu_view.proofs.Checked.{ok_from_right}
use Rattle.gu_flow.proofs.proposal.Proposal.lots.Goals as goal

pub returns-clause-checked : goal.returns-clause-checked
returns-clause-checked c =
    let p = c.args.self.now in
    let sound : IsSound p = subst IsSound c.self.view_is c.self.invariant in
    ok_from_right p.view sound.of_view p.takes p.cut p.lots sound.right
