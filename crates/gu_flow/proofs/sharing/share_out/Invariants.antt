use Rattle.gu_flow.proofs.ShareLemmas.{IsSharingOut}
use Rattle.gu_flow.proofs.sharing.share_out.Given as goal

abbrev pub invariant-loop-number : goal.invariant-loop-number
invariant-loop-number l = IsSharingOut l.view l.fn.flow.items l.takes.items l.rests.items l.number
