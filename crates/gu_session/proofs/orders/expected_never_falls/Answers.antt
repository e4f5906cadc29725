use Rattle.gu_session.proofs.HandingOut.{never_falls}
use Rattle.gu_session.proofs.orders.expected_never_falls.Goals as goal

pub returns : goal.returns
returns c = never_falls
