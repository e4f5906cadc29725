use Rattle.std.proofs.Common.{refl}
use Rattle.gu_msgs.proofs.answering.matched_body.Goals as goal

pub returns : goal.returns
returns c = refl
