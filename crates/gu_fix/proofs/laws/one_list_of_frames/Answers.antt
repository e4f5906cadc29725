use Rattle.gu_fix.proofs.StreamLaws.{one_list}
use Rattle.gu_fix.proofs.laws.one_list_of_frames.Goals as goal

pub returns : goal.returns
returns c stream frames others = one_list frames others stream
