use Rattle.gu_fix.proofs.StreamLaws.{frames_exist}
use Rattle.gu_fix.proofs.laws.frames_exist.Goals as goal

pub returns : goal.returns
returns c = frames_exist
