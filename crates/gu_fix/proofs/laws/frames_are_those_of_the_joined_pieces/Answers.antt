use Rattle.gu_fix.proofs.StreamLaws.{frames_of_pieces}
use Rattle.gu_fix.proofs.laws.frames_are_those_of_the_joined_pieces.Goals as goal

pub returns : goal.returns
returns c = frames_of_pieces
