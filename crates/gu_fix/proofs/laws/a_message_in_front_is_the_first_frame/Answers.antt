use Rattle.gu_fix.proofs.StreamLaws.{message_first}
use Rattle.gu_fix.proofs.laws.a_message_in_front_is_the_first_frame.Goals as goal

pub returns : goal.returns
returns c = message_first
