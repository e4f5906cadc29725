use Rattle.gu_fix.proofs.ReadBack.{message_is_whole}
use Rattle.gu_fix.proofs.laws.a_message_of_sound_fields_is_whole.Goals as goal

pub returns : goal.returns
returns c = message_is_whole
