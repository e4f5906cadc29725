use Rattle.gu_msgs.proofs.PlainTexts.{plain_code}
use Rattle.gu_msgs.proofs.session_fields.push_type.Goals as goal

pub push-requires : goal.push-requires
push-requires c = rw c.get.ensures.code (plain_code c.in-Some.code c.get.ensures.sound)
