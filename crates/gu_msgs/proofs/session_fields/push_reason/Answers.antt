use Rattle.gu_msgs.proofs.PlainTexts.{plain_code}
use Rattle.gu_msgs.proofs.session_fields.push_reason.Goals as goal

pub push-requires-in-UnsupportedMessageType : goal.push-requires-in-UnsupportedMessageType
push-requires-in-UnsupportedMessageType c =
    rw c.get-in-UnsupportedMessageType.ensures.code (plain_code c.in-UnsupportedMessageType.code c.get-in-UnsupportedMessageType.ensures.sound)
