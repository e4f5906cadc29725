use Rattle.gu_msgs.proofs.PlainTexts.{plain_name}
use Rattle.gu_msgs.proofs.draft.Draft.push_name.Goals as goal

pub push-requires : goal.push-requires
push-requires c = plain_name c.args.name.now c.requires
