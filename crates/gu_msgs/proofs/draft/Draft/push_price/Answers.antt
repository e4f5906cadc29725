use Rattle.gu_msgs.proofs.PlainTexts.{plain_price}
use Rattle.gu_msgs.proofs.draft.Draft.push_price.Goals as goal

pub push-requires : goal.push-requires
push-requires c = rw (c.get.ensures, c.text.ensures.text) (plain_price c.args.price c.text.ensures.means.sound)
