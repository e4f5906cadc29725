use Rattle.gu_session.proofs.HandingOut.{in_order}
use Rattle.gu_session.proofs.orders.hands_out_in_order.Goals as goal

pub returns : goal.returns
returns c = in_order
