use Rattle.gu_server.proofs.DayReceiptLemmas.{no_seat}
use Rattle.gu_server.proofs.closing.apart.Goals as goal

pub loop-one-init : goal.loop-one-init
loop-one-init g c = no_seat _ _ _ c.requires
