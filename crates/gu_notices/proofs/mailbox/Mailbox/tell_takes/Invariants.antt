use Rattle.gu_notices.proofs.Words.{take, flat_map, told_of_take, register_in}
use Rattle.gu_notices.proofs.NoticeLemmas.{IsToldSoFar}
use Rattle.gu_notices.proofs.mailbox.Mailbox.tell_takes.Lts.Given as given

abbrev pub invariant-loop-take : given.Live-loop-take → Type 0
invariant-loop-take l = IsToldSoFar l.fn.self l.self (flat_map (told_of_take (register_in l.register)) (take l.take-index l.takes))
