use Rattle.gu_notices.proofs.Words.{◌-◌, flat_map, range_with_len, told_of_line, register_in}
use Rattle.gu_notices.proofs.NoticeLemmas.{IsToldSoFar}
use Rattle.gu_notices.proofs.mailbox.Mailbox.tell_lines.Lts.Given as given

abbrev pub invariant-loop-number : given.Live-loop-number → Type 0
invariant-loop-number l = IsToldSoFar l.fn.self l.self (flat_map (told_of_line (register_in l.register)) (range_with_len l.from (l.number - l.from)))
