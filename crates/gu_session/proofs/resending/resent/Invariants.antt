use Rattle.gu_session.proofs.Words.{◌≡◌, ◌++◌, drop, sent_within, with_gaps}
use Rattle.gu_session.proofs.resending.resent.Given as goal

-- with what the remaining messages add, everything is there
abbrev pub invariant-loop-place : goal.invariant-loop-place
invariant-loop-place l =
    l.messages.items ++ with_gaps l.firm l.now l.at l.range.to (sent_within l.range.from l.range.to (drop l.place l.kept.items))
    ≡ with_gaps l.firm l.now l.range.from l.range.to (sent_within l.range.from l.range.to l.kept.items)
