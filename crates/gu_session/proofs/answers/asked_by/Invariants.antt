use Rattle.gu_session.proofs.Words.{◌≡◌, drop, asked_by}
use Rattle.gu_session.proofs.answers.asked_by.Given as goal

-- none of the earlier ones has the reference
abbrev pub invariant-loop-one : goal.invariant-loop-one
invariant-loop-one l = asked_by l.reference l.waiting ≡ asked_by l.reference (drop l.one-index l.waiting)
