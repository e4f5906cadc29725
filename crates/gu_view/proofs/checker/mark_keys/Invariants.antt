use Rattle.gu_view.proofs.Words.{take, has_key, has_room}
use Rattle.gu_view.proofs.MarkLemmas.{AreMarked}
use Rattle.gu_view.proofs.checker.mark_keys.Given as goal

abbrev pub invariant-loop-key : goal.invariant-loop-key
invariant-loop-key l = AreMarked l.view.rooms (has_room l.view.rooms) (λ r keys. has_key keys r.key) (take l.key-index l.keys) l.marks
