use Rattle.gu_view.proofs.Words.{◌≡◌, List, take, All, IsTrue, get, key_eq, LimitKey, has_room, in_order, lots_given, Room}
use Rattle.gu_view.proofs.making.ordered.Given as goal

abbrev pub invariant-loop-key : goal.invariant-loop-key
invariant-loop-key l = (rooms : List Room) → ((k : LimitKey) → get key_eq l.lots k ≡ lots_given rooms k) → All (λ k. IsTrue (has_room rooms k)) (take l.key-index l.keys) × (l.made.items ≡ in_order (take l.key-index l.keys) rooms)
