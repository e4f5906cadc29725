use Rattle.gu_engine.proofs.Words.{◌≡◌, ◌⊎◌, ◌<◌, ◌≤◌, length, true, steps_left, GivesSome, IsReady}
use Rattle.gu_engine.proofs.Answering.{SoFar}
use Rattle.gu_engine.proofs.running.answer_left.Given as goal

-- the first of the events left are answered, and the others are left
abbrev pub invariant-events : goal.invariant-events
invariant-events g l = record {
  so_far : SoFar g.A.Answerer.engine l.now l.fn.answerer l.answerer l.fn.backlog l.backlog (g.W.Write.contents l.fn.writer) (g.W.Write.contents l.writer);
  gave : GivesSome l.fn.backlog.held.bytes.items l.backlog.held.bytes.items (g.W.Write.contents l.fn.writer) (g.W.Write.contents l.writer);
  ready : IsReady g.A.Answerer.engine l.answerer ⊎ (65536 < length l.backlog.held.bytes.items);
  few : g.O.Outlet.takes_all ≡ true → length l.fn.backlog.held.bytes.items ≤ 65536 → length l.backlog.held.bytes.items ≤ 65536;
}

abbrev pub decreases-events : goal.decreases-events
decreases-events g l = steps_left l.backlog.left l.backlog.intake
