use Rattle.gu_engine.proofs.Words.{◌≡◌, ◌+◌, None, reads_left, waits_left, IsPause, Pause}
use Rattle.gu_engine.proofs.Servings.{Serving}
use Rattle.gu_engine.proofs.running.make_turns.Given as goal

-- so far it served, and no turn was cut
abbrev pub invariant-turns : goal.invariant-turns
invariant-turns g l = record {
  pause : Pause g.row.A.Denot;
  is_pause : IsPause l.answerer l.backlog pause;
  none_left : pause.left ≡ None;
  served : Serving g.R.Read.remaining g.W.Write.contents g.A.Answerer.engine l.fn.answerer pause l.backlog.held.bytes.items l.fn.reads l.reads l.fn.writer l.writer;
}

abbrev pub decreases-turns : goal.decreases-turns
decreases-turns g l = reads_left l.reads + waits_left l.reads
