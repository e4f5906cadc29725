use Rattle.gu_keeping.proofs.Words.{◌≡◌, ◌≤◌, ◌-◌, ◌++◌, List, ℕ, length, take, IsWholeLines, IsOpening, Writes}
use Rattle.gu_keeping.proofs.opening.keep_opening.Given as goal

abbrev pub invariant-loop-alloc : goal.invariant-loop-alloc
invariant-loop-alloc g l = record {
  text : List ℕ;
  opening : IsOpening (take l.chain.count l.history) l.chain text;
  whole : IsWholeLines (l.heading ++ text);
  within : l.chain.count ≤ length l.history;
  before : g.K.Sink.is_honest (g.K.Sink.place l.sink) → g.K.Sink.is_honest (g.K.Sink.place l.fn.sink);
  kept : g.K.Sink.is_honest (g.K.Sink.place l.sink) → g.K.Sink.kept l.sink ≡ g.K.Sink.kept l.fn.sink ++ (l.heading ++ text);
  any_moment : Writes g.K.Sink.is_honest g.K.Sink.moment g.K.Sink.left_since (g.K.Sink.place l.fn.sink) (g.K.Sink.place l.sink) (g.K.Sink.kept l.fn.sink) (l.heading ++ text);
}

abbrev pub decreases-loop-alloc : goal.decreases-loop-alloc
decreases-loop-alloc g l = length l.history - l.chain.count
