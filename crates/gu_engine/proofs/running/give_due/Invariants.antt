use Rattle.gu_engine.proofs.Words.{◌≡◌, ◌≤◌, [], ℕ, List, length, true, AnswersSome, Gives}
use Rattle.gu_engine.proofs.running.give_due.Given as goal

-- some of what is due was given
abbrev pub invariant-parts : goal.invariant-parts
invariant-parts g l = record {
  text : List ℕ;
  some : AnswersSome g.A.Answerer.engine l.now l.initial.answerer [] text l.answerer;
  gives : Gives text l.initial.held.bytes.items l.held.bytes.items (g.W.Write.contents l.initial.writer) (g.W.Write.contents l.writer);
  few : g.O.Outlet.takes_all ≡ true → length l.initial.held.bytes.items ≤ 65536 → length l.held.bytes.items ≤ 65536;
}

abbrev pub decreases-parts : goal.decreases-parts
decreases-parts g l = g.A.Answerer.parts_left l.answerer
