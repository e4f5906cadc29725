use Rattle.gu_keeping.proofs.Words.{◌≤◌, length, take, ended_lines, IsChainOf, empty_chain, AgreeTo, Chain}
use Rattle.gu_keeping.proofs.checking.check_digests.Given as goal

abbrev pub invariant-loop-line : goal.invariant-loop-line
invariant-loop-line l = record {
  at : IsChainOf l.chain (take l.chain.count l.history);
  within : l.chain.count ≤ length l.history;
  agrees : (last : Chain) → AgreeTo l.history l.chain (ended_lines l.rest) last → AgreeTo l.history empty_chain (ended_lines l.text) last;
  only : (last : Chain) → AgreeTo l.history empty_chain (ended_lines l.text) last → AgreeTo l.history l.chain (ended_lines l.rest) last;
}

abbrev pub decreases-loop-line : goal.decreases-loop-line
decreases-loop-line l = length l.rest
