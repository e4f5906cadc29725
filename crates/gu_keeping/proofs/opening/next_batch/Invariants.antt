use Rattle.gu_keeping.proofs.Words.{◌≡◌, ◌++◌, List, take, Entry, unknown_origins, IsBatchOf}
use Rattle.gu_keeping.proofs.opening.next_batch.Given as goal

abbrev pub invariant-loop-place : goal.invariant-loop-place
invariant-loop-place l = record {
  entries : List Entry;
  made : IsBatchOf l.fn.chain (unknown_origins entries) entries l.batch;
  so_far : take l.place l.history ≡ take l.fn.chain.count l.history ++ entries;
  count_is : l.batch.link.count ≡ l.place;
}
