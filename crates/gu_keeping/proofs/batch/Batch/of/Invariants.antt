use Rattle.gu_keeping.proofs.Words.{map, take, Some, IsBatchOf}
use Rattle.gu_keeping.proofs.batch.Batch.of.Given as goal

abbrev pub invariant-loop-place : goal.invariant-loop-place
invariant-loop-place l = IsBatchOf l.fn.chain (map Some (take l.place l.origins)) (take l.place l.entries) l.batch
