-- A carrying firm's reasons for refusing an offer: the rejecting values of AllocStatus, tag 87 (FIX 5.0 SP2).
use Rattle.std.specs.Prelude.{ℕ}
use Rattle.gu_terms.specs.declared.alloc_reject.AllocReject.{AllocReject}
use Rattle.gu_terms.specs.declared.alloc_reject.AllocReject.TheVariants.{BlockLevel, AccountLevel, Intermediary}

-- the number of a reason
abbrev pub reject_number : AllocReject → ℕ
reject_number BlockLevel = 1
reject_number AccountLevel = 2
reject_number Intermediary = 5
