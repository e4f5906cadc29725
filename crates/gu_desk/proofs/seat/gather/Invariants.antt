use Rattle.gu_desk.proofs.Words.{◌≡◌, ◌+◌, ◌≤◌, length, All, sum_by}
use mathlib.Core.List.{IsPrefix}
use Rattle.gu_desk.proofs.seat.gather.Given as goal

abbrev pub invariant-loop-seat : goal.invariant-loop-seat
invariant-loop-seat g l = record {
  parts : (l.own.parts ≡ l.initial.own.parts + length l.yielded) × (l.own.parts ≤ g.E.Ledger.parts);
  amount : l.own.amount ≡ l.initial.own.amount + sum_by (λ s. s.entries) l.yielded;
  swept_parts : (l.own_swept.parts ≡ l.initial.own_swept.parts + length l.yielded) × (l.own_swept.parts ≤ g.S.Ledger.parts);
  swept_amount : l.own_swept.amount ≡ l.initial.own_swept.amount + sum_by (λ s. s.swept) l.yielded;
  history : l.annals ≡ l.initial.annals;
  seen : All (λ s. IsPrefix s.front l.initial.annals) l.yielded;
}
