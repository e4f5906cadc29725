use Rattle.gu_desk.proofs.Words.{◌≡◌, ◌+◌, ◌≤◌, length, vec_len, All, vec_capacity, IsNew}
use Rattle.gu_desk.proofs.desk.Desk.new.Given as goal

abbrev pub invariant-loop-seat : goal.invariant-loop-seat
invariant-loop-seat g l = record {
  annals : l.annals ≡ g.E.EntryLedger.opening;
  count : l.count ≡ length g.E.EntryLedger.opening;
  own : (l.own.parts + l._seat ≡ l.seats + 1) × (l.own.amount ≡ 0);
  own_swept : (l.own_swept.parts + l._seat ≡ l.seats + 1) × (l.own_swept.amount ≡ 0);
  places : (vec_len l.places ≡ l._seat) × (l.seats ≤ vec_capacity l.places);
  new : All (IsNew g.E.EntryLedger.opening) l.places.items;
}
