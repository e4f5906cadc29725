use Rattle.gu_notices.proofs.Words.{◌+◌, ◌-◌, ◌<◌, ◌≤◌, drop, length, take, told_from, register_in, told_at_places}
use Rattle.gu_notices.proofs.NoticeLemmas.{IsToldSoFar}
use Rattle.gu_notices.proofs.mailbox.Mailbox.tell_entries.Lts.Given as given

pub record invariant-loop-place (l : given.Live-loop-place) : Type 0 where
  pub start : l.span.start ≤ l.place
  pub told : IsToldSoFar l.fn.self l.self (told_from (register_in l.register) (l.span.start + 1) (take (l.place - l.span.start) (drop l.span.start l.log.history.now)))
  pub before : l.span.start < l.place → length (told_at_places (register_in l.register) l.log.history.now l.fn.self.firm l.span.start (l.place - 1)) ≤ l.span.most
