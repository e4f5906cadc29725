use Rattle.gu_engine.proofs.Words.{◌≡◌, ◌++◌, ℕ, List, SendsNotice, AnswersEach}
use Rattle.gu_engine.proofs.connection.Connection.send_all.Given as goal

-- the notices so far are sent
abbrev pub invariant-loop-notice : goal.invariant-loop-notice
invariant-loop-notice g l = record {
  text : List ℕ;
  collected : l.output.items ≡ l.initial.output.items ++ text;
  answered : AnswersEach (SendsNotice l.now) l.initial.self l.yielded text l.self;
  next : l.self.next ≡ l.initial.self.next;
  behind : l.self.is_behind ≡ l.initial.self.is_behind;
  whole : l.fn.notices.items ≡ l.yielded ++ l.notice-iterator.rest.items;
}
