-- Machinery: preparation of a plan, which allocates everything. No other crate names this file.
use Rattle.std.specs.Prelude.{◌≡◌, ◌+◌, ◌≤◌, ℕ, List, [], ◌++◌, length, None, Some, is_some, if◌then◌else◌}
use Rattle.circular_buffer.specs.Buffer.{buffer}
use Rattle.gu_msgs.specs.declared.outbound.Outbound.{Outbound}
use Rattle.gu_session.specs.Sending.{numbered, repeats_of}
use Rattle.gu_session.specs.Sound.{IsSound}
use Rattle.gu_session.specs.States.{SessionState}
use Rattle.gu_session.specs.declared.plan.Plan.{Plan}
use Rattle.gu_session.specs.declared.ready.Ready.{Ready}
use Rattle.gu_session.specs.declared.state.State.{State}

-- a session's state, as stored
abbrev pub seen : State → SessionState
seen s = record {
  firms = s.firms.items;
  at = s.at;
  next = s.next;
  sent_at = s.sent_at;
  kept = s.kept.items;
  waiting = s.waiting.items;
  is_closed = s.is_closed;
}

-- the stored state is sound
abbrev pub IsSoundState : State → Type 0
IsSoundState s = IsSound s.at s.next s.kept

-- all messages that a prepared plan sends, given the number of the first new one
abbrev pub sent_with : Plan → Ready → ℕ → ℕ → List Outbound
sent_with plan ready first now = ready.again.items ++ numbered plan.after.firm now first plan.messages

-- a plan is prepared: the messages to send again are there, numbers suffice, and there is room for the messages to keep
pub record IsReady (s : SessionState) (now : ℕ) (plan : Plan) (ready : Ready) : Type 0 where
  pub again : ready.again.items ≡ repeats_of s now plan
  pub most : s.next + length plan.messages ≤ 1000000001
  pub room : ready.room ≡ (if is_some s.at then None else Some (buffer [] 4096))
