-- The state of a session between its inputs.
use Rattle.std.specs.Prelude.{ℕ, Bool, false, List, [], Option, None}
use Rattle.gu_terms.specs.declared.firm.FirmId.{FirmId}
use Rattle.gu_session.specs.declared.sent_ring.Sent.{Sent}
use Rattle.gu_session.specs.declared.logged_on.LoggedOn.{LoggedOn}
use Rattle.gu_session.specs.declared.logged_on.Waiting.{Waiting}

-- a session: the firms that may log on, its state after one has, and what sending, handing out and closing change: the next number to send,
-- the time of the last sending, the last application messages sent, the unanswered requests, and whether it is closed
pub record SessionState : Type 0 where
  pub firms : List FirmId
  pub at : Option LoggedOn
  pub next : ℕ
  pub sent_at : ℕ
  pub kept : List Sent
  pub waiting : List Waiting
  pub is_closed : Bool

-- a session before its first input
abbrev pub new_session : List FirmId → SessionState
new_session firms = record { firms = firms; at = None; next = 1; sent_at = 0; kept = []; waiting = []; is_closed = false }
