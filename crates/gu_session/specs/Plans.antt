-- What a step does, before numbers are assigned.
use Rattle.std.specs.Prelude.{true, false, ℕ, List, [], Option, None, Some}
use Rattle.gu_msgs.specs.declared.asking.Asking.{Asking}
use Rattle.gu_msgs.specs.declared.inbound.ResendRequest.{ResendRequest}
use Rattle.gu_msgs.specs.declared.outbound.Body.{Body}
use Rattle.gu_session.specs.declared.plan.Plan.{Plan}
use Rattle.gu_session.specs.declared.logged_on.LoggedOn.{LoggedOn}

-- nothing is sent
abbrev pub quiet : LoggedOn → Plan
quiet at = record { after = at; again = None; messages = []; handed = None; answered = None; ends = false }

-- new messages are sent
abbrev pub says : LoggedOn → List Body → Plan
says at messages = record { after = at; again = None; messages = messages; handed = None; answered = None; ends = false }

-- new messages are sent, and the session ends
abbrev pub leaves : LoggedOn → List Body → Plan
leaves at messages = record { after = at; again = None; messages = messages; handed = None; answered = None; ends = true }

-- requested messages are sent again, then new ones
abbrev pub repeats : LoggedOn → Option ResendRequest → List Body → Plan
repeats at again messages = record { after = at; again = again; messages = messages; handed = None; answered = None; ends = false }

-- the request in the message with this number is handed out
abbrev pub hands : LoggedOn → ℕ → Asking → Plan
hands at number asking = record {
  after = at;
  again = None;
  messages = [];
  handed = Some (record { firm = at.firm; reference = number; asking = asking });
  answered = None;
  ends = false;
}

-- the messages that answer a question are sent
abbrev pub answers : LoggedOn → ℕ → List Body → Plan
answers at reference messages = record { after = at; again = None; messages = messages; handed = None; answered = Some reference; ends = false }
