-- What a session does on a frame before a firm is logged on (FIXT 1.1, Logon).
use Rattle.std.specs.Prelude.{ℕ, ◌==◌, List, [], ◌∷◌, Option, None, Some, Result, Ok, find, if◌then◌else◌, false}
use Rattle.gu_terms.specs.declared.firm.FirmId.{FirmId}
use Rattle.gu_msgs.specs.declared.fault.Fault.{Fault}
use Rattle.gu_msgs.specs.declared.inbound.Inbound.{Inbound}
use Rattle.gu_msgs.specs.declared.inbound.Inbound.TheVariants as inbound
use Rattle.gu_msgs.specs.declared.inbound.Logon.{Logon}
use Rattle.gu_msgs.specs.declared.outbound.Body.TheVariants as body
use Rattle.gu_session.specs.FrameRules.{is_sender}
use Rattle.gu_session.specs.Plans.{says}
use Rattle.gu_session.specs.declared.heard.Heading.{Heading}
use Rattle.gu_session.specs.declared.heard.Heard.{Heard}
use Rattle.gu_session.specs.declared.plan.Course.{Course}
use Rattle.gu_session.specs.declared.plan.Course.TheVariants.{Leave, Go}
use Rattle.gu_session.specs.declared.plan.Plan.{Plan}
use Rattle.gu_session.specs.declared.logged_on.LoggedOn.{LoggedOn}

-- the session that a firm begins, with this expected number
abbrev pub begun : FirmId → Logon → ℕ → ℕ → LoggedOn
begun firm m now expected =
    record { firm = firm; heart_bt_int = m.heart_bt_int; expected = expected; heard_at = now; is_tested = false }

-- a Logon is answered with one; if its number is above 1, messages are requested from 1 on, including the Logon's own number
abbrev pub logged_on : FirmId → ℕ → Logon → ℕ → Plan
logged_on firm number m now =
    if number == 1 then says (begun firm m now 2) (body.Logon m.heart_bt_int m.resets_seq_num ∷ [])
    else says (begun firm m now 1) (body.Logon m.heart_bt_int m.resets_seq_num ∷ body.ResendRequest 1 ∷ [])

-- the Logon in a sound message, if it is one
abbrev pub logon_in : Result Inbound Fault → Option Logon
logon_in (Ok (inbound.Logon m)) = Some m
logon_in _ = None

-- the firm that sends a frame to the house, if it is one of these
abbrev pub caller : List FirmId → Heading → Option FirmId
caller firms heading = if heading.is_to_house then find (λ (firm : FirmId). is_sender firm heading.sender) firms else None

-- a frame with a number, from a firm that may log on, with a sound Logon, logs the firm on; anything else ends the session silently
abbrev pub on_logon : ℕ → Option ℕ → Option FirmId → Option Logon → Course
on_logon now (Some number) (Some firm) (Some m) = Go (logged_on firm number m now)
on_logon now _ _ _ = Leave

-- what a session does on a frame before a firm is logged on
abbrev pub logon_course : List FirmId → Heard → ℕ → Course
logon_course firms heard now = on_logon now heard.heading.number (caller firms heard.heading) (logon_in heard.content)
