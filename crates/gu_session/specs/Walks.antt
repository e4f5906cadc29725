-- Machinery: messages sent again and new ones, one by one. No other crate names this file.
use Rattle.std.specs.Prelude.{ℕ, ◌+◌, ◌&&◌, nat_le, nat_lt, List, [], ◌∷◌, ◌++◌, None, if◌then◌else◌}
use Rattle.gu_terms.specs.declared.firm.FirmId.{FirmId}
use Rattle.gu_msgs.specs.declared.outbound.Body.{Body}
use Rattle.gu_msgs.specs.declared.outbound.Outbound.{Outbound}
use Rattle.gu_session.specs.Resending.{again, gap}
use Rattle.gu_session.specs.declared.sent_ring.Sent.{Sent}

-- what a kept message adds, if everything before number `at` was sent: itself, after a gap fill for the run before it, if it is requested
abbrev pub asked_now : FirmId → ℕ → ℕ → ℕ → ℕ → Sent → List Outbound
asked_now firm now from to at sent =
    if nat_le from sent.number && nat_lt sent.number to then gap firm now at sent.number ++ again firm now sent ∷ [] else []

-- the next number after it
abbrev pub at_after : ℕ → ℕ → ℕ → Sent → ℕ
at_after from to at sent = if nat_le from sent.number && nat_lt sent.number to then sent.number + 1 else at

-- a message sent for the first time
abbrev pub new_message : FirmId → ℕ → ℕ → Body → Outbound
new_message firm now number body =
    record { firm = firm; msg_seq_num = number; sending_time = now; orig_sending_time = None; body = body }
