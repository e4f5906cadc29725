-- Messages sent again when a firm requests them (FIXT 1.1, Message Recovery).
use Rattle.std.specs.Prelude.{ℕ, ◌+◌, ◌==◌, ◌&&◌, nat_le, nat_lt, min, List, [], ◌∷◌, ◌++◌, filter, Some, if◌then◌else◌}
use Rattle.gu_terms.specs.declared.firm.FirmId.{FirmId}
use Rattle.gu_msgs.specs.declared.inbound.ResendRequest.{ResendRequest}
use Rattle.gu_msgs.specs.declared.outbound.Body.TheVariants as body
use Rattle.gu_msgs.specs.declared.outbound.Outbound.{Outbound}
use Rattle.gu_session.specs.declared.sent_ring.Sent.{Sent}

-- a kept message sent again: with its number, its body and the time when it was first sent
abbrev pub again : FirmId → ℕ → Sent → Outbound
again firm now sent = record {
  firm = firm;
  msg_seq_num = sent.number;
  sending_time = now;
  orig_sending_time = Some sent.time;
  body = body.Application sent.message;
}

-- a gap fill for all numbers from one up to another
abbrev pub gap_fill : FirmId → ℕ → ℕ → ℕ → Outbound
gap_fill firm now from to = record {
  firm = firm;
  msg_seq_num = from;
  sending_time = now;
  orig_sending_time = Some now;
  body = body.SequenceReset to;
}

-- one gap fill for a run of numbers, and none if the run is empty
abbrev pub gap : FirmId → ℕ → ℕ → ℕ → List Outbound
gap firm now from to = if nat_lt from to then gap_fill firm now from to ∷ [] else []

-- each message sent again, with a gap fill for each run of numbers before, between and after them
abbrev pub with_gaps : FirmId → ℕ → ℕ → ℕ → List Sent → List Outbound
with_gaps firm now from to [] = gap firm now from to
with_gaps firm now from to (sent ∷ later) =
    gap firm now from sent.number ++ again firm now sent ∷ with_gaps firm now (sent.number + 1) to later

-- the number after the last requested one; 0, or a number not yet sent, means the last that was sent
abbrev pub behind_last : ℕ → ℕ → ℕ
behind_last next last = if last == 0 then next else min (last + 1) next

-- the messages with numbers from one up to, but not including, another
abbrev pub sent_within : ℕ → ℕ → List Sent → List Sent
sent_within from to kept = filter (λ (sent : Sent). nat_le from sent.number && nat_lt sent.number to) kept

-- the messages sent again for a request, given the messages kept and the next number to send
abbrev pub resent : FirmId → List Sent → ℕ → ℕ → ResendRequest → List Outbound
resent firm kept next now request =
    let to = behind_last next request.end_seq_no in
    with_gaps firm now request.begin_seq_no to (sent_within request.begin_seq_no to kept)
