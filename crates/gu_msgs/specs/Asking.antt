-- Requests in a firm's messages, and what their answers need.
use Rattle.std.specs.Prelude.{ℕ, Option, None, Some}
use Rattle.gu_terms.specs.declared.command.Command.TheVariants as command
use Rattle.gu_terms.specs.declared.command.ReportSide.{ReportSide}
use Rattle.gu_terms.specs.declared.firm.FirmId.{FirmId}
use Rattle.gu_terms.specs.declared.query.Query.TheVariants as query
use Rattle.gu_msgs.specs.declared.alloc_status.AllocStatus.{AllocStatus}
use Rattle.gu_msgs.specs.declared.alloc_status.AllocStatus.TheVariants.{Accepted, Rejected, AllocationPending, Reversed}
use Rattle.gu_msgs.specs.declared.asking.Asking.{Asking}
use Rattle.gu_msgs.specs.declared.asking.Asking.TheVariants as asking
use Rattle.gu_msgs.specs.declared.asking.Question.{Question}
use Rattle.gu_msgs.specs.declared.asking.Question.TheVariants.{Report, GiveUp, Claim, Refusal, Reversal, Positions}
use Rattle.gu_msgs.specs.declared.asking.Request.{Request}
use Rattle.gu_msgs.specs.declared.asking.Request.TheVariants.{Enter, Ask}
use Rattle.gu_msgs.specs.declared.inbound.Inbound.{Inbound}
use Rattle.gu_msgs.specs.declared.inbound.Inbound.TheVariants as inbound
use Rattle.gu_msgs.specs.declared.inbound.TradeCaptureReport.{TradeCaptureReport}

-- the side of a trade in a firm's report
abbrev pub side_of : FirmId → TradeCaptureReport → ReportSide
side_of firm m = record {
  firm = firm;
  id = m.trade_report_id;
  match_id = m.trd_match_id;
  symbol = m.symbol;
  lots = m.last_qty;
  price = m.last_px;
  day = m.trade_date;
  side = m.side;
  account = m.account;
}

-- the report in a message, if it is one
abbrev pub report_in : Inbound → Option TradeCaptureReport
report_in (inbound.TradeCaptureReport m) = Some m
report_in _ = None

-- a carrying firm's response to an offer claims it, refuses it, or reverses today's claim; AllocationPending requests nothing
abbrev pub asked_on : ℕ → AllocStatus → Option Asking
asked_on offer Accepted = Some (asking.Claim offer)
asked_on offer (Rejected why) = Some (asking.Refusal offer why)
asked_on offer AllocationPending = None
asked_on offer Reversed = Some (asking.Reversal offer)

-- a firm's request: reports, give-ups and responses to offers are to be entered, and positions are to be reported
abbrev pub request_of : FirmId → Asking → Request
request_of firm (asking.Report m) = Enter (command.ReportSide (side_of firm m))
request_of firm (asking.GiveUp m) = Enter (command.GiveUp (record { firm = firm; id = m.alloc_id; report = m.exec_id; lines = m.lines }))
request_of firm (asking.Claim offer) = Enter (command.Claim (record { firm = firm; offer = offer }))
request_of firm (asking.Refusal offer why) = Enter (command.Refuse (record { firm = firm; offer = offer; why = why }))
request_of firm (asking.Reversal offer) = Enter (command.Reverse (record { firm = firm; offer = offer }))
request_of firm (asking.Positions m) = Ask (query.Positions firm m.account)

-- what the answer needs from the message: its ids, the offer, or the question for positions
abbrev pub question_of : Asking → Question
question_of (asking.Report m) = Report m.trade_report_id m.trd_match_id
question_of (asking.GiveUp m) = GiveUp m.alloc_id
question_of (asking.Claim offer) = Claim offer
question_of (asking.Refusal offer why) = Refusal offer
question_of (asking.Reversal offer) = Reversal offer
question_of (asking.Positions m) = Positions m
