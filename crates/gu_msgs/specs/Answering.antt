-- The house's answers to a firm's messages, and the messages that it sends unsolicited.
use Rattle.std.specs.Prelude.{ℕ, ◌+◌, Bool, true, false, List, [], ◌∷◌, length, Option, None, Some}
use Rattle.gu_terms.specs.declared.day.Day.{Day}
use Rattle.gu_terms.specs.declared.notice.Notice.{Notice}
use Rattle.gu_terms.specs.declared.notice.Notice.TheVariants.{Matched, Offer}
use Rattle.gu_terms.specs.declared.notice.OfferNotice.{OfferNotice}
use Rattle.gu_terms.specs.declared.query.PositionRow.{PositionRow}
use Rattle.gu_terms.specs.declared.query.PositionRows.{PositionRows}
use Rattle.gu_terms.specs.declared.reply.Done.{Done}
use Rattle.gu_terms.specs.declared.reply.Done.TheVariants.{Reported, Offered, Claimed, Refused, Reversed}
use Rattle.gu_terms.specs.declared.reply.Reply.{Reply}
use Rattle.gu_terms.specs.declared.reply.Reply.TheVariants.{Accepted, Denied}
use Rattle.gu_terms.specs.declared.report.Report.{Report}
use Rattle.gu_msgs.specs.declared.asking.Question.{Question}
use Rattle.gu_msgs.specs.declared.asking.Question.TheVariants as question
use Rattle.gu_msgs.specs.declared.coded_values.BusinessRejectReason.TheVariants.{Other}
use Rattle.gu_msgs.specs.declared.coded_values.PosReqResult.{PosReqResult}
use Rattle.gu_msgs.specs.declared.coded_values.PosReqResult.TheVariants.{ValidRequest, NoPositionsFound, NotAuthorized}
use Rattle.gu_msgs.specs.declared.inbound.RequestForPositions.{RequestForPositions}
use Rattle.gu_msgs.specs.declared.inbound.TradeCaptureReport.{TradeCaptureReport}
use Rattle.gu_msgs.specs.declared.outbound.Application.TheVariants as application
use Rattle.gu_msgs.specs.declared.outbound.Body.{Body}
use Rattle.gu_msgs.specs.declared.outbound.Body.TheVariants as body
use Rattle.gu_msgs.specs.declared.rejection.Rejection.{Rejection}
use Rattle.gu_msgs.specs.declared.rejection.Rejection.TheVariants as rejection

-- the reason that a command is refused, given the reply to it; none if it is accepted
abbrev pub rejection_of : Reply → Option Rejection
rejection_of (Accepted done) = None
rejection_of (Denied refusal) = Some (rejection.Refused refusal)

-- ---- commands

-- the acknowledgement of a report with these ids, which was accepted, or was rejected for this reason
abbrev pub report_ack : List ℕ → List ℕ → Option Rejection → Body
report_ack id match_id rejection =
    body.Application (application.TradeCaptureReportAck (record { trade_report_id = id; trd_match_id = match_id; rejection = rejection }))

-- the acknowledgement of a report
abbrev pub answer_to : TradeCaptureReport → Option Rejection → Body
answer_to report rejection = report_ack report.trade_report_id report.trd_match_id rejection

-- the acknowledgement of a give-up with this id
abbrev pub give_up_ack : List ℕ → Option Rejection → Body
give_up_ack id rejection = body.Application (application.AllocationInstructionAck (record { alloc_id = id; rejection = rejection }))

-- a carrying firm's response in the message with this number is answered only if it was rejected; otherwise its notice is the answer
abbrev pub offer_answer : ℕ → ℕ → Option Rejection → Option Body
offer_answer offer number None = None
offer_answer offer number (Some rejection) =
    Some (body.Application (application.BusinessMessageReject (record { ref_seq_num = number; reason = Other offer rejection })))

-- the answer to the message with this number, whose command was accepted, or was rejected for this reason; a question for positions has no
-- command
abbrev pub command_answer : Question → ℕ → Option Rejection → Option Body
command_answer (question.Report id match_id) number rejection = Some (report_ack id match_id rejection)
command_answer (question.GiveUp id) number rejection = Some (give_up_ack id rejection)
command_answer (question.Claim offer) number rejection = offer_answer offer number rejection
command_answer (question.Refusal offer) number rejection = offer_answer offer number rejection
command_answer (question.Reversal offer) number rejection = offer_answer offer number rejection
command_answer (question.Positions m) number rejection = None

-- an accepted command had the effect asked for
abbrev pub is_done : Question → Done → Bool
is_done (question.Report id match_id) (Reported matched) = true
is_done (question.GiveUp id) (Offered group first count) = true
is_done (question.Claim offer) (Claimed lots) = true
is_done (question.Refusal offer) (Refused lots) = true
is_done (question.Reversal offer) (Reversed lots) = true
is_done _ _ = false

-- ---- positions

-- the acknowledgement of a question for positions
abbrev pub positions_ack : RequestForPositions → PosReqResult → Body
positions_ack m outcome =
    body.Application (application.RequestForPositionsAck (record { pos_req_id = m.pos_req_id; outcome = outcome; account = m.account }))

-- the report of a position, at its place among those for the question
abbrev pub position_report : RequestForPositions → Day → ℕ → PositionRow → Body
position_report m day place row = body.Application (application.PositionReport (record {
  pos_req_id = m.pos_req_id;
  place = place;
  clearing_business_date = day;
  account = m.account;
  symbol = row.symbol;
  long_qty = row.long;
  short_qty = row.short;
}))

-- a report for each row, with places starting at this one
abbrev pub reports_from : RequestForPositions → Day → ℕ → List PositionRow → List Body
reports_from m day place [] = []
reports_from m day place (row ∷ rows) = position_report m day place row ∷ reports_from m day (place + 1) rows

-- the number of reports, followed by the reports, with places starting at 1
abbrev pub reports_on : RequestForPositions → Day → List PositionRow → List Body
reports_on m day rows = positions_ack m (ValidRequest (length rows)) ∷ reports_from m day 1 rows

-- rows are reported if a day is open and there are any
abbrev pub told_on : RequestForPositions → Option Day → List PositionRow → List Body
told_on m (Some day) (row ∷ rows) = reports_on m day (row ∷ rows)
told_on m _ _ = positions_ack m NoPositionsFound ∷ []

-- the answer to a question for positions; without rows, the account isn't the firm's
abbrev pub positions_answer : RequestForPositions → Option PositionRows → List Body
positions_answer m None = positions_ack m NotAuthorized ∷ []
positions_answer m (Some told) = told_on m told.day told.rows.items

-- ---- notices

-- a report became a side of a trade with this entry
abbrev pub matched_body : ℕ → Report → Body
matched_body entry report = body.Application (application.TradeCaptureReport (record {
  entry = entry;
  trade_report_ref_id = report.id;
  trd_match_id = report.match_id;
  symbol = report.symbol;
  last_qty = report.lots;
  last_px = report.price;
  trade_date = report.day;
  side = report.side;
  account = report.account;
}))

-- an event of an offer
abbrev pub offer_body : OfferNotice → Body
offer_body notice = body.Application (application.AllocationReport (record {
  alloc_report_id = notice.offer;
  event = notice.event;
  symbol = notice.symbol;
  side = notice.side;
  quantity = notice.lots;
  avg_px = notice.price;
  trade_date = notice.day;
  account = notice.account;
}))

-- the message for a notice
abbrev pub notice_body : Notice → Body
notice_body (Matched entry report) = matched_body entry report
notice_body (Offer notice) = offer_body notice
