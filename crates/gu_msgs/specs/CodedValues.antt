-- Values that messages write as numbers or as words of the house.
use Rattle.std.specs.Prelude.{ℕ, List, codes}
use Rattle.gu_terms.specs.declared.notice.OfferEvent.{OfferEvent}
use Rattle.gu_terms.specs.declared.notice.OfferEvent.TheVariants as event
use Rattle.gu_terms.specs.declared.side.Side.{Side}
use Rattle.gu_terms.specs.declared.side.Side.TheVariants.{Buy, Sell}
use Rattle.gu_msgs.specs.declared.coded_values.AllocReportType.{AllocReportType}
use Rattle.gu_msgs.specs.declared.coded_values.AllocReportType.TheVariants.{RequestToIntermediary, Accept, Reject}
use Rattle.gu_msgs.specs.declared.coded_values.BusinessRejectReason.{BusinessRejectReason}
use Rattle.gu_msgs.specs.declared.coded_values.BusinessRejectReason.TheVariants.{Other, UnsupportedMessageType}
use Rattle.gu_msgs.specs.declared.coded_values.LogoutReason.{LogoutReason}
use Rattle.gu_msgs.specs.declared.coded_values.LogoutReason.TheVariants.{BadSeqNum, SeqTooLow, CompId, LoggedOn, Silent, Closing}
use Rattle.gu_msgs.specs.declared.coded_values.PosReqResult.{PosReqResult}
use Rattle.gu_msgs.specs.declared.coded_values.PosReqResult.TheVariants.{ValidRequest, NoPositionsFound, NotAuthorized}

-- the reason that a session ends, in the text of a Logout (Text, tag 58)
abbrev pub logout_text : LogoutReason → List ℕ
logout_text BadSeqNum = codes "BadSeqNum"
logout_text SeqTooLow = codes "SeqTooLow"
logout_text CompId = codes "CompId"
logout_text LoggedOn = codes "LoggedOn"
logout_text Silent = codes "Silent"
logout_text Closing = codes "Closing"

-- BusinessRejectReason, tag 380
abbrev pub business_number : BusinessRejectReason → ℕ
business_number (Other offer rejection) = 0
business_number (UnsupportedMessageType code) = 3

-- AllocReportType, tag 794
abbrev pub report_type_number : AllocReportType → ℕ
report_type_number RequestToIntermediary = 8
report_type_number Accept = 9
report_type_number Reject = 10

-- the purpose of a report of an event of an offer; lots moved back have the same as lots claimed
abbrev pub report_type_of : OfferEvent → AllocReportType
report_type_of event.Offered = RequestToIntermediary
report_type_of event.Claimed = Accept
report_type_of (event.Refused reject) = Reject
report_type_of event.Reversed = Accept

-- PosReqResult, tag 728
abbrev pub request_result : PosReqResult → ℕ
request_result (ValidRequest count) = 0
request_result NoPositionsFound = 2
request_result NotAuthorized = 3

-- PosReqStatus, tag 729: answered or refused
abbrev pub request_status : PosReqResult → ℕ
request_status (ValidRequest count) = 0
request_status NoPositionsFound = 0
request_status NotAuthorized = 2

-- TotalNumPosReports, tag 727: the number of reports that follow
abbrev pub reports_count : PosReqResult → ℕ
reports_count (ValidRequest count) = count
reports_count NoPositionsFound = 0
reports_count NotAuthorized = 0

-- the letter of a side, which follows the number of an entry
abbrev pub side_letter : Side → ℕ
side_letter Buy = 66
side_letter Sell = 83
