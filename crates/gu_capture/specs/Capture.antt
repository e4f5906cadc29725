-- Trade capture without a session: the answer to each frame, and the positions at the end.
use Rattle.std.specs.Prelude.{◌≡◌, ℕ, ◌+◌, ◌⊎◌, ◌++◌, false, List, [], ◌∷◌, length, min, nat_lt, None, Some, Option, if◌then◌else◌}
use Rattle.std.specs.Io.KnownBytes.{Consumes, Appends, IsAtEnd}
use Rattle.gu_terms.specs.declared.command.Command.{Command}
use Rattle.gu_terms.specs.declared.command.Command.TheVariants.{OpenDay, ReportSide}
use Rattle.gu_terms.specs.declared.day.Day.{Day}
use Rattle.gu_terms.specs.declared.firm.FirmId.{FirmId}
use Rattle.gu_terms.specs.declared.entry.Entry.TheVariants.{Asked}
use Rattle.gu_terms.specs.declared.reply.Done.TheVariants.{Opened}
use Rattle.gu_terms.specs.declared.reply.Reply.TheVariants.{Accepted}
use Rattle.gu_rules.specs.Answer.{answer}
use Rattle.gu_rules.specs.BookState.{BookState}
use Rattle.gu_fix.specs.Encoding.{message_of}
use Rattle.gu_fix.specs.Fields.{HasFields}
use Rattle.gu_fix.specs.Stream.{AreFrames}
use Rattle.gu_fix.specs.TagValue.{TagValue}
use Rattle.gu_msgs.specs.Answering.{answer_to, rejection_of}
use Rattle.gu_msgs.specs.Asking.{side_of}
use Rattle.gu_msgs.specs.Messages.{Says}
use Rattle.gu_msgs.specs.Midnight.{midnight_of}
use Rattle.gu_msgs.specs.Sender.{IsSentBy}
use Rattle.gu_msgs.specs.Written.{IsWritten}
use Rattle.gu_msgs.specs.declared.inbound.Inbound.TheVariants as inbound
use Rattle.gu_msgs.specs.declared.inbound.TradeCaptureReport.{TradeCaptureReport}
use Rattle.gu_msgs.specs.declared.outbound.Outbound.{Outbound}
use Rattle.gu_msgs.specs.declared.rejection.Rejection.{Rejection}
use Rattle.gu_msgs.specs.declared.rejection.Rejection.TheVariants.{Full}
use Rattle.gu_ref.specs.Tables.{Tables}
use Rattle.gu_capture.specs.PositionText.{positions_text}
use Rattle.gu_engine.specs.Running.{AnswersEach, Engine}
use Rattle.gu_engine.specs.declared.event.Event.{Event}
use Rattle.gu_engine.specs.declared.event.Event.TheVariants as event
use Rattle.gu_streams.specs.Streams.{Streams}
use Rattle.gu_streams.specs.Written.{WrotePart}

-- the state of the engine: its book, the moment at which its messages are sent, and the number of the next message
pub record Capture : Type 0 where
  pub book : BookState
  pub sending_time : ℕ
  pub next : ℕ

-- fields say this report, and this firm sent it
pub record IsReportOf (fields : List TagValue) (firm : FirmId) (report : TradeCaptureReport) : Type 0 where
  pub says : Says fields (inbound.TradeCaptureReport report)
  pub sent : IsSentBy fields firm

-- a frame is this firm's report: it has no malformed field, and its fields say so
pub record Reports (frame : List ℕ) (firm : FirmId) (report : TradeCaptureReport) : Type 0 where
  pub fields : List TagValue
  pub read : HasFields frame fields None
  pub report_of : IsReportOf fields firm report

-- a frame is no firm's report
abbrev pub ReportsNothing : List ℕ → Type 0
ReportsNothing frame = (firm : FirmId) (report : TradeCaptureReport) → ¬ Reports frame firm report

-- the book after a command: with the command and its answer as one more entry, or unchanged if it is full
abbrev pub book_after : BookState → Command → BookState
book_after book command =
    if nat_lt (length book.history) 1000000
    then record { reference = book.reference; history = book.history ++ Asked command (answer book.reference book.history command) ∷ [] }
    else book

-- why a command isn't in the book, if it isn't: by the book's answer, or since the book is full
abbrev pub rejection_in : BookState → Command → Option Rejection
rejection_in book command =
    if nat_lt (length book.history) 1000000
    then rejection_of (answer book.reference book.history command)
    else Some Full

-- the number after a message's: one more, up to the last that a message can have
abbrev pub number_after : ℕ → ℕ
number_after number = min (number + 1) 1000000000

-- the message that answers a firm's report that was taken, or was rejected so
abbrev pub message_to : Capture → FirmId → TradeCaptureReport → Option Rejection → Outbound
message_to capture firm report rejection = record {
  firm = firm;
  msg_seq_num = capture.next;
  sending_time = capture.sending_time;
  orig_sending_time = None;
  body = answer_to report rejection;
}

-- the acknowledgement of a firm's report
abbrev pub acknowledgement : Capture → FirmId → TradeCaptureReport → Outbound
acknowledgement capture firm report = message_to capture firm report (rejection_in capture.book (ReportSide (side_of firm report)))

-- the engine after a command and its acknowledgement
abbrev pub capture_after : Capture → Command → Capture
capture_after capture command = record {
  book = book_after capture.book command;
  sending_time = capture.sending_time;
  next = number_after capture.next;
}

-- a text is that of a message's fields
pub record IsTextOf (message : Outbound) (text : List ℕ) : Type 0 where
  pub fields : List TagValue
  pub written : IsWritten message fields
  pub text_is : text ≡ message_of fields

-- a firm's report is entered, and answered by its acknowledgement
pub record Acknowledges (old : Capture) (frame text : List ℕ) (new : Capture) : Type 0 where
  pub firm : FirmId
  pub report : TradeCaptureReport
  pub reported : Reports frame firm report
  pub answered : IsTextOf (acknowledgement old firm report) text
  pub new_is : new ≡ capture_after old (ReportSide (side_of firm report))

-- anything else by nothing
pub record PassesOver (old : Capture) (frame text : List ℕ) (new : Capture) : Type 0 where
  pub nothing : ReportsNothing frame
  pub text_is : text ≡ []
  pub new_is : new ≡ old

-- the answer to a frame
abbrev pub AnswersFrame : Capture → List ℕ → List ℕ → Capture → Type 0
AnswersFrame old frame text new = Acknowledges old frame text new ⊎ PassesOver old frame text new

-- the answer to an event: a frame is answered; nothing is if the reader has nothing, or a turn is over
abbrev pub AnswersEvent : Capture → Event → List ℕ → Capture → Type 0
AnswersEvent old (event.Frame frame) text new = AnswersFrame old frame text new
AnswersEvent old event.Silence text new = (text ≡ []) × (new ≡ old)
AnswersEvent old event.More text new = ⊥
AnswersEvent old event.Over text new = (text ≡ []) × (new ≡ old)

-- trade capture as an engine: all is done at the moment at which its messages are sent, nothing is ever due beside the answers to
-- frames, and there is always more to be done
abbrev pub capturing : Engine Capture
capturing = record {
  begins = λ old now new. (now ≡ old.sending_time) × (new ≡ old);
  answers = λ now. AnswersEvent;
  stops = λ old new. ⊥;
  is_due = λ capture. false;
  is_done = λ capture. false;
}

-- the engine at its start: the day is open, nothing else was entered, and messages are sent at the day's midnight
abbrev pub capture_at_start : Tables → Day → Capture
capture_at_start reference day = record {
  book = record { reference = reference; history = Asked (OpenDay (record { day = day })) (Accepted Opened) ∷ [] };
  sending_time = midnight_of day;
  next = 1;
}

-- all that the reader had is read, its frames are answered, and the lines of the positions are written after the answers
pub record Captured (reference : Tables) (day : Day) (streams : Streams) : Type 0 where
  pub read : List ℕ
  pub frames : List (List ℕ)
  pub text : List ℕ
  pub last : Capture
  pub consumed : Consumes streams.input_old streams.input_new read
  pub at_end : IsAtEnd streams.input_new
  pub are_frames : AreFrames read frames
  pub answered : AnswersEach AnswersFrame (capture_at_start reference day) frames text last
  pub appended : Appends streams.output_old streams.output_new (text ++ positions_text last.book)

-- the frames of what was read are answered, and exactly these answers were written
pub record CapturedSoFar (reference : Tables) (day : Day) (streams : Streams) : Type 0 where
  pub read : List ℕ
  pub frames : List (List ℕ)
  pub text : List ℕ
  pub last : Capture
  pub consumed : Consumes streams.input_old streams.input_new read
  pub are_frames : AreFrames read frames
  pub answered : AnswersEach AnswersFrame (capture_at_start reference day) frames text last
  pub appended : Appends streams.output_old streams.output_new text

-- the lines of the positions, if these are all the frames of what the reader had, and none of them before its end
abbrev pub MayClose : List (List ℕ) → Option (List ℕ) → List ℕ → List ℕ → Type 0
MayClose others input lines closing = (closing ≡ []) ⊎ ((others ≡ []) × IsAtEnd input × (closing ≡ lines))

-- What was written is a prefix of the answers to the first of the frames of what was read, after which the lines of the
-- positions may come once all that the reader had is answered.
pub record CapturedInPart (reference : Tables) (day : Day) (streams : Streams) : Type 0 where
  pub read : List ℕ
  pub frames : List (List ℕ)
  pub first : List (List ℕ)
  pub others : List (List ℕ)
  pub text : List ℕ
  pub last : Capture
  pub closing : List ℕ
  pub consumed : Consumes streams.input_old streams.input_new read
  pub are_frames : AreFrames read frames
  pub split : frames ≡ first ++ others
  pub answered : AnswersEach AnswersFrame (capture_at_start reference day) first text last
  pub closes : MayClose others streams.input_new (positions_text last.book) closing
  pub wrote : WrotePart (text ++ closing) streams.output_old streams.output_new
