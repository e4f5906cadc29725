-- Frames that ask for nothing, and the ends of a capture.
use Rattle.std.proofs.Common.{◌≡◌, ◌∙◌, ℕ, List, [], ◌++◌, Option, Some, None, true, false, Result, Ok, Err, refl, sym, ap, subst, append-nil, inl, inr, is_some}
use Rattle.std.specs.Prelude.{OnOk, MatchOption}
use Rattle.std.specs.Io.KnownBytes.{Appends}
use Rattle.std.proofs.KnownBytes.{Appends-nil, Appends-trans, Consumes-nil}
use Rattle.gu_terms.specs.declared.command.Command.TheVariants.{ReportSide}
use Rattle.gu_terms.specs.declared.day.Day.{Day}
use Rattle.gu_terms.specs.declared.firm.FirmId.{FirmId}
use Rattle.gu_ref.specs.Tables.{Tables}
use Rattle.gu_fix.specs.Fields.{HasFields}
use Rattle.gu_fix.specs.TagValue.{TagValue}
use Rattle.gu_fix.specs.declared.error.FieldFault.{FieldFault}
use Rattle.gu_fix.proofs.OneReading.{one_reading}
use Rattle.gu_fix.proofs.StreamLaws.{none_at_start}
use Rattle.gu_msgs.specs.Asking.{report_in, side_of}
use Rattle.gu_msgs.specs.Messages.{Says}
use Rattle.gu_msgs.specs.Sender.{IsSentBy}
use Rattle.gu_msgs.specs.declared.inbound.Inbound.{Inbound}
use Rattle.gu_msgs.specs.declared.inbound.Inbound.TheVariants as inbound
use Rattle.gu_msgs.specs.declared.inbound.TradeCaptureReport.{TradeCaptureReport}
use Rattle.gu_msgs.proofs.OneReport.{one_report}
use Rattle.gu_capture.specs.Capture.{Capture, IsReportOf, IsTextOf, Reports, PassesOver, AnswersFrame, Captured, CapturedInPart, CapturedSoFar, acknowledgement, capture_after, capture_at_start}
use Rattle.gu_capture.specs.PositionText.{positions_text}
use Rattle.gu_streams.specs.Streams.{Streams}
use Rattle.gu_streams.specs.Written.{WrotePart}
use Rattle.gu_capture.proofs.Joining.{Answered, AnsweredAll, AnsweredInPart}
use Rattle.gu_streams.proofs.Writing.{wrote_all, wrote_then}

-- a frame with a malformed field asks for nothing
pub passes_faulty : (old : Capture) (frame : List ℕ) (fields : List TagValue) (fault : Option FieldFault) → HasFields frame fields fault → is_some fault ≡ true → PassesOver old frame [] old
passes_faulty old frame fields fault read some = record {
  nothing = λ firm report asks. let same = (one_reading frame fields asks.fields fault None read asks.read).1 in let none = ap is_some same in cc;
  text_is = refl;
  new_is = refl;
}

-- the fields of a report of a frame are those that are read
report_moved : (frame : List ℕ) (fields : List TagValue) (fault : Option FieldFault) (firm : FirmId) (report : TradeCaptureReport) → HasFields frame fields fault → Reports frame firm report → IsReportOf fields firm report
report_moved frame fields fault firm report read asks =
    subst (λ (fs : List TagValue). IsReportOf fs firm report) (sym (one_reading frame fields asks.fields fault None read asks.read).0) asks.report_of

-- and one whose fields say no report
pub passes_unsaid : (old : Capture) (frame : List ℕ) (fields : List TagValue) (fault : Option FieldFault) → HasFields frame fields fault
    → ((report : TradeCaptureReport) → Says fields (inbound.TradeCaptureReport report) → ⊥) → PassesOver old frame [] old
passes_unsaid old frame fields fault read unsaid = record {
  nothing = λ firm report asks. unsaid report (report_moved frame fields fault firm report read asks).says;
  text_is = refl;
  new_is = refl;
}

-- and one that no firm sent
pub passes_unsent : (old : Capture) (frame : List ℕ) (fields : List TagValue) (fault : Option FieldFault) → HasFields frame fields fault
    → ((firm : FirmId) → IsSentBy fields firm → ⊥) → PassesOver old frame [] old
passes_unsent old frame fields fault read unsent = record {
  nothing = λ firm report asks. unsent firm (report_moved frame fields fault firm report read asks).sent;
  text_is = refl;
  new_is = refl;
}

-- a firm's report is answered, if its acknowledgement is appended
pub acknowledged : {E : Type 0} (result : Result (Unit {0}) E) (old new : Capture) (frame : List ℕ) (fields : List TagValue) (fault : Option FieldFault) (firm : FirmId) (report : TradeCaptureReport) (before behind : List ℕ)
    → HasFields frame fields fault → is_some fault ≡ false → Says fields (inbound.TradeCaptureReport report) → IsSentBy fields firm
    → OnOk result ((text : List ℕ) × IsTextOf (acknowledgement old firm report) text × (behind ≡ before ++ text)) → OnOk result (new ≡ capture_after old (ReportSide (side_of firm report)))
    → OnOk result ((text : List ℕ) × (behind ≡ before ++ text) × AnswersFrame old frame text new)
acknowledged (Ok _) old new frame fields None firm report before behind read none says sent text_is new_is = (
  text_is.0,
  text_is.2,
  inl (record {
    firm = firm;
    report = report;
    reported = record { fields = fields; read = read; report_of = record { says = says; sent = sent } };
    answered = text_is.1;
    new_is = new_is;
  }),
)
acknowledged (Ok _) old new frame fields (Some fault) firm report before behind read none says sent text_is new_is = absurd (let e : true ≡ false = none in cc)
acknowledged (Err _) old new frame fields fault firm report before behind read none says sent text_is new_is = text_is

-- fields that are read as another message say no report
pub says_no_report : (fields : List TagValue) (message : Inbound) → Says fields message → report_in message ≡ None → (report : TradeCaptureReport) → Says fields (inbound.TradeCaptureReport report) → ⊥
says_no_report fields message says none report other =
    let same : report_in message ≡ Some report = ap report_in (one_report fields message report says other) in
    let both : None ≡ Some report = sym none ∙ same in
    cc

-- a message that is a report is this one
is_report : (message : Inbound) (report : TradeCaptureReport) → report_in message ≡ Some report → message ≡ inbound.TradeCaptureReport report
is_report inbound.Heartbeat report e = cc
is_report (inbound.TestRequest m) report e = cc
is_report (inbound.ResendRequest m) report e = cc
is_report inbound.Reject report e = cc
is_report (inbound.SequenceReset m) report e = cc
is_report inbound.Logout report e = cc
is_report (inbound.Logon m) report e = cc
is_report (inbound.TradeCaptureReport m) report e = cc
is_report (inbound.AllocationInstruction m) report e = cc
is_report (inbound.AllocationReportAck m) report e = cc
is_report (inbound.RequestForPositions m) report e = cc
is_report (inbound.Unread code) report e = cc

-- if a message is a report, its fields say that report
pub found_report : (fields : List TagValue) (message : Inbound) (found : Option TradeCaptureReport) → Says fields message → found ≡ report_in message
    → MatchOption found ((report : TradeCaptureReport) → Says fields (inbound.TradeCaptureReport report) → ⊥) (λ report. Says fields (inbound.TradeCaptureReport report))
found_report fields message None says is = says_no_report fields message says (sym is)
found_report fields message (Some report) says is = subst (Says fields) (is_report message report (sym is)) says

-- a report that was found is said
pub said : (fields : List TagValue) (found : Option TradeCaptureReport) (report : TradeCaptureReport)
    → MatchOption found ((report : TradeCaptureReport) → Says fields (inbound.TradeCaptureReport report) → ⊥) (λ report. Says fields (inbound.TradeCaptureReport report))
    → found ≡ Some report → Says fields (inbound.TradeCaptureReport report)
said fields found report all is = rw is at all

-- and if none was found, none is
pub unsaid : (fields : List TagValue) (found : Option TradeCaptureReport)
    → MatchOption found ((report : TradeCaptureReport) → Says fields (inbound.TradeCaptureReport report) → ⊥) (λ report. Says fields (inbound.TradeCaptureReport report))
    → found ≡ None → (report : TradeCaptureReport) → Says fields (inbound.TradeCaptureReport report) → ⊥
unsaid fields found all is = rw is at all

module _ (reference : Tables) (day : Day) where
  -- nothing was read or written
  pub nothing_captured : (input output : Option (List ℕ)) (waits : ℕ)
      → CapturedInPart reference day (record { input_old = input; input_new = input; waits_old = waits; waits_new = waits; output_old = output; output_new = output })
  nothing_captured input output waits = record {
    read = [];
    frames = [];
    first = [];
    others = [];
    text = [];
    last = capture_at_start reference day;
    closing = [];
    consumed = Consumes-nil input;
    are_frames = none_at_start;
    split = refl;
    answered = (refl, refl);
    closes = inl refl;
    wrote = wrote_all [] output output (Appends-nil output);
  }

  -- the answers were written in part
  pub captured_in_part : (streams : Streams) → AnsweredInPart (capture_at_start reference day) streams → CapturedInPart reference day streams
  captured_in_part streams part = record {
    read = part.read;
    frames = part.frames;
    first = part.first;
    others = part.others;
    text = part.text;
    last = part.new;
    closing = [];
    consumed = part.consumed;
    are_frames = part.are_frames;
    split = part.split;
    answered = part.answered;
    closes = inl refl;
    wrote = subst (λ (t : List ℕ). WrotePart t streams.output_old streams.output_new) (sym (append-nil part.text)) part.wrote;
  }

  -- all that was read is answered
  pub captured_so_far : (last : Capture) (streams : Streams) → Answered (capture_at_start reference day) last streams → CapturedSoFar reference day streams
  captured_so_far last streams all = record {
    read = all.read;
    frames = all.frames;
    text = all.text;
    last = last;
    consumed = all.consumed;
    are_frames = all.are_frames;
    answered = all.answered;
    appended = all.appended;
  }

  -- the answers were written, and a prefix of the lines
  pub captured_but_lines : (last : Capture) (streams : Streams) (output : Option (List ℕ)) → AnsweredAll (capture_at_start reference day) last streams → WrotePart (positions_text last.book) streams.output_new output
      → CapturedInPart reference day (record streams { output_new = output })
  captured_but_lines last streams output served part = record {
    read = served.all.read;
    frames = served.all.frames;
    first = served.all.frames;
    others = [];
    text = served.all.text;
    last = last;
    closing = positions_text last.book;
    consumed = served.all.consumed;
    are_frames = served.all.are_frames;
    split = sym (append-nil served.all.frames);
    answered = served.all.answered;
    closes = inr (refl, served.at_end, refl);
    wrote = wrote_then served.all.text (positions_text last.book) streams.output_old streams.output_new output served.all.appended part;
  }

  -- and all of them
  pub captured_all : (last : Capture) (streams : Streams) (output : Option (List ℕ)) → AnsweredAll (capture_at_start reference day) last streams → Appends streams.output_new output (positions_text last.book)
      → Captured reference day (record streams { output_new = output })
  captured_all last streams output served sent = record {
    read = served.all.read;
    frames = served.all.frames;
    text = served.all.text;
    last = last;
    consumed = served.all.consumed;
    at_end = served.at_end;
    are_frames = served.all.are_frames;
    answered = served.all.answered;
    appended = Appends-trans streams.output_old streams.output_new output served.all.text (positions_text last.book) served.all.appended sent;
  }
