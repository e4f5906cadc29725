-- Written messages can be encoded.
use Rattle.gu_msgs.proofs.Words.{◌≡◌, ℕ, ◌*◌, ◌≤◌, ◌==◌, ◌&&◌, Bool, true, false, cond, List, [], ◌∷◌, ◌++◌, length, nat_le, Option, None, Some, refl, ◌∙◌, subst, arith, list_any, list_all, and_parts, leb-true, le-ltb, not-true, length-append, list_all-append, TagValue, tag_value, field_text, fields_text, message_of, fault_of, is_body_tag, begins_with_type, is_empty, has_soh, ALLOC_ID, REF_MSG_TYPE, REF_SEQ_NUM, REF_TAG_ID, SESSION_REJECT_REASON, TRADE_REPORT_ID, TRD_MATCH_ID}
use Rattle.std.specs.Fmt.{decimal}
use Rattle.std.proofs.lemmas.Fmt.{length-decimal-le}
use Rattle.gu_fix.specs.WholeMessage.{soh}
use Rattle.gu_fix.proofs.WholeLemmas.{length-spelling}
use Rattle.gu_msgs.specs.Encodable.{ArePlain, is_plain}
use Rattle.gu_msgs.specs.Written.{IsWritten, MarksResend, body_fields, header_fields}
use Rattle.gu_msgs.specs.WrittenBodies.{give_up_status, number_field, optional_field, reason_fields, report_status}
use Rattle.gu_msgs.specs.declared.coded_values.BusinessRejectReason.{BusinessRejectReason}
use Rattle.gu_msgs.specs.declared.coded_values.BusinessRejectReason.TheVariants.{Other, UnsupportedMessageType}
use Rattle.gu_msgs.specs.declared.outbound.Application.TheVariants as application
use Rattle.gu_msgs.specs.declared.outbound.Body.{Body}
use Rattle.gu_msgs.specs.declared.outbound.Body.TheVariants as body
use Rattle.gu_msgs.specs.declared.outbound.Outbound.{Outbound}
use Rattle.gu_msgs.specs.declared.rejection.Rejection.{Rejection}

-- ---- tags

-- each field has a tag allowed in a body
abbrev HaveTags : List TagValue → Type 0
HaveTags fields = list_all (λ f. is_body_tag f.tag) fields ≡ true

-- and there are at most twenty of them
abbrev is_laid_out : List TagValue → Bool
is_laid_out fields = list_all (λ f. is_body_tag f.tag) fields && nat_le (length fields) 20

reject_laid_out : (b : Bool) (number tag reason : ℕ) (code : Option (List ℕ))
    → is_laid_out (number_field REF_SEQ_NUM number ∷ (cond b [] (number_field REF_TAG_ID tag ∷ []) ++ optional_field REF_MSG_TYPE code ++ number_field SESSION_REJECT_REASON reason ∷ [])) ≡ true
reject_laid_out true number tag reason None = refl
reject_laid_out true number tag reason (Some text) = refl
reject_laid_out false number tag reason None = refl
reject_laid_out false number tag reason (Some text) = refl

reason_laid_out : (number : ℕ) (r : BusinessRejectReason) → is_laid_out (number_field REF_SEQ_NUM number ∷ reason_fields r) ≡ true
reason_laid_out number (Other offer rejection) = refl
reason_laid_out number (UnsupportedMessageType code) = refl

report_laid_out : (id match_id : List ℕ) (rejection : Option Rejection) → is_laid_out (tag_value TRADE_REPORT_ID id ∷ tag_value TRD_MATCH_ID match_id ∷ report_status rejection) ≡ true
report_laid_out id match_id None = refl
report_laid_out id match_id (Some rejection) = refl

give_up_laid_out : (id : List ℕ) (rejection : Option Rejection) → is_laid_out (tag_value ALLOC_ID id ∷ give_up_status rejection) ≡ true
give_up_laid_out id None = refl
give_up_laid_out id (Some rejection) = refl

-- the body of a message has such tags
body_laid_out : (b : Body) → is_laid_out (body_fields b) ≡ true
body_laid_out (body.Logon interval true) = refl
body_laid_out (body.Logon interval false) = refl
body_laid_out (body.Heartbeat None) = refl
body_laid_out (body.Heartbeat (Some id)) = refl
body_laid_out body.TestRequest = refl
body_laid_out (body.ResendRequest from) = refl
body_laid_out (body.Reject m) = reject_laid_out (m.ref_tag_id == 0) m.ref_seq_num m.ref_tag_id _ m.ref_msg_type
body_laid_out (body.SequenceReset to) = refl
body_laid_out (body.Logout None) = refl
body_laid_out (body.Logout (Some reason)) = refl
body_laid_out (body.Application (application.BusinessMessageReject m)) = reason_laid_out m.ref_seq_num m.reason
body_laid_out (body.Application (application.TradeCaptureReportAck m)) = report_laid_out m.trade_report_id m.trd_match_id m.rejection
body_laid_out (body.Application (application.AllocationInstructionAck m)) = give_up_laid_out m.alloc_id m.rejection
body_laid_out (body.Application (application.TradeCaptureReport m)) = refl
body_laid_out (body.Application (application.AllocationReport m)) = refl
body_laid_out (body.Application (application.RequestForPositionsAck m)) = refl
body_laid_out (body.Application (application.PositionReport m)) = refl

-- so have the marks of a resend
marks_laid_out : (first : Option ℕ) (marks : List TagValue) → MarksResend first marks → HaveTags marks × (length marks ≤ 2)
marks_laid_out None marks is = rw is (refl, omega arith)
marks_laid_out (Some moment) marks (text, writes, is) = rw is (refl, omega arith)

-- ---- lengths

-- a tag has at most nine digits
small_tag : (tag : ℕ) → is_body_tag tag ≡ true → tag ≤ 999999999
small_tag tag is = leb-true tag 999999999 (and_parts _ _ is).1

-- a value that can be encoded isn't empty, has no SOH, and is short
plain_parts : (value : List ℕ) → is_plain value ≡ true → (is_empty value ≡ false) × (has_soh value ≡ false) × (length value ≤ 1024)
plain_parts value is =
    let parts = and_parts _ _ is in
    let bytes = and_parts _ _ parts.0 in
    (not-true (is_empty value) bytes.0, not-true (has_soh value) bytes.1, leb-true (length value) 1024 parts.1)

-- the text of such fields is at most this long
length-fields_text : (fs : List TagValue) → HaveTags fs → ArePlain fs → length (fields_text fs) ≤ 1035 * length fs
length-fields_text [] tags plain = omega arith
length-fields_text (f ∷ fs) tags plain =
    let tag = and_parts _ _ tags in
    let value = and_parts _ _ plain in
    let small = small_tag f.tag tag.0 in
    let short = plain_parts f.value value.0 in
    omega (
      arith,
      length-fields_text fs tag.1 value.1,
      short.2,
      length-decimal-le 9 f.tag (omega arith) (omega (arith, small)) (omega (arith, small)),
      length-append (field_text f) (fields_text fs),
      length-append (decimal f.tag ++ 61 ∷ f.value) (soh ∷ []),
      length-append (decimal f.tag) (61 ∷ f.value),
    )

-- their message isn't too long
length-message_of : (fs : List TagValue) → HaveTags fs → ArePlain fs → length fs ≤ 27 → length (message_of fs) ≤ 65536
length-message_of fs tags plain few =
    let body = length (fields_text fs) in
    let bound = length-fields_text fs tags plain in
    omega (arith, bound, length-spelling (decimal body) (fields_text fs), length-decimal-le 7 body (omega arith) (omega (arith, bound)) (omega (arith, bound)))

none_empty : (fs : List TagValue) → ArePlain fs → list_any (λ f. is_empty f.value) fs ≡ false
none_empty [] plain = refl
none_empty (f ∷ fs) plain =
    let value = and_parts _ _ plain in
    rw ((plain_parts f.value value.0).0, none_empty fs value.1) refl

none_with_soh : (fs : List TagValue) → ArePlain fs → list_any (λ f. has_soh f.value) fs ≡ false
none_with_soh [] plain = refl
none_with_soh (f ∷ fs) plain =
    let value = and_parts _ _ plain in
    rw ((plain_parts f.value value.0).1, none_with_soh fs value.1) refl

-- ---- no fault

-- at most twenty-seven such fields, the first of which is MsgType, have no fault
no_fault : (fs : List TagValue) → begins_with_type fs ≡ true → HaveTags fs → ArePlain fs → length fs ≤ 27 → fault_of fs ≡ None
unfolding fault_of
no_fault fs begins tags plain few =
    let fits = le-ltb 65536 (length (message_of fs)) (length-message_of fs tags plain few) in
    rw (begins, tags, none_empty fs plain, none_with_soh fs plain, fits) refl

-- both lists have such tags
tags-append : (xs ys : List TagValue) → HaveTags xs → HaveTags ys → HaveTags (xs ++ ys)
tags-append xs ys p q = list_all-append (λ f. is_body_tag f.tag) xs ys ∙ rw (p, q) refl

-- the fields of a message have no fault, if each value can be encoded
pub encodable : (m : Outbound) (fields : List TagValue) → IsWritten m fields → ArePlain fields → fault_of fields ≡ None
encodable m fields is plain =
    let header = header_fields m is.time in
    let said = body_fields m.body in
    let marks = marks_laid_out m.orig_sending_time is.marks is.marks_resend in
    let laid = and_parts _ _ (body_laid_out m.body) in
    let tags = tags-append (header ++ is.marks) said (tags-append header is.marks refl marks.0) laid.0 in
    let few : length (header ++ is.marks ++ said) ≤ 27 = omega (
      arith,
      length-append (header ++ is.marks) said,
      length-append header is.marks,
      marks.1,
      leb-true (length said) 20 laid.1,
    ) in
    rw is.parts (no_fault (header ++ is.marks ++ said) refl tags (subst ArePlain is.parts plain) few)
