-- Fields are at most one message.
use Rattle.gu_msgs.proofs.Words.{◌≡◌, ℕ, ◌==◌, Bool, true, false, List, [], ◌∷◌, Option, None, Some, MatchOption, refl, sym, ap, ◌∙◌, subst, if◌then◌else◌, Line, TagValue, MSG_TYPE, entries_of, AreAllocs, IsAlloc, IsFlag, IsInstruction, IsLogon, IsReportAck, IsRequest, IsResendRequest, IsSequenceReset, IsUnread, Says, code_of, first_value, Inbound, MsgType, ALLOC_QTY, GAP_FILL_FLAG, NO_ALLOCS, RESET_SEQ_NUM_FLAG}
use Rattle.gu_terms.specs.declared.alloc_reject.AllocReject.TheVariants.{BlockLevel, AccountLevel, Intermediary}
use Rattle.gu_msgs.specs.AllocStatuses.{status_number}
use Rattle.gu_msgs.specs.declared.alloc_status.AllocStatus.{AllocStatus}
use Rattle.gu_msgs.specs.declared.alloc_status.AllocStatus.TheVariants.{Accepted, Rejected, AllocationPending, Reversed}
use Rattle.gu_msgs.specs.declared.inbound.AllocationInstruction.{AllocationInstruction}
use Rattle.gu_msgs.specs.declared.inbound.AllocationReportAck.{AllocationReportAck}
use Rattle.gu_msgs.specs.declared.inbound.Inbound.TheVariants as inbound
use Rattle.gu_msgs.specs.declared.inbound.Logon.{Logon}
use Rattle.gu_msgs.specs.declared.inbound.RequestForPositions.{RequestForPositions}
use Rattle.gu_msgs.specs.declared.inbound.ResendRequest.{ResendRequest}
use Rattle.gu_msgs.specs.declared.inbound.SequenceReset.{SequenceReset}
use Rattle.gu_msgs.specs.declared.inbound.TestRequest.{TestRequest}
use Rattle.gu_msgs.specs.declared.inbound.TradeCaptureReport.{TradeCaptureReport}
use Rattle.gu_msgs.specs.declared.msg_type.MsgType.TheVariants as kind
use Rattle.gu_msgs.specs.declared.type_code.TypeCode.{TypeCode}
use Rattle.gu_msgs.proofs.NoFault.{one_type}
use Rattle.gu_msgs.proofs.SaidOnce.{lots_once, one_entry, one_text, same_report}

-- ---- types

-- the type of a message that is read
abbrev type_in : Inbound → Option MsgType
type_in inbound.Heartbeat = Some kind.Heartbeat
type_in (inbound.TestRequest m) = Some kind.TestRequest
type_in (inbound.ResendRequest m) = Some kind.ResendRequest
type_in inbound.Reject = Some kind.Reject
type_in (inbound.SequenceReset m) = Some kind.SequenceReset
type_in inbound.Logout = Some kind.Logout
type_in (inbound.Logon m) = Some kind.Logon
type_in (inbound.TradeCaptureReport m) = Some kind.TradeCaptureReport
type_in (inbound.AllocationInstruction m) = Some kind.AllocationInstruction
type_in (inbound.AllocationReportAck m) = Some kind.AllocationReportAck
type_in (inbound.RequestForPositions m) = Some kind.RequestForPositions
type_in (inbound.Unread code) = None

-- the type that fields have: a type that is read, or another one
abbrev HasType : List TagValue → Option MsgType → Type 0
HasType fields found = MatchOption found ((code : TypeCode) × IsUnread fields code) (λ k. first_value MSG_TYPE fields ≡ Some (code_of k))

type_said : (fields : List TagValue) (m : Inbound) → Says fields m → HasType fields (type_in m)
type_said fields inbound.Heartbeat p = p.code
type_said fields (inbound.TestRequest m) p = p.0.code
type_said fields (inbound.ResendRequest m) p = p.0.code
type_said fields inbound.Reject p = p.code
type_said fields (inbound.SequenceReset m) p = p.0.code
type_said fields inbound.Logout p = p.code
type_said fields (inbound.Logon m) p = p.0.code
type_said fields (inbound.TradeCaptureReport m) p = p.0.code
type_said fields (inbound.AllocationInstruction m) p = p.0.code
type_said fields (inbound.AllocationReportAck m) p = p.0.code
type_said fields (inbound.RequestForPositions m) p = p.0.code
type_said fields (inbound.Unread code) p = (code, p)

-- fields have at most one type
one_found : (fields : List TagValue) (a b : Option MsgType) → HasType fields a → HasType fields b → a ≡ b
one_found fields None None p q = refl
one_found fields None (Some k) p q = (let unread = p.1 in absurd (unread.other k (one_text _ _ _ unread.stands q)))
one_found fields (Some k) None p q = (let unread = q.1 in absurd (unread.other k (one_text _ _ _ unread.stands p)))
one_found fields (Some k) (Some j) p q = ap Some (one_type k j (one_text _ _ _ p q))

same_type : (fields : List TagValue) (m n : Inbound) → Says fields m → Says fields n → type_in n ≡ type_in m
same_type fields m n p q = one_found fields (type_in n) (type_in m) (type_said fields n q) (type_said fields m p)

-- a message of this type
abbrev IsOf : MsgType → Inbound → Type 0
IsOf kind.Heartbeat n = n ≡ inbound.Heartbeat
IsOf kind.TestRequest n = (m : TestRequest) × (n ≡ inbound.TestRequest m)
IsOf kind.ResendRequest n = (m : ResendRequest) × (n ≡ inbound.ResendRequest m)
IsOf kind.Reject n = n ≡ inbound.Reject
IsOf kind.SequenceReset n = (m : SequenceReset) × (n ≡ inbound.SequenceReset m)
IsOf kind.Logout n = n ≡ inbound.Logout
IsOf kind.Logon n = (m : Logon) × (n ≡ inbound.Logon m)
IsOf kind.TradeCaptureReport n = (m : TradeCaptureReport) × (n ≡ inbound.TradeCaptureReport m)
IsOf kind.AllocationInstruction n = (m : AllocationInstruction) × (n ≡ inbound.AllocationInstruction m)
IsOf kind.AllocationReportAck n = (m : AllocationReportAck) × (n ≡ inbound.AllocationReportAck m)
IsOf kind.RequestForPositions n = (m : RequestForPositions) × (n ≡ inbound.RequestForPositions m)

-- or of another one
abbrev IsOfFound : Option MsgType → Inbound → Type 0
IsOfFound found n = MatchOption found ((code : TypeCode) × (n ≡ inbound.Unread code)) (λ k. IsOf k n)

of_its_type : (n : Inbound) → IsOfFound (type_in n) n
of_its_type inbound.Heartbeat = refl
of_its_type (inbound.TestRequest m) = (m, refl)
of_its_type (inbound.ResendRequest m) = (m, refl)
of_its_type inbound.Reject = refl
of_its_type (inbound.SequenceReset m) = (m, refl)
of_its_type inbound.Logout = refl
of_its_type (inbound.Logon m) = (m, refl)
of_its_type (inbound.TradeCaptureReport m) = (m, refl)
of_its_type (inbound.AllocationInstruction m) = (m, refl)
of_its_type (inbound.AllocationReportAck m) = (m, refl)
of_its_type (inbound.RequestForPositions m) = (m, refl)
of_its_type (inbound.Unread code) = (code, refl)

-- two messages in the same fields have the same type
like : (fields : List TagValue) (m n : Inbound) → Says fields m → Says fields n → IsOfFound (type_in m) n
like fields m n p q = subst (λ found. IsOfFound found n) (same_type fields m n p q) (of_its_type n)

-- ---- values

one_flag : (tag : ℕ) (fields : List TagValue) (a b : Bool) → IsFlag tag fields a → IsFlag tag fields b → a ≡ b
one_flag tag fields true true p q = refl
one_flag tag fields false false p q = refl
one_flag tag fields true false p q = absurd (q p)
one_flag tag fields false true p q = absurd (p q)

-- the status with a number
pub status_at : ℕ → AllocStatus
status_at n =
    if n == 0 then Accepted else (if n == 1 then Rejected BlockLevel else (if n == 2 then Rejected AccountLevel
    else (if n == 5 then Rejected Intermediary else (if n == 6 then AllocationPending else Reversed))))

pub status_at-number : (s : AllocStatus) → status_at (status_number s) ≡ s
unfolding status_at
status_at-number Accepted = refl
status_at-number (Rejected BlockLevel) = refl
status_at-number (Rejected AccountLevel) = refl
status_at-number (Rejected Intermediary) = refl
status_at-number AllocationPending = refl
status_at-number Reversed = refl

one_status : (s t : AllocStatus) → status_number s ≡ status_number t → s ≡ t
one_status s t same = sym (status_at-number s) ∙ ap status_at same ∙ status_at-number t

one_line : (entry : List TagValue) (a b : Line) → IsAlloc entry a → IsAlloc entry b → a ≡ b
one_line entry a b p q =
    let accounts : a.account.name ≡ b.account.name = one_text _ _ _ p.account q.account in
    let lots : a.lots ≡ b.lots = lots_once ALLOC_QTY entry a.lots b.lots p.lots q.lots in
    λ i. record { account = record { name = accounts i }; lots = lots i }

one_list : (entries : List (List TagValue)) (a b : List Line) → AreAllocs entries a → AreAllocs entries b → a ≡ b
one_list [] [] [] p q = refl
one_list (e ∷ entries) (a ∷ others) (b ∷ bs) p q =
    let first = one_line e a b p.0 q.0 in
    let rest = one_list entries others bs p.1 q.1 in
    λ i. first i ∷ rest i
one_list [] (a ∷ others) b p q = absurd p
one_list [] [] (b ∷ bs) p q = absurd q
one_list (e ∷ entries) [] b p q = absurd p
one_list (e ∷ entries) (a ∷ others) [] p q = absurd q

-- ---- messages of one type

one_resend : (fields : List TagValue) (a b : ResendRequest) → IsResendRequest fields a → IsResendRequest fields b → a ≡ b
one_resend fields a b p q =
    let begin = p.begin ∙ sym q.begin in
    let last = p.last ∙ sym q.last in
    λ i. record { begin_seq_no = begin i; end_seq_no = last i }

one_reset : (fields : List TagValue) (a b : SequenceReset) → IsSequenceReset fields a → IsSequenceReset fields b → a ≡ b
one_reset fields a b p q =
    let flags = one_flag GAP_FILL_FLAG fields a.is_gap_fill b.is_gap_fill p.gap_fill q.gap_fill in
    let numbers = p.number ∙ sym q.number in
    λ i. record { is_gap_fill = flags i; new_seq_no = numbers i }

one_logon : (fields : List TagValue) (a b : Logon) → IsLogon fields a → IsLogon fields b → a ≡ b
one_logon fields a b p q =
    let intervals = p.interval ∙ sym q.interval in
    let flags = one_flag RESET_SEQ_NUM_FLAG fields a.resets_seq_num b.resets_seq_num p.resets q.resets in
    λ i. record { heart_bt_int = intervals i; resets_seq_num = flags i }

one_test : (fields : List TagValue) (tag : ℕ) (a b : TestRequest) → first_value tag fields ≡ Some a.test_req_id → first_value tag fields ≡ Some b.test_req_id → a ≡ b
one_test fields tag a b p q = let ids : a.test_req_id ≡ b.test_req_id = one_text _ _ _ p q in λ i. record { test_req_id = ids i }

one_instruction : (fields : List TagValue) (a b : AllocationInstruction) → IsInstruction fields a → IsInstruction fields b → a ≡ b
one_instruction fields a b p q =
    let own = p.parts in
    let other = q.parts in
    let entry = one_entry own.entry other.entry _ own.one_exec other.one_exec in
    let ids : a.alloc_id ≡ b.alloc_id = one_text _ _ _ own.alloc_id other.alloc_id in
    let execs : a.exec_id ≡ b.exec_id = one_text _ _ _ (ap (first_value 17) (sym entry) ∙ own.exec_id) other.exec_id in
    let lines : a.lines ≡ b.lines = one_list (entries_of kind.AllocationInstruction NO_ALLOCS fields) a.lines b.lines own.allocs other.allocs in
    λ i. record { alloc_id = ids i; exec_id = execs i; lines = lines i }

one_word : (fields : List TagValue) (a b : AllocationReportAck) → IsReportAck fields a → IsReportAck fields b → a ≡ b
one_word fields a b p q =
    let offers : a.alloc_report_id ≡ b.alloc_report_id = p.offer ∙ sym q.offer in
    let statuses = one_status a.alloc_status b.alloc_status (sym p.status ∙ q.status) in
    λ i. record { alloc_report_id = offers i; alloc_status = statuses i }

one_question : (fields : List TagValue) (a b : RequestForPositions) → IsRequest fields a → IsRequest fields b → a ≡ b
one_question fields a b p q =
    let ids : a.pos_req_id ≡ b.pos_req_id = one_text _ _ _ p.request_id q.request_id in
    let accounts : a.account.name ≡ b.account.name = one_text _ _ _ p.account q.account in
    λ i. record { pos_req_id = ids i; account = record { name = accounts i } }

-- ---- the law

-- the contents of the other message, once it is known to be this one
moved : (fields : List TagValue) (n m : Inbound) → n ≡ m → Says fields n → Says fields m
moved fields n m same q = subst (Says fields) same q

pub one_message : (fields : List TagValue) (m n : Inbound) → Says fields m → Says fields n → m ≡ n
one_message fields inbound.Heartbeat n p q = sym (like fields inbound.Heartbeat n p q)
one_message fields (inbound.TestRequest m) n p q =
    let other = like fields (inbound.TestRequest m) n p q in
    ap inbound.TestRequest (one_test fields 112 m other.0 p.1 (moved fields n _ other.1 q).1) ∙ sym other.1
one_message fields (inbound.ResendRequest m) n p q =
    let other = like fields (inbound.ResendRequest m) n p q in
    ap inbound.ResendRequest (one_resend fields m other.0 p.1 (moved fields n _ other.1 q).1) ∙ sym other.1
one_message fields inbound.Reject n p q = sym (like fields inbound.Reject n p q)
one_message fields (inbound.SequenceReset m) n p q =
    let other = like fields (inbound.SequenceReset m) n p q in
    ap inbound.SequenceReset (one_reset fields m other.0 p.1 (moved fields n _ other.1 q).1) ∙ sym other.1
one_message fields inbound.Logout n p q = sym (like fields inbound.Logout n p q)
one_message fields (inbound.Logon m) n p q =
    let other = like fields (inbound.Logon m) n p q in
    ap inbound.Logon (one_logon fields m other.0 p.1 (moved fields n _ other.1 q).1) ∙ sym other.1
one_message fields (inbound.TradeCaptureReport m) n p q =
    let other = like fields (inbound.TradeCaptureReport m) n p q in
    ap inbound.TradeCaptureReport (same_report fields m other.0 p.1 (moved fields n _ other.1 q).1) ∙ sym other.1
one_message fields (inbound.AllocationInstruction m) n p q =
    let other = like fields (inbound.AllocationInstruction m) n p q in
    ap inbound.AllocationInstruction (one_instruction fields m other.0 p.1 (moved fields n _ other.1 q).1) ∙ sym other.1
one_message fields (inbound.AllocationReportAck m) n p q =
    let other = like fields (inbound.AllocationReportAck m) n p q in
    ap inbound.AllocationReportAck (one_word fields m other.0 p.1 (moved fields n _ other.1 q).1) ∙ sym other.1
one_message fields (inbound.RequestForPositions m) n p q =
    let other = like fields (inbound.RequestForPositions m) n p q in
    ap inbound.RequestForPositions (one_question fields m other.0 p.1 (moved fields n _ other.1 q).1) ∙ sym other.1
one_message fields (inbound.Unread code) n p q =
    let other = like fields (inbound.Unread code) n p q in
    ap inbound.Unread (one_text _ _ _ p.stands (moved fields n (inbound.Unread other.0) other.1 q).stands) ∙ sym other.1
