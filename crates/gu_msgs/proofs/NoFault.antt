-- A message that is read has no fault.
use Rattle.gu_msgs.proofs.Words.{◌≡◌, ◌++◌, inl, inr, ℕ, true, List, [], ◌∷◌, Option, Some, None, MatchOption, sum, ◌==◌, if◌then◌else◌, refl, ap, sym, ◌∙◌, TagValue, MeansLots, AddsUp, Agrees, AreLots, Differs, Disagrees, IsFaultless, IsFaultOf, IsFirstFault, IsTypedFault, AreSound, IsFirstAtFault, IsSoundItem, Item, message_items, IsAtFault, IsFormatted, IsSound, IsOfType, IsUnread, Says, code_of, is_type_text, first_value, Fault, Inbound, MsgType, Heartbeat, TestRequest, ResendRequest, Reject, SequenceReset, Logout, Logon, TradeCaptureReport, AllocationInstruction, AllocationReportAck, RequestForPositions, SessionRejectReason, QUANTITY, Kind}
use Rattle.gu_terms.proofs.NumberLemmas.{lots_meant}
use Rattle.gu_msgs.specs.declared.inbound.Inbound.TheVariants as inbound
use Rattle.gu_msgs.specs.declared.reject_reason.SessionRejectReason.TheVariants as reason
use Rattle.gu_msgs.specs.declared.type_code.TypeCode.{TypeCode}
use Rattle.gu_msgs.specs.declared.row.Kind.TheVariants as kind

-- ---- values

-- an allowed text is in its format
sound_formatted : (k : Kind) (text : List ℕ) → IsSound k text → IsFormatted k text
sound_formatted kind.Text text sound = tt
sound_formatted kind.TestReqId text sound = tt
sound_formatted kind.YesOrNo text sound = tt
sound_formatted kind.Id text sound = tt
sound_formatted kind.Name text sound = tt
sound_formatted kind.Lots text sound = sound.1.means.is_number
sound_formatted kind.Price text sound = sound.1.means.is_number
sound_formatted kind.Date text sound = sound.is_text
sound_formatted (kind.Number least most) text sound = sound.numeral
sound_formatted kind.Status text sound = sound.1.numeral

not_both : (k : Kind) (text : List ℕ) (r : SessionRejectReason) → IsSound k text → IsAtFault k text r → ⊥
not_both k text reason.IncorrectDataFormat sound at = at (sound_formatted k text sound)
not_both k text reason.ValueIsIncorrect sound at = at.1 sound
not_both k text reason.InvalidTagNumber sound at = at
not_both k text reason.RequiredTagMissing sound at = at
not_both k text reason.TagSpecifiedWithoutAValue sound at = at
not_both k text reason.CompIdProblem sound at = at
not_both k text reason.InvalidMsgType sound at = at
not_both k text reason.TagAppearsMoreThanOnce sound at = at
not_both k text reason.IncorrectNumInGroupCount sound at = at

pub not_both_of : (k : Kind) (text : Option (List ℕ)) (r : SessionRejectReason) → MatchOption text (Unit {0}) (IsSound k) → MatchOption text ⊥ (λ t. IsAtFault k t r) → ⊥
not_both_of k None r sound at = at
not_both_of k (Some text) r sound at = not_both k text r sound at

sound_at : (before : List Item) (item : Item) (behind : List Item) → AreSound (before ++ item ∷ behind) → IsSoundItem item
sound_at [] item behind sound = sound.0
sound_at (x ∷ before) item behind sound = sound_at before item behind sound.1

pub no_value_fault : (items : List Item) (fault : Fault) → AreSound items → IsFirstAtFault items fault → ⊥
no_value_fault items fault sound first =
    let all = rw first.parts at sound in
    not_both_of first.item.kind first.item.text fault.reason (sound_at first.before first.item first.behind all) first.at_fault

-- ---- values that must agree

one_lots : (text : List ℕ) (n m : ℕ) → MeansLots text n → MeansLots text m → n ≡ m
one_lots text n m a b = sym (lots_meant text n a).1 ∙ (lots_meant text m b).1

same_lots : (texts : List (List ℕ)) (ns ms : List ℕ) → AreLots texts ns → AreLots texts ms → ns ≡ ms
same_lots [] [] [] a b = refl
same_lots (t ∷ ts) (n ∷ ns) (m ∷ ms) a b = let first = one_lots t n m a.0 b.0 in let others = same_lots ts ns ms a.1 b.1 in cc
same_lots [] (n ∷ ns) ms a b = absurd a
same_lots [] [] (m ∷ ms) a b = absurd b
same_lots (t ∷ ts) [] ms a b = absurd a
same_lots (t ∷ ts) (n ∷ ns) [] a b = absurd b

same_value : (text other : List ℕ) (o : Option (List ℕ)) → o ≡ Some text → o ≡ Some other → text ≡ other
same_value text other o a b = cc

no_difference : (fields : List TagValue) → AddsUp fields → Differs fields → ⊥
no_difference fields a d =
    let text = same_value a.quantities.quantity.value d.quantities.quantity.value (first_value QUANTITY fields) a.quantities.quantity.first d.quantities.quantity.first in
    let other = rw text at a.quantities.quantity.such in
    let whole = one_lots d.quantities.quantity.value a.whole d.whole other d.quantities.quantity.such in
    let parts = same_lots _ a.parts d.parts a.quantities.allocs d.quantities.allocs in
    d.differs (sym whole ∙ a.adds_up ∙ ap sum parts)

no_disagreement : (k : MsgType) (fields : List TagValue) (tag : ℕ) → Agrees k fields → Disagrees k fields tag → ⊥
no_disagreement ResendRequest fields tag agrees differs = differs.1 agrees
no_disagreement AllocationInstruction fields tag agrees differs = no_difference fields agrees differs.1
no_disagreement Heartbeat fields tag agrees differs = differs
no_disagreement TestRequest fields tag agrees differs = differs
no_disagreement Reject fields tag agrees differs = differs
no_disagreement SequenceReset fields tag agrees differs = differs
no_disagreement Logout fields tag agrees differs = differs
no_disagreement Logon fields tag agrees differs = differs
no_disagreement TradeCaptureReport fields tag agrees differs = differs
no_disagreement AllocationReportAck fields tag agrees differs = differs
no_disagreement RequestForPositions fields tag agrees differs = differs

no_first_fault : (k : MsgType) (fields : List TagValue) (fault : Fault) → IsFaultless k fields → IsFirstFault k fields fault → ⊥
no_first_fault k fields fault h (inl shape) = let none = h.shape in cc
no_first_fault k fields fault h (inr (inl value)) = no_value_fault (message_items k fields) fault h.values value.first
no_first_fault k fields fault h (inr (inr differs)) = no_disagreement k fields fault.tag h.agrees differs.disagrees

-- ---- types

-- a code's index among the codes, by which they are distinguished
code_place : MsgType → ℕ
code_place Heartbeat = 48
code_place TestRequest = 49
code_place ResendRequest = 50
code_place Reject = 51
code_place SequenceReset = 52
code_place Logout = 53
code_place Logon = 65
code_place TradeCaptureReport = 134
code_place AllocationInstruction = 74
code_place AllocationReportAck = 149
code_place RequestForPositions = 143

sum_code : (k : MsgType) → sum (code_of k) ≡ code_place k
unfolding code_place
sum_code Heartbeat = refl
sum_code TestRequest = refl
sum_code ResendRequest = refl
sum_code Reject = refl
sum_code SequenceReset = refl
sum_code Logout = refl
sum_code Logon = refl
sum_code TradeCaptureReport = refl
sum_code AllocationInstruction = refl
sum_code AllocationReportAck = refl
sum_code RequestForPositions = refl

-- the type whose code has this sum
pub type_at : ℕ → MsgType
type_at n =
    if n == 48 then Heartbeat else (if n == 49 then TestRequest else (if n == 50 then ResendRequest else (if n == 51 then Reject
    else (if n == 52 then SequenceReset else (if n == 53 then Logout else (if n == 65 then Logon else (if n == 134 then TradeCaptureReport
    else (if n == 74 then AllocationInstruction else (if n == 149 then AllocationReportAck else RequestForPositions)))))))))

type_at-place : (k : MsgType) → type_at (code_place k) ≡ k
unfolding type_at code_place
type_at-place Heartbeat = refl
type_at-place TestRequest = refl
type_at-place ResendRequest = refl
type_at-place Reject = refl
type_at-place SequenceReset = refl
type_at-place Logout = refl
type_at-place Logon = refl
type_at-place TradeCaptureReport = refl
type_at-place AllocationInstruction = refl
type_at-place AllocationReportAck = refl
type_at-place RequestForPositions = refl

pub type_at-sum : (k : MsgType) → type_at (sum (code_of k)) ≡ k
type_at-sum k = ap type_at (sum_code k) ∙ type_at-place k

-- two types with the same code are the same
pub one_type : (k j : MsgType) → code_of k ≡ code_of j → k ≡ j
one_type k j same =
    let places : code_place k ≡ code_place j = sym (sum_code k) ∙ ap sum same ∙ sum_code j in
    sym (type_at-place k) ∙ ap type_at places ∙ type_at-place j

-- a code has the form of a type
pub sound_code : (k : MsgType) → is_type_text (code_of k) ≡ true
sound_code Heartbeat = refl
sound_code TestRequest = refl
sound_code ResendRequest = refl
sound_code Reject = refl
sound_code SequenceReset = refl
sound_code Logout = refl
sound_code Logon = refl
sound_code TradeCaptureReport = refl
sound_code AllocationInstruction = refl
sound_code AllocationReportAck = refl
sound_code RequestForPositions = refl

no_typed_fault : (k : MsgType) (fields : List TagValue) (fault : Fault) → IsFaultless k fields → IsTypedFault (code_of k) fields fault → ⊥
no_typed_fault k fields fault h (inl bad) = let sound = sound_code k in let form = bad.0 in cc
no_typed_fault k fields fault h (inr typed) =
    let same = one_type k typed.0 typed.1 in
    let own = rw (← same) at typed.2 in
    no_first_fault k fields fault h own

no_fault_of : (k : MsgType) (fields : List TagValue) (fault : Fault) → IsOfType k fields → IsFaultOf fields fault → ⊥
no_fault_of k fields fault is at = let typed = rw is.code at at in no_typed_fault k fields fault is.faultless typed

no_unread_fault : (fields : List TagValue) (fault : Fault) (code : TypeCode) → IsUnread fields code → IsFaultOf fields fault → ⊥
no_unread_fault fields fault code is at =
    let typed = rw is.stands at at in
    let cases : IsTypedFault code fields fault → ⊥ =
    λ t. elim t [ inl bad ↦ (let sound = is.sound in let form = bad.0 in cc) | inr typed ↦ is.other typed.0 typed.1 ] in
    cases typed

-- a message that is read has no fault
pub no_fault : (fields : List TagValue) (message : Inbound) (fault : Fault) → Says fields message → IsFaultOf fields fault → ⊥
no_fault fields inbound.Heartbeat fault says at = no_fault_of Heartbeat fields fault says at
no_fault fields (inbound.TestRequest m) fault says at = no_fault_of TestRequest fields fault says.0 at
no_fault fields (inbound.ResendRequest m) fault says at = no_fault_of ResendRequest fields fault says.0 at
no_fault fields inbound.Reject fault says at = no_fault_of Reject fields fault says at
no_fault fields (inbound.SequenceReset m) fault says at = no_fault_of SequenceReset fields fault says.0 at
no_fault fields inbound.Logout fault says at = no_fault_of Logout fields fault says at
no_fault fields (inbound.Logon m) fault says at = no_fault_of Logon fields fault says.0 at
no_fault fields (inbound.TradeCaptureReport m) fault says at = no_fault_of TradeCaptureReport fields fault says.0 at
no_fault fields (inbound.AllocationInstruction m) fault says at = no_fault_of AllocationInstruction fields fault says.0 at
no_fault fields (inbound.AllocationReportAck m) fault says at = no_fault_of AllocationReportAck fields fault says.0 at
no_fault fields (inbound.RequestForPositions m) fault says at = no_fault_of RequestForPositions fields fault says.0 at
no_fault fields (inbound.Unread code) fault says at = no_unread_fault fields fault code says at
