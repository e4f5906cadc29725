-- Fields have at most one first fault.
use Rattle.gu_msgs.proofs.Words.{◌≡◌, ◌++◌, ◌⊎◌, inl, inr, ℕ, false, List, [], ◌∷◌, Option, Some, None, MatchOption, refl, sym, ◌∙◌, TagValue, MSG_TYPE, Disagrees, IsFaultOf, IsFirstFault, IsTypedFault, untyped_fault, AreSound, IsFirstAtFault, IsItemAtFault, IsSoundItem, Item, message_items, IsAtFault, IsFormatted, code_of, is_type_text, fault_at, shape_fault, first_value, Fault, MsgType, Heartbeat, TestRequest, ResendRequest, Reject, SequenceReset, Logout, Logon, TradeCaptureReport, AllocationInstruction, AllocationReportAck, RequestForPositions, SessionRejectReason, Kind}
use Rattle.gu_msgs.specs.declared.reject_reason.SessionRejectReason.TheVariants as reason
use Rattle.gu_msgs.proofs.NoFault.{no_value_fault, not_both_of, one_type, sound_code}

-- two faults with the same tag and reason are the same
one_record : (f g : Fault) → f.tag ≡ g.tag → f.reason ≡ g.reason → f ≡ g
one_record f g tag reason =
    let made : (t : ℕ) (r : SessionRejectReason) → f.tag ≡ t → f.reason ≡ r → f ≡ fault_at r t = λ t r e h. rw (← e, ← h) refl in
    made g.tag g.reason tag reason

-- ---- values

-- why a text isn't allowed
why : (k : Kind) (text : List ℕ) (r : SessionRejectReason) → IsAtFault k text r
    → ((r ≡ reason.IncorrectDataFormat) × (¬ IsFormatted k text)) ⊎ ((r ≡ reason.ValueIsIncorrect) × IsFormatted k text)
why k text reason.IncorrectDataFormat at = inl (refl, at)
why k text reason.ValueIsIncorrect at = inr (refl, at.0)
why k text reason.InvalidTagNumber at = absurd at
why k text reason.RequiredTagMissing at = absurd at
why k text reason.TagSpecifiedWithoutAValue at = absurd at
why k text reason.CompIdProblem at = absurd at
why k text reason.InvalidMsgType at = absurd at
why k text reason.TagAppearsMoreThanOnce at = absurd at
why k text reason.IncorrectNumInGroupCount at = absurd at

one_reason : (k : Kind) (text : List ℕ) (r q : SessionRejectReason) → IsAtFault k text r → IsAtFault k text q → r ≡ q
one_reason k text r q a b =
    elim (why k text r a) [
      | inl bad ↦ elim (why k text q b) [ inl other ↦ bad.0 ∙ sym other.0 | inr other ↦ absurd (bad.1 other.1) ]
      | inr bad ↦ elim (why k text q b) [ inl other ↦ absurd (other.1 bad.1) | inr other ↦ bad.0 ∙ sym other.0 ]
    ]

one_reason_of : (k : Kind) (text : Option (List ℕ)) (r q : SessionRejectReason) → MatchOption text ⊥ (λ t. IsAtFault k t r) → MatchOption text ⊥ (λ t. IsAtFault k t q) → r ≡ q
one_reason_of k None r q a b = absurd a
one_reason_of k (Some text) r q a b = one_reason k text r q a b

-- the first fault is that of the first value, or that is sound and it is the first fault after it
front_or_after : (x : Item) (xs : List Item) (f : Fault) → IsFirstAtFault (x ∷ xs) f
    → ((f.tag ≡ x.tag) × IsItemAtFault x f.reason) ⊎ (IsSoundItem x × IsFirstAtFault xs f)
front_or_after x xs f first =
    let Q : Type 0 = ((f.tag ≡ x.tag) × IsItemAtFault x f.reason) ⊎ (IsSoundItem x × IsFirstAtFault xs f) in
    let at : (before : List Item) → x ∷ xs ≡ before ++ first.item ∷ first.behind → AreSound before → Q =
    λ before. elim before as (λ b. x ∷ xs ≡ b ++ first.item ∷ first.behind → AreSound b → Q) [
      | [] ↦ λ parts sound. (let same : x ≡ first.item = cc in inl (rw same (first.tag_is, first.at_fault)))
      | y ∷ ys ↦ λ parts sound. (
          let same : y ≡ x = cc in
          let rest : xs ≡ ys ++ first.item ∷ first.behind = cc in
          inr (
            rw same at sound.0,
            record { before = ys; item = first.item; behind = first.behind; parts = rest; sound = sound.1; tag_is = first.tag_is; at_fault = first.at_fault },
          )
          )
    ] in
    at first.before first.parts first.sound

none_in_nothing : (f : Fault) → IsFirstAtFault [] f → ⊥
none_in_nothing f first = no_value_fault [] f tt first

one_value_fault : (items : List Item) (f g : Fault) → IsFirstAtFault items f → IsFirstAtFault items g → f ≡ g
one_value_fault [] f g a b = absurd (none_in_nothing f a)
one_value_fault (x ∷ xs) f g a b =
    let deeper : IsFirstAtFault xs f → IsFirstAtFault xs g → f ≡ g = one_value_fault xs f g in
    elim (front_or_after x xs f a) [
      | inl here ↦ elim (front_or_after x xs g b) [
        | inl there ↦ one_record f g (here.0 ∙ sym there.0) (one_reason_of x.kind x.text f.reason g.reason here.1 there.1)
        | inr later ↦ absurd (not_both_of x.kind x.text f.reason later.0 here.1)
      ]
      | inr later ↦ elim (front_or_after x xs g b) [
        | inl there ↦ absurd (not_both_of x.kind x.text g.reason later.0 there.1)
        | inr other ↦ deeper later.1 other.1
      ]
    ]

-- ---- messages

one_tag : (k : MsgType) (fields : List TagValue) (t u : ℕ) → Disagrees k fields t → Disagrees k fields u → t ≡ u
one_tag ResendRequest fields t u a b = a.0 ∙ sym b.0
one_tag AllocationInstruction fields t u a b = a.0 ∙ sym b.0
one_tag Heartbeat fields t u a b = absurd a
one_tag TestRequest fields t u a b = absurd a
one_tag Reject fields t u a b = absurd a
one_tag SequenceReset fields t u a b = absurd a
one_tag Logout fields t u a b = absurd a
one_tag Logon fields t u a b = absurd a
one_tag TradeCaptureReport fields t u a b = absurd a
one_tag AllocationReportAck fields t u a b = absurd a
one_tag RequestForPositions fields t u a b = absurd a

shape_and_none : (o : Option Fault) (f : Fault) → o ≡ Some f → o ≡ None → ⊥
shape_and_none o f a b = cc

same_shape : (o : Option Fault) (f g : Fault) → o ≡ Some f → o ≡ Some g → f ≡ g
same_shape o f g a b = cc

one_first_fault : (k : MsgType) (fields : List TagValue) (f g : Fault) → IsFirstFault k fields f → IsFirstFault k fields g → f ≡ g
one_first_fault k fields f g (inl a) (inl b) = same_shape (shape_fault k fields) f g a b
one_first_fault k fields f g (inl a) (inr (inl b)) = absurd (shape_and_none (shape_fault k fields) f a b.shape)
one_first_fault k fields f g (inl a) (inr (inr b)) = absurd (shape_and_none (shape_fault k fields) f a b.shape)
one_first_fault k fields f g (inr (inl a)) (inl b) = absurd (shape_and_none (shape_fault k fields) g b a.shape)
one_first_fault k fields f g (inr (inr a)) (inl b) = absurd (shape_and_none (shape_fault k fields) g b a.shape)
one_first_fault k fields f g (inr (inl a)) (inr (inl b)) = one_value_fault (message_items k fields) f g a.first b.first
one_first_fault k fields f g (inr (inl a)) (inr (inr b)) = absurd (no_value_fault (message_items k fields) f b.values a.first)
one_first_fault k fields f g (inr (inr a)) (inr (inl b)) = absurd (no_value_fault (message_items k fields) g a.values b.first)
one_first_fault k fields f g (inr (inr a)) (inr (inr b)) = one_record f g (one_tag k fields f.tag g.tag a.disagrees b.disagrees) (a.reason ∙ sym b.reason)

no_bad_code : (k : MsgType) (text : List ℕ) → text ≡ code_of k → is_type_text text ≡ false → ⊥
no_bad_code k text is bad = let sound = sound_code k in let form = rw is at bad in cc

one_typed_fault : (text : List ℕ) (fields : List TagValue) (f g : Fault) → IsTypedFault text fields f → IsTypedFault text fields g → f ≡ g
one_typed_fault text fields f g (inl a) (inl b) = a.1 ∙ sym b.1
one_typed_fault text fields f g (inl a) (inr b) = absurd (no_bad_code b.0 text b.1 a.0)
one_typed_fault text fields f g (inr a) (inl b) = absurd (no_bad_code a.0 text a.1 b.0)
one_typed_fault text fields f g (inr a) (inr b) =
    let same = one_type a.0 b.0 (sym a.1 ∙ b.1) in
    let own = rw same at a.2 in
    one_first_fault b.0 fields f g own b.2

one_fault_by : (text : Option (List ℕ)) (fields : List TagValue) (f g : Fault) → MatchOption text (f ≡ untyped_fault fields) (λ t. IsTypedFault t fields f)
    → MatchOption text (g ≡ untyped_fault fields) (λ t. IsTypedFault t fields g) → f ≡ g
one_fault_by None fields f g a b = a ∙ sym b
one_fault_by (Some text) fields f g a b = one_typed_fault text fields f g a b

-- fields have at most one first fault
pub one_fault : (fields : List TagValue) (f g : Fault) → IsFaultOf fields f → IsFaultOf fields g → f ≡ g
one_fault fields f g a b = one_fault_by (first_value MSG_TYPE fields) fields f g a b
