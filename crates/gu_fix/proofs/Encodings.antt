-- The message of fields is whole.
use Rattle.std.proofs.Common.{◌≡◌, ℕ, ◌+◌, ◌<◌, ◌≤◌, true, false, ◌&&◌, List, [], ◌∷◌, ◌++◌, length, Some, None, refl, sym, ap, subst, ◌∙◌, append_assoc, arith}
use Rattle.std.specs.Prelude.{◌↔◌, IsErrOf, Err}
use Rattle.std.specs.List.{list_any, list_all}
use Rattle.std.specs.Fmt.{decimal, digits}
use Rattle.std.proofs.lemmas.List.{length-append, append-nil}
use Rattle.std.proofs.lemmas.Fmt.{decimal_is_IsNumeral, length-decimal-le}
use Rattle.std.proofs.lemmas.Bool.{eqb-true, lt-ltb, le-ltb}
use Rattle.gu_fix.specs.WholeMessage.{soh, type_tag, body_of, front_of, trailer_after, IsWhole, IsLengthText}
use Rattle.gu_fix.specs.TagValue.{TagValue}
use Rattle.gu_fix.specs.Encoding.{field_text, fields_text, message_of, fault_of, is_body_tag, begins_with_type, is_empty, has_soh}
use Rattle.gu_fix.specs.declared.error.EncodeError.{EncodeError}
use Rattle.gu_fix.specs.declared.error.EncodeError.TheVariants.{BadTag, EmptyValue, SohInValue, TooLong}
use Rattle.gu_fix.proofs.WholeLemmas.{length-spelling}

-- one field or more end with SOH
ends_with_soh : (f : TagValue) (fs : List TagValue) → (t : List ℕ) × (fields_text (f ∷ fs) ≡ t ++ soh ∷ [])
ends_with_soh f [] = (decimal f.tag ++ 61 ∷ f.value, append-nil (field_text f))
ends_with_soh f (g ∷ gs) =
    let r = ends_with_soh g gs in
    (field_text f ++ r.0, ap (λ (t : List ℕ). field_text f ++ t) r.1 ∙ sym (append_assoc (field_text f) r.0 (soh ∷ [])))

-- a value, SOH and further fields end with SOH
after_type : (value : List ℕ) (fs : List TagValue) → (inner : List ℕ) × (value ++ soh ∷ fields_text fs ≡ inner ++ soh ∷ [])
after_type value [] = (value, refl)
after_type value (f ∷ fs) =
    let r = ends_with_soh f fs in
    (value ++ soh ∷ r.0, ap (λ (t : List ℕ). value ++ soh ∷ t) r.1 ∙ sym (append_assoc value (soh ∷ r.0) (soh ∷ [])))

-- the tag of MsgType as written
decimal_35 : decimal 35 ++ 61 ∷ [] ≡ type_tag
unfolding digits type_tag
decimal_35 = refl

-- the text of fields that begin with MsgType is a body
fields_are_body : (fs : List TagValue) → begins_with_type fs ≡ true → (inner : List ℕ) × (fields_text fs ≡ body_of inner)
fields_are_body [] h = absurd cc
fields_are_body (f ∷ fs) h =
    let tag : f.tag ≡ 35 = eqb-true f.tag 35 h in
    let rest = after_type f.value fs in (
      rest.0,
      ap (λ n. ((decimal n ++ 61 ∷ f.value) ++ soh ∷ []) ++ fields_text fs) tag
          ∙ append_assoc (decimal 35 ++ 61 ∷ f.value) (soh ∷ []) (fields_text fs)
          ∙ ap (λ (t : List ℕ). t ++ soh ∷ fields_text fs) (sym (append_assoc (decimal 35) (61 ∷ []) f.value) ∙ ap (λ (t : List ℕ). t ++ f.value) decimal_35)
          ∙ append_assoc type_tag f.value (soh ∷ fields_text fs)
          ∙ ap (λ (t : List ℕ). type_tag ++ t) rest.1 ∙ sym (append_assoc type_tag rest.0 (soh ∷ [])),
    )

-- the length of a message, part by part
pub length-message : (fs : List TagValue) → length (message_of fs) ≡ 21 + length (decimal (length (fields_text fs))) + length (fields_text fs)
length-message fs = length-spelling (decimal (length (fields_text fs))) (fields_text fs)

-- the message of such fields is whole unless it is too long
pub whole_message : (fs : List TagValue) → begins_with_type fs ≡ true → length (message_of fs) ≤ 65536 → IsWhole (message_of fs)
whole_message fs h fits =
    let body = fields_text fs in
    let parts = fields_are_body fs h in
    let n = length body in
    let long = length-message fs in
    let numeral = decimal_is_IsNumeral n (omega arith) in
    let counted : IsLengthText (decimal n) n = record {
      some = numeral.0.0;
      most = length-decimal-le 7 n (omega arith) (omega arith) (omega arith);
      all = numeral.0.1;
      value = numeral.1;
    } in
    record {
      digits = decimal n;
      inner = parts.0;
      counted = subst (λ (t : List ℕ). IsLengthText (decimal n) (length t)) parts.1 counted;
      spelled = ap (λ (t : List ℕ). front_of (decimal n) t ++ trailer_after (front_of (decimal n) t)) parts.1;
      most = fits;
    }

-- ---- the first fault

-- a tag is invalid
pub bad_tag : (fs : List TagValue) → (begins_with_type fs && list_all (λ f. is_body_tag f.tag) fs) ≡ false → fault_of fs ≡ Some BadTag
unfolding fault_of
bad_tag fs h = rw h refl

-- no tag is invalid, and a value is empty
pub empty_value : (fs : List TagValue) → (begins_with_type fs && list_all (λ f. is_body_tag f.tag) fs) ≡ true → list_any (λ f. is_empty f.value) fs ≡ true → fault_of fs ≡ Some EmptyValue
unfolding fault_of
empty_value fs h e = rw (h, e) refl

-- no value is empty either, and one contains SOH
pub soh_in_value : (fs : List TagValue) → (begins_with_type fs && list_all (λ f. is_body_tag f.tag) fs) ≡ true → list_any (λ f. is_empty f.value) fs ≡ false → list_any (λ f. has_soh f.value) fs ≡ true → fault_of fs ≡ Some SohInValue
unfolding fault_of
soh_in_value fs h e s = rw (h, e, s) refl

-- none contains SOH either, and the message is too long
pub too_long : (fs : List TagValue) → (begins_with_type fs && list_all (λ f. is_body_tag f.tag) fs) ≡ true → list_any (λ f. is_empty f.value) fs ≡ false → list_any (λ f. has_soh f.value) fs ≡ false
    → 65536 < length (message_of fs) → fault_of fs ≡ Some TooLong
unfolding fault_of
too_long fs h e s l = let t = lt-ltb 65536 (length (message_of fs)) l in rw (h, e, s, t) refl

-- there is no fault
pub no_fault : (fs : List TagValue) → (begins_with_type fs && list_all (λ f. is_body_tag f.tag) fs) ≡ true → list_any (λ f. is_empty f.value) fs ≡ false → list_any (λ f. has_soh f.value) fs ≡ false
    → length (message_of fs) ≤ 65536 → fault_of fs ≡ None
unfolding fault_of
no_fault fs h e s l = let t = le-ltb 65536 (length (message_of fs)) l in rw (h, e, s, t) refl

-- ---- the length, field by field

-- one more field
pub length-fields_text : (f : TagValue) (fs : List TagValue) → length (fields_text (f ∷ fs)) ≡ length (decimal f.tag) + length f.value + 2 + length (fields_text fs)
length-fields_text f fs =
    omega (
      arith,
      length-append (field_text f) (fields_text fs),
      length-append (decimal f.tag ++ 61 ∷ f.value) (soh ∷ []),
      length-append (decimal f.tag) (61 ∷ f.value),
    )

-- ---- the call's answers

-- a refusal for the first fault is the refusal for that fault alone
pub refused_exactly : (T : Type 0) (fields : List TagValue) (e f : EncodeError) → fault_of fields ≡ Some e → IsErrOf {T = T} (Err e) f ↔ (fault_of fields ≡ Some f)
refused_exactly T fields e f is = ((λ h. cc), (λ h. cc))
