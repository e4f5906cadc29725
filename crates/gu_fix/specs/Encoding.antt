-- The message of a list of fields (FIX tagvalue encoding, Message structure).
use Rattle.std.specs.Prelude.{ℕ, Bool, false, not, ◌%◌, ◌&&◌, ◌||◌, ◌==◌, nat_lt, nat_le, List, [], ◌∷◌, ◌++◌, length, sum, codes, Option, Some, None, if◌then◌else◌}
use Rattle.std.specs.List.{flat_map, list_any, list_all}
use Rattle.std.specs.Fmt.{decimal}
use Rattle.gu_fix.specs.WholeMessage.{soh, front_of, three_digits, trailer_after}
use Rattle.gu_fix.specs.TagValue.{TagValue, tag_value}
use Rattle.gu_fix.specs.Fields.{equals}
use Rattle.gu_fix.specs.declared.tag.TheConstants.{BEGIN_STRING, BODY_LENGTH, CHECK_SUM, MSG_TYPE}
use Rattle.gu_fix.specs.declared.error.EncodeError.{EncodeError}
use Rattle.gu_fix.specs.declared.error.EncodeError.TheVariants.{BadTag, EmptyValue, SohInValue, TooLong}

-- a field: the tag's digits, `=`, the value and SOH
abbrev pub field_text : TagValue → List ℕ
field_text field = decimal field.tag ++ equals ∷ field.value ++ soh ∷ []

-- fields in order
abbrev pub fields_text : List TagValue → List ℕ
fields_text fields = flat_map field_text fields

-- the message: BeginString, BodyLength without leading zeros, the fields, and CheckSum
abbrev pub message_of : List TagValue → List ℕ
message_of fields =
    let body = fields_text fields in
    let front = front_of (decimal (length body)) body in
    front ++ trailer_after front

-- the fields of that message: BeginString, BodyLength, those given, and CheckSum
abbrev pub fields_of_message : List TagValue → List TagValue
fields_of_message fields =
    let body = fields_text fields in
    let front = front_of (decimal (length body)) body in
    tag_value BEGIN_STRING (codes "FIXT.1.1") ∷ tag_value BODY_LENGTH (decimal (length body))
    ∷ (fields ++ tag_value CHECK_SUM (three_digits (sum front % 256)) ∷ [])

-- a tag allowed in a body: 1 to nine digits, other than those that the encoding itself writes
abbrev pub is_body_tag : ℕ → Bool
is_body_tag tag = not (tag == 0 || tag == BEGIN_STRING || tag == BODY_LENGTH || tag == CHECK_SUM) && nat_le tag 999999999

-- the first field is MsgType
abbrev pub begins_with_type : List TagValue → Bool
begins_with_type [] = false
begins_with_type (field ∷ fields) = field.tag == MSG_TYPE

-- a value is empty
abbrev pub is_empty : List ℕ → Bool
is_empty value = length value == 0

-- a value contains SOH
abbrev pub has_soh : List ℕ → Bool
has_soh value = list_any (λ b. b == soh) value

-- the first fault of the fields; each is looked for over all of them before the next
unfoldable pub fault_of : List TagValue → Option EncodeError
fault_of fields =
    if not (begins_with_type fields && list_all (λ f. is_body_tag f.tag) fields) then Some BadTag
    else (if list_any (λ f. is_empty f.value) fields then Some EmptyValue
    else (if list_any (λ f. has_soh f.value) fields then Some SohInValue
    else (if nat_lt 65536 (length (message_of fields)) then Some TooLong else None)))
