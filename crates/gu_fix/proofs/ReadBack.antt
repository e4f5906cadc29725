-- An encoded message is read back.
use Rattle.std.proofs.Common.{◌≡◌, ℕ, zero, suc, ◌+◌, ◌/◌, ◌%◌, ◌^◌, ◌<◌, ◌≤◌, Bool, true, false, ◌&&◌, List, [], ◌∷◌, ◌++◌, length, None, Some, Ok, refl, sym, ap, subst, ◌∙◌, append_assoc, arith}
use Rattle.std.specs.Prelude.{map, codes, sum, not, nat_lt, ◌==◌, if◌then◌else◌}
use Rattle.std.specs.List.{flat_map, list_any, list_all, AllByRecursion}
use Rattle.std.specs.Fmt.{decimal, digits}
use Rattle.std.proofs.lemmas.List.{append-nil}
use Rattle.std.proofs.lemmas.Bool.{and_parts, or_parts, eq-eqb, leb-true, ltb-false}
use Rattle.std.proofs.lemmas.Fmt.{decimal_is_IsNumeral, first_decimal, length-decimal-le}
use Rattle.std.proofs.lemmas.Grind.{flat_map-append}
use Rattle.std.proofs.lemmas.Str.Parse.{digit_at}
use Rattle.gu_fix.specs.WholeMessage.{soh, opening, front_of, three_digits, trailer_of, IsWhole}
use Rattle.gu_fix.specs.TagValue.{TagValue, tag_value}
use Rattle.gu_fix.specs.Fields.{equals, NoSoh, IsTag, IsField, ReadAs, fields_among, first_fault, HasFields}
use Rattle.gu_fix.specs.Encoding.{field_text, fields_text, message_of, fields_of_message, fault_of, is_body_tag, begins_with_type, is_empty, has_soh}
use Rattle.gu_fix.proofs.Encodings.{length-message, whole_message}
use Rattle.gu_fix.specs.declared.error.EncodeError.TheVariants.{BadTag, EmptyValue, SohInValue, TooLong}

-- ---- the fields as parts

-- a field without its SOH
abbrev pub part_of : TagValue → List ℕ
part_of field = decimal field.tag ++ equals ∷ field.value

-- fields in order are their parts, each ended by SOH
pub joined_parts : (fields : List TagValue) → fields_text fields ≡ flat_map (λ part. part ++ soh ∷ []) (map part_of fields)
joined_parts [] = refl
joined_parts (f ∷ fs) = ap (λ (t : List ℕ). field_text f ++ t) (joined_parts fs)

-- a field that is read back as written
pub record IsSound (field : TagValue) : Type 0 where
  pub least : 0 < field.tag
  pub most : field.tag ≤ 999999999
  pub some : 0 < length field.value
  pub no_soh : NoSoh field.value

-- one more byte that isn't SOH
no_soh-cons : (c : ℕ) (cs : List ℕ) → (c ≡ soh → ⊥) → NoSoh cs → NoSoh (c ∷ cs)
no_soh-cons c cs other none zero lt e = other e
no_soh-cons c cs other none (suc k) lt e = none k (omega arith) e

-- the empty list contains no SOH
no_soh-nil : NoSoh []
no_soh-nil k lt e = omega (arith, lt)

-- nor do two lists without it
no_soh-append : (a b : List ℕ) → NoSoh a → NoSoh b → NoSoh (a ++ b)
no_soh-append [] b p q = q
no_soh-append (c ∷ cs) b p q = no_soh-cons c (cs ++ b) (p zero (omega arith)) (no_soh-append cs b (λ k lt. p (suc k) (omega arith)) q)

-- nor do digits
no_soh-decimal : (n : ℕ) → n < 2 ^ 64 → NoSoh (decimal n)
no_soh-decimal n small k lt e =
    let digit = digit_at (decimal n) k (decimal_is_IsNumeral n small).0.1 lt in
    omega (arith, digit.0, e)

-- nor does a field that is read back as written
no_soh-part : (f : TagValue) → IsSound f → NoSoh (part_of f)
no_soh-part f is =
    no_soh-append (decimal f.tag) (equals ∷ f.value) (no_soh-decimal f.tag (omega (arith, is.most))) (no_soh-cons equals f.value (λ e. omega (arith, e)) is.no_soh)

-- it is read as that field
is_field-part : (f : TagValue) → IsSound f → IsField f (part_of f)
is_field-part f is =
    let numeral = decimal_is_IsNumeral f.tag (omega (arith, is.most)) in
    let first = first_decimal f.tag is.least (omega (arith, is.most)) in
    let is_tag : IsTag (decimal f.tag) f.tag = record {
      some = numeral.0.0;
      most = length-decimal-le 9 f.tag (omega arith) (omega (arith, is.most)) (omega (arith, is.most));
      first = λ e. omega (arith, e, first);
      all = numeral.0.1;
      value = numeral.1;
    } in
    record { has_tag = record { text = decimal f.tag; is_tag = is_tag; parts = refl }; some = is.some }

-- fields that are read back as written
abbrev pub AreSound : List TagValue → Type 0
AreSound fields = AllByRecursion IsSound fields

-- none of their parts contains SOH
no_soh-parts : (fields : List TagValue) → AreSound fields → AllByRecursion NoSoh (map part_of fields)
no_soh-parts [] are = tt
no_soh-parts (f ∷ fs) are = (no_soh-part f are.0, no_soh-parts fs are.1)

-- their parts are read as they are
read_parts : (fields : List TagValue) → AreSound fields → ReadAs (map (λ f. Ok f) fields) (map part_of fields)
read_parts [] are = tt
read_parts (f ∷ fs) are = (is_field-part f are.0, read_parts fs are.1)

-- all of them are among the fields read
fields_among-ok : (fields : List TagValue) → fields ≡ fields_among (map (λ f. Ok f) fields)
fields_among-ok [] = refl
fields_among-ok (f ∷ fs) = ap (λ (t : List TagValue). f ∷ t) (fields_among-ok fs)

-- and none is a fault
first_fault-ok : (fields : List TagValue) → None ≡ first_fault (map (λ f. Ok f) fields)
first_fault-ok [] = refl
first_fault-ok (f ∷ fs) = first_fault-ok fs

-- the text of sound fields has those fields
pub fields_read_back : (fields : List TagValue) → AreSound fields → HasFields (fields_text fields) fields None
fields_read_back fields are = record {
  parts = map part_of fields;
  reads = map (λ f. Ok f) fields;
  are_parts = record { whole = joined_parts fields; each = no_soh-parts fields are };
  read_as = read_parts fields are;
  fields_are = fields_among-ok fields;
  fault_is = first_fault-ok fields;
}

-- ---- the message as fields

-- the opening is the text of BeginString, and `9=`
begin_string_text : opening ≡ field_text (tag_value 8 (codes "FIXT.1.1")) ++ codes "9="
unfolding digits opening
begin_string_text = refl

-- `9=`, digits and SOH are the text of BodyLength
body_length_text : (text : List ℕ) → codes "9=" ++ text ++ soh ∷ [] ≡ field_text (tag_value 9 text)
unfolding digits
body_length_text text = refl

-- the trailer is the text of CheckSum
check_sum_text : (n : ℕ) → trailer_of n ≡ field_text (tag_value 10 (three_digits n))
unfolding digits trailer_of
check_sum_text n = refl

-- the parts of a message, grouped by fields
regrouped : (first nine text body last : List ℕ) → ((first ++ nine) ++ text ++ soh ∷ body) ++ last ≡ first ++ ((nine ++ text ++ soh ∷ []) ++ (body ++ (last ++ [])))
regrouped first nine text body last = simp (append_assoc, append-nil)

-- the message of fields is the text of its fields
message_as_fields : (fs : List TagValue) → message_of fs ≡ fields_text (fields_of_message fs)
message_as_fields fs =
    let body = fields_text fs in
    let text = decimal (length body) in
    let check_sum = three_digits (sum (front_of text body) % 256) in
    let first = field_text (tag_value 8 (codes "FIXT.1.1")) in
    let last = field_text (tag_value 10 check_sum) in
    ap (λ (t : List ℕ). front_of text body ++ t) (check_sum_text (sum (front_of text body) % 256))
    ∙ ap (λ (t : List ℕ). (t ++ text ++ soh ∷ body) ++ last) begin_string_text
    ∙ regrouped first (codes "9=") text body last
    ∙ ap (λ (t : List ℕ). first ++ (t ++ (body ++ (last ++ [])))) (body_length_text text)
    ∙ ap (λ (t : List ℕ). first ++ (field_text (tag_value 9 text) ++ t)) (sym (flat_map-append field_text fs (tag_value 10 check_sum ∷ [])))

-- ---- fields without a fault

-- if there is no fault, none of the four tests found one
no_fault_parts : (a b c d : Bool) → (if not a then Some BadTag else (if b then Some EmptyValue else (if c then Some SohInValue else (if d then Some TooLong else None)))) ≡ None → (a ≡ true) × (b ≡ false) × (c ≡ false) × (d ≡ false)
no_fault_parts false b c d e = absurd cc
no_fault_parts true true c d e = absurd cc
no_fault_parts true false true d e = absurd cc
no_fault_parts true false false true e = absurd cc
no_fault_parts true false false false e = (refl, refl, refl, refl)

-- a value without SOH, from the test for it
no_soh_from : (value : List ℕ) → has_soh value ≡ false → NoSoh value
no_soh_from [] h = no_soh-nil
no_soh_from (c ∷ cs) h =
    let parts = or_parts (c == soh) (has_soh cs) h in
    no_soh-cons c cs (λ e. (let found = eq-eqb c soh e in cc (found, parts.0))) (no_soh_from cs parts.1)

-- a non-empty value, from the test for it
some_from : (value : List ℕ) → is_empty value ≡ false → 0 < length value
some_from [] h = absurd cc
some_from (c ∷ cs) h = omega arith

-- the range of a tag, from the test for it
body_tag_from : (tag : ℕ) → is_body_tag tag ≡ true → (0 < tag) × (tag ≤ 999999999)
body_tag_from zero h = absurd cc
body_tag_from (suc n) h = (omega arith, leb-true (suc n) 999999999 (and_parts _ _ h).1)

-- fields that pass the tests are read back as written
sound_from : (fs : List TagValue) → list_all (λ f. is_body_tag f.tag) fs ≡ true → list_any (λ f. is_empty f.value) fs ≡ false → list_any (λ f. has_soh f.value) fs ≡ false → AreSound fs
sound_from [] tags some no_soh = tt
sound_from (f ∷ fs) tags some no_soh =
    let tag = and_parts _ _ tags in
    let value = or_parts _ _ some in
    let bytes = or_parts _ _ no_soh in
    let range = body_tag_from f.tag tag.0 in
    (record { least = range.0; most = range.1; some = some_from f.value value.0; no_soh = no_soh_from f.value bytes.0 }, sound_from fs tag.1 value.1 bytes.1)

-- one more field at the end
are_sound-push : (fs : List TagValue) (f : TagValue) → AreSound fs → IsSound f → AreSound (fs ++ f ∷ [])
are_sound-push [] f are is = (is, tt)
are_sound-push (g ∷ gs) f are is = (are.0, are_sound-push gs f are.1 is)

-- ---- the law

-- BeginString is read back
begin_string_sound : IsSound (tag_value 8 (codes "FIXT.1.1"))
begin_string_sound = record { least = omega arith; most = omega arith; some = omega arith; no_soh = no_soh_from (codes "FIXT.1.1") refl }

-- so is BodyLength
body_length_sound : (n : ℕ) → n ≤ 65536 → IsSound (tag_value 9 (decimal n))
body_length_sound n few = record { least = omega arith; most = omega arith; some = (decimal_is_IsNumeral n (omega arith)).0.0; no_soh = no_soh-decimal n (omega arith) }

-- so is CheckSum
check_sum_sound : (n : ℕ) → IsSound (tag_value 10 (three_digits n))
check_sum_sound n =
    let last = (48 + n % 10) ∷ [] in
    let one = no_soh-cons (48 + n % 10) [] (λ e. omega (arith, e)) no_soh-nil in
    let two = no_soh-cons (48 + n / 10 % 10) last (λ e. omega (arith, e)) one in
    record {
      least = omega arith;
      most = omega arith;
      some = omega arith;
      no_soh = no_soh-cons (48 + n / 100) ((48 + n / 10 % 10) ∷ last) (λ e. omega (arith, e)) two;
    }

-- the fields of an encoded message are those given, after BeginString and BodyLength and before CheckSum
pub read_back : (fields : List TagValue) → fault_of fields ≡ None → HasFields (message_of fields) (fields_of_message fields) None
unfolding fault_of
read_back fields sound =
    let typed = begins_with_type fields in
    let tags = list_all (λ f. is_body_tag f.tag) fields in
    let parts = no_fault_parts (typed && tags) (list_any (λ f. is_empty f.value) fields) (list_any (λ f. has_soh f.value) fields) (nat_lt 65536 (length (message_of fields))) sound in
    let given : AreSound fields = sound_from fields (and_parts typed tags parts.0).1 parts.1 parts.2 in
    let few : length (message_of fields) ≤ 65536 = ltb-false 65536 (length (message_of fields)) parts.3 in
    let body = fields_text fields in
    let check_sum = sum (front_of (decimal (length body)) body) % 256 in
    let are : AreSound (fields_of_message fields) = (
      begin_string_sound,
      (
        body_length_sound (length body) (omega (arith, few, length-message fields)),
        are_sound-push fields (tag_value 10 (three_digits check_sum)) given (check_sum_sound check_sum),
      ),
    ) in
    subst (λ (t : List ℕ). HasFields t (fields_of_message fields) None) (sym (message_as_fields fields)) (fields_read_back (fields_of_message fields) are)

-- and that message is whole
pub message_is_whole : (fields : List TagValue) → fault_of fields ≡ None → IsWhole (message_of fields)
unfolding fault_of
message_is_whole fields sound =
    let typed = begins_with_type fields in
    let tags = list_all (λ f. is_body_tag f.tag) fields in
    let parts = no_fault_parts (typed && tags) (list_any (λ f. is_empty f.value) fields) (list_any (λ f. has_soh f.value) fields) (nat_lt 65536 (length (message_of fields))) sound in
    whole_message fields (and_parts typed tags parts.0).0 (ltb-false 65536 (length (message_of fields)) parts.3)
