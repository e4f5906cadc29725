-- The steps of the reader of fields: what was read so far, together with the rest.
use Rattle.std.proofs.Common.{◌≡◌, ℕ, ◌-◌, ◌<◌, ◌≤◌, List, [], ◌∷◌, ◌++◌, length, drop, get_or, Option, None, Some, Ok, Err, refl, sym, ap, subst, ◌∙◌, append_assoc, arith}
use Rattle.std.specs.Prelude.{codes, sum, ◌%◌, is_some, if◌then◌else◌}
use Rattle.std.specs.List.{flat_map}
use Rattle.std.proofs.lemmas.List.{append-nil, length-append, get_or_at, get_or-drop, length-drop}
use Rattle.gu_fix.specs.WholeMessage.{soh, opening, front_of, body_of, trailer_of, trailer_after, three_digits, IsWhole}
use Rattle.gu_fix.proofs.Bodies.{length-body}
use Rattle.gu_fix.proofs.WholeLemmas.{length-opening}
use Rattle.gu_fix.specs.TagValue.{TagValue}
use Rattle.gu_fix.specs.Fields.{NoSoh, IsField, IsFault, HasFields}
use Rattle.gu_fix.specs.declared.error.FieldFault.{FieldFault}

-- the first of two faults
abbrev pub earlier_of : Option FieldFault → Option FieldFault → Option FieldFault
earlier_of fault other = if is_some fault then fault else other

-- Whatever the rest reads as, the bytes read as these fields and those of the rest, and their first fault is this one or else that of the
-- rest.
abbrev pub ReadsOn : List ℕ → List ℕ → List TagValue → Option FieldFault → Type 0
ReadsOn bytes rest fields fault =
    (later : List TagValue) (other : Option FieldFault) → HasFields rest later other → HasFields bytes (fields ++ later) (earlier_of fault other)

-- before the first part
pub nothing_read : (bytes : List ℕ) → ReadsOn bytes bytes [] None
nothing_read bytes later other h = h

-- a part and its SOH before others
part_in_front : (part after : List ℕ) (parts : List (List ℕ)) → after ≡ flat_map (λ p. p ++ soh ∷ []) parts → part ++ soh ∷ after ≡ flat_map (λ p. p ++ soh ∷ []) (part ∷ parts)
part_in_front part after parts e = ap (λ (t : List ℕ). part ++ soh ∷ t) e ∙ sym (append_assoc part (soh ∷ []) (flat_map (λ (p : List ℕ). p ++ soh ∷ []) parts))

-- a field before others
field_in_front : (part after : List ℕ) (field : TagValue) (fields : List TagValue) (fault : Option FieldFault) → NoSoh part → IsField field part → HasFields after fields fault
    → HasFields (part ++ soh ∷ after) (field ∷ fields) fault
field_in_front part after field fields fault none is h = record {
  parts = part ∷ h.parts;
  reads = Ok field ∷ h.reads;
  are_parts = record { whole = part_in_front part after h.parts h.are_parts.whole; each = (none, h.are_parts.each) };
  read_as = (is, h.read_as);
  fields_are = ap (λ (t : List TagValue). field ∷ t) h.fields_are;
  fault_is = h.fault_is;
}

-- a fault before others
fault_in_front : (part after : List ℕ) (found : FieldFault) (fields : List TagValue) (fault : Option FieldFault) → NoSoh part → IsFault found part → HasFields after fields fault
    → HasFields (part ++ soh ∷ after) fields (Some found)
fault_in_front part after found fields fault none is h = record {
  parts = part ∷ h.parts;
  reads = Err found ∷ h.reads;
  are_parts = record { whole = part_in_front part after h.parts h.are_parts.whole; each = (none, h.are_parts.each) };
  read_as = (is, h.read_as);
  fields_are = h.fields_are;
  fault_is = refl;
}

-- a part that is a field was read
pub field_read : (bytes rest part after : List ℕ) (fields : List TagValue) (fault : Option FieldFault) (field : TagValue) → ReadsOn bytes rest fields fault → rest ≡ part ++ soh ∷ after → NoSoh part → IsField field part
    → ReadsOn bytes after (fields ++ field ∷ []) fault
field_read bytes rest part after fields fault field so_far e none is later other h =
    let next = subst (λ (t : List ℕ). HasFields t (field ∷ later) other) (sym e) (field_in_front part after field later other none is h) in
    subst (λ (t : List TagValue). HasFields bytes t (earlier_of fault other)) (sym (append_assoc fields (field ∷ []) later)) (so_far (field ∷ later) other next)

-- a fault after the first isn't reported
earlier_of-earlier_of : (fault other : Option FieldFault) (found : FieldFault) → earlier_of (earlier_of fault (Some found)) other ≡ earlier_of fault (Some found)
earlier_of-earlier_of None other found = refl
earlier_of-earlier_of (Some first) other found = refl

-- a part that is a fault was read
pub fault_read : (bytes rest part after : List ℕ) (fields : List TagValue) (fault : Option FieldFault) (found : FieldFault) → ReadsOn bytes rest fields fault → rest ≡ part ++ soh ∷ after → NoSoh part → IsFault found part
    → ReadsOn bytes after fields (earlier_of fault (Some found))
fault_read bytes rest part after fields fault found so_far e none is later other h =
    let next = subst (λ (t : List ℕ). HasFields t later (Some found)) (sym e) (fault_in_front part after found later other none is h) in
    subst (HasFields bytes (fields ++ later)) (sym (earlier_of-earlier_of fault other found)) (so_far later (Some found) next)

-- the empty text has no fields
no_fields : HasFields [] [] None
no_fields = record { parts = []; reads = []; are_parts = record { whole = refl; each = tt }; read_as = tt; fields_are = refl; fault_is = refl }

-- a single fault is the first
earlier_of-none : (fault : Option FieldFault) → earlier_of fault None ≡ fault
earlier_of-none None = refl
earlier_of-none (Some found) = refl

-- nothing is left
all_read : (bytes : List ℕ) (fields : List TagValue) (fault : Option FieldFault) → ReadsOn bytes [] fields fault → HasFields bytes fields fault
all_read bytes fields fault so_far =
    subst (HasFields bytes fields) (earlier_of-none fault) (subst (λ (t : List TagValue). HasFields bytes t (earlier_of fault None)) (append-nil fields) (so_far [] None no_fields))

-- ---- the end

-- the last byte, if there is one, is SOH
pub record EndsWithSoh (bytes : List ℕ) : Type 0 where
  pub last : 0 < length bytes → get_or bytes (length bytes - 1) 0 ≡ soh

-- a message ends with SOH
pub whole_ends : (message : List ℕ) → IsWhole message → EndsWithSoh message
unfolding trailer_of
whole_ends message whole =
    let front = front_of whole.digits (body_of whole.inner) in
    let before = front ++ (codes "10=" ++ three_digits (sum front % 256)) in
    let e : message ≡ before ++ soh ∷ [] = whole.spelled ∙ sym (append_assoc front (codes "10=" ++ three_digits (sum front % 256)) (soh ∷ [])) in
    let long = ap length e in
    let at : length before ≡ length message - 1 = omega (arith, long, length-append before (soh ∷ [])) in
    record { last = λ some. ap (λ (t : List ℕ). get_or t (length message - 1) 0) e ∙ get_or_at before soh [] 0 (length message - 1) at }

-- and isn't short
pub whole_long : (message : List ℕ) → IsWhole message → 16 ≤ length message
whole_long message whole =
    let body = body_of whole.inner in
    let front = front_of whole.digits body in
    omega (
      arith,
      ap length whole.spelled,
      length-append front (trailer_after front),
      length-append (opening ++ whole.digits) (soh ∷ body),
      length-append opening whole.digits,
      length-opening,
      length-body whole.inner,
    )

-- so does what is left of it
pub ends-drop : (bytes : List ℕ) (n : ℕ) → EndsWithSoh bytes → EndsWithSoh (drop n bytes)
ends-drop bytes n ends = record {
  last = λ some. (
      let left = length-drop n bytes in
      get_or-drop n bytes (length (drop n bytes) - 1) 0 ∙ ap (λ k. get_or bytes k 0) (omega (arith, left, some)) ∙ ends.last (omega (arith, left, some))
      );
}

-- if no SOH is left, nothing is
nothing_left : (rest : List ℕ) → EndsWithSoh rest → NoSoh rest → rest ≡ []
nothing_left [] ends none = refl
nothing_left (b ∷ bs) ends none = absurd (none (length (b ∷ bs) - 1) (omega arith) (ends.last (omega arith)))

-- all parts were read
pub all_fields : (bytes rest : List ℕ) (fields : List TagValue) (fault : Option FieldFault) → ReadsOn bytes rest fields fault → EndsWithSoh rest → NoSoh rest → HasFields bytes fields fault
all_fields bytes rest fields fault so_far ends none = all_read bytes fields fault (subst (λ (t : List ℕ). ReadsOn bytes t fields fault) (nothing_left rest ends none) so_far)
