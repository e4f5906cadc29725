-- Bytes read as fields in at most one way.
use Rattle.std.proofs.Common.{◌≡◌, ℕ, zero, suc, ◌<◌, List, [], ◌∷◌, ◌++◌, length, get_or, Option, Result, Ok, Err, refl, sym, ap, subst, ◌∙◌, append_assoc, arith, inl, inr}
use Rattle.std.specs.List.{flat_map, AllByRecursion}
use Rattle.std.specs.Str.Parse.{AllDigits, digits_value}
use Rattle.std.proofs.lemmas.List.{length-append}
use Rattle.std.proofs.lemmas.Str.Parse.{digit_at}
use Rattle.gu_fix.specs.WholeMessage.{soh}
use Rattle.gu_fix.specs.TagValue.{TagValue, tag_value}
use Rattle.gu_fix.specs.Fields.{equals, NoSoh, HasTag, IsField, IsFault, ReadsAs, ReadAs, fields_among, first_fault, HasFields}
use Rattle.gu_fix.specs.declared.error.FieldFault.{FieldFault}
use Rattle.gu_fix.specs.declared.error.SessionRejectReason.{SessionRejectReason}

-- none of these bytes is that one
abbrev pub Lacks : ℕ → List ℕ → Type 0
Lacks byte bytes = (k : ℕ) → k < length bytes → get_or bytes k 0 ≡ byte → ⊥

-- a property of bytes is one of those after the first
lacks_after : (byte c : ℕ) (cs : List ℕ) → Lacks byte (c ∷ cs) → Lacks byte cs
lacks_after byte c cs none k lt e = none (suc k) (omega arith) e

-- the bytes before the first such byte, and those after it
pub first_ends : (byte : ℕ) (a b x y : List ℕ) → Lacks byte a → Lacks byte b → a ++ byte ∷ x ≡ b ++ byte ∷ y → (a ≡ b) × (x ≡ y)
first_ends byte [] [] x y p q e = (refl, cc)
first_ends byte [] (c ∷ cs) x y p q e = absurd (q zero (omega arith) cc)
first_ends byte (c ∷ cs) [] x y p q e = absurd (p zero (omega arith) cc)
first_ends byte (c ∷ cs) (d ∷ ds) x y p q e =
    let tails : cs ++ byte ∷ x ≡ ds ++ byte ∷ y = cc in
    let heads : c ≡ d = cc in
    let others = first_ends byte cs ds x y (lacks_after byte c cs p) (lacks_after byte d ds q) tails in
    (cc, others.1)

-- ---- parts

-- bytes determine the parts that SOH ends
pub one_list_of_parts : (ps qs : List (List ℕ)) → AllByRecursion NoSoh ps → AllByRecursion NoSoh qs → flat_map (λ part. part ++ soh ∷ []) ps ≡ flat_map (λ part. part ++ soh ∷ []) qs → ps ≡ qs
one_list_of_parts [] [] each other e = refl
one_list_of_parts [] (q ∷ qs) each other e = absurd (omega (arith, ap length e, length-append (q ++ soh ∷ []) (flat_map (λ (part : List ℕ). part ++ soh ∷ []) qs), length-append q (soh ∷ [])))
one_list_of_parts (p ∷ ps) [] each other e = absurd (omega (arith, ap length e, length-append (p ++ soh ∷ []) (flat_map (λ (part : List ℕ). part ++ soh ∷ []) ps), length-append p (soh ∷ [])))
one_list_of_parts (p ∷ ps) (q ∷ qs) each other e =
    let xs = flat_map (λ (part : List ℕ). part ++ soh ∷ []) ps in
    let ys = flat_map (λ (part : List ℕ). part ++ soh ∷ []) qs in
    let split : p ++ soh ∷ xs ≡ q ++ soh ∷ ys = sym (append_assoc p (soh ∷ []) xs) ∙ e ∙ append_assoc q (soh ∷ []) ys in
    let first = first_ends soh p q xs ys each.0 other.0 split in
    let others = one_list_of_parts ps qs each.1 other.1 first.1 in
    let heads : p ≡ q = first.0 in
    cc

-- ---- a part

-- a tag's text has no `=`
no_equals : (text : List ℕ) → AllDigits 10 text → Lacks equals text
no_equals text all k lt e =
    let digit = digit_at text k all lt in
    omega (arith, digit.1, e)

-- a part has at most one tag and one value
pub one_tag : (part : List ℕ) (t u : ℕ) (v w : List ℕ) → HasTag part t v → HasTag part u w → (t ≡ u) × (v ≡ w)
one_tag part t u v w p q =
    let ends = first_ends equals p.text q.text v w (no_equals p.text p.is_tag.all) (no_equals q.text q.is_tag.all) (sym p.parts ∙ q.parts) in
    (sym p.is_tag.value ∙ ap (digits_value 10) ends.0 ∙ q.is_tag.value, ends.1)

-- fields with the same tag and value are equal
same_field : (f g : TagValue) → f.tag ≡ g.tag → f.value ≡ g.value → f ≡ g
same_field f g tags values = ap (λ (n : ℕ). tag_value n f.value) tags ∙ ap (λ (t : List ℕ). tag_value g.tag t) values

-- the fault with this tag and this reason
abbrev fault_at : ℕ → SessionRejectReason → FieldFault
fault_at tag reason = record { tag = tag; reason = reason }

-- faults with the same tag and reason are equal
same_fault : (f g : FieldFault) → f.tag ≡ g.tag → f.reason ≡ g.reason → f ≡ g
same_fault f g tags reasons = ap (λ (n : ℕ). fault_at n f.reason) tags ∙ ap (λ (r : SessionRejectReason). fault_at g.tag r) reasons

-- no part is both a field and a fault
no_field_and_fault : (part : List ℕ) (f : TagValue) (g : FieldFault) → IsField f part → IsFault g part → ⊥
no_field_and_fault part f g is (inl (reason, tag)) =
    let same = one_tag part f.tag g.tag f.value [] is.has_tag tag in
    let some : 0 < length f.value = is.some in
    omega (arith, ap length same.1)
no_field_and_fault part f g is (inr (reason, tag, none)) = none f.tag f.value is.has_tag

-- a part is at most one fault
one_fault : (part : List ℕ) (f g : FieldFault) → IsFault f part → IsFault g part → f ≡ g
one_fault part f g (inl (r, t)) (inl (s, u)) = same_fault f g (one_tag part f.tag g.tag [] [] t u).0 (r ∙ sym s)
one_fault part f g (inl (r, t)) (inr (s, u, none)) = absurd (none f.tag [] t)
one_fault part f g (inr (r, t, none)) (inl (s, u)) = absurd (none g.tag [] u)
one_fault part f g (inr (r, t, none)) (inr (s, u, other)) = same_fault f g (t ∙ sym u) (r ∙ sym s)

-- a part reads in at most one way
one_read : (part : List ℕ) (r s : Result TagValue FieldFault) → ReadsAs r part → ReadsAs s part → r ≡ s
one_read part (Ok f) (Ok g) p q =
    let same = one_tag part f.tag g.tag f.value g.value p.has_tag q.has_tag in
    let fields = same_field f g same.0 same.1 in
    cc
one_read part (Ok f) (Err g) p q = absurd (no_field_and_fault part f g p q)
one_read part (Err f) (Ok g) p q = absurd (no_field_and_fault part g f q p)
one_read part (Err f) (Err g) p q =
    let faults = one_fault part f g p q in
    cc

-- parts read in at most one way each
one_list_of_reads : (rs ss : List (Result TagValue FieldFault)) (parts : List (List ℕ)) → ReadAs rs parts → ReadAs ss parts → rs ≡ ss
one_list_of_reads [] [] parts p q = refl
one_list_of_reads [] (s ∷ ss) [] p q = absurd q
one_list_of_reads [] (s ∷ ss) (part ∷ parts) p q = absurd p
one_list_of_reads (r ∷ rs) [] [] p q = absurd p
one_list_of_reads (r ∷ rs) [] (part ∷ parts) p q = absurd q
one_list_of_reads (r ∷ rs) (s ∷ ss) [] p q = absurd p
one_list_of_reads (r ∷ rs) (s ∷ ss) (part ∷ parts) p q =
    let heads = one_read part r s p.0 q.0 in
    let tails = one_list_of_reads rs ss parts p.1 q.1 in
    cc

-- ---- all of the bytes

-- bytes have at most one list of fields and one first fault
pub one_reading : (bytes : List ℕ) (fields others : List TagValue) (fault other : Option FieldFault) → HasFields bytes fields fault → HasFields bytes others other → (fields ≡ others) × (fault ≡ other)
one_reading bytes fields others fault other p q =
    let parts : p.parts ≡ q.parts = one_list_of_parts p.parts q.parts p.are_parts.each q.are_parts.each (sym p.are_parts.whole ∙ q.are_parts.whole) in
    let reads : p.reads ≡ q.reads = one_list_of_reads p.reads q.reads q.parts (subst (ReadAs p.reads) parts p.read_as) q.read_as in (
      p.fields_are ∙ ap fields_among reads ∙ sym q.fields_are,
      p.fault_is ∙ ap first_fault reads ∙ sym q.fault_is,
    )
