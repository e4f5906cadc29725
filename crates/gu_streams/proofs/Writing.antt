-- A text written in parts.
use Rattle.std.proofs.Common.{◌≡◌, ℕ, ◌+◌, List, [], ◌++◌, take, drop, Option, None, Some, Result, Ok, Err, refl, sym, ap, subst, ◌∙◌, append_assoc}
use Rattle.std.specs.Prelude.{IsErrAnd, OnOk, OnErr}
use Rattle.std.specs.Io.KnownBytes.{Appends, Keeps}
use Rattle.std.proofs.KnownBytes.{Appends-trans, Appends-nil, Appends-kept}
use Rattle.std.proofs.lemmas.List.{take-append-drop, append-nil}
use Rattle.std.proofs.Math.Seq.{take-add}
use Rattle.gu_streams.specs.Written.{WrotePart}

-- a property that holds in any case holds after an error
pub on_err_from : {T E P : Type 0} (r : Result T E) → P → OnErr r P
on_err_from (Ok x) h = tt
on_err_from (Err e) h = h

-- the consequence of a success
pub on_ok_then : {T E P Q : Type 0} (r : Result T E) → (P → Q) → OnOk r P → OnOk r Q
on_ok_then (Ok x) f h = f h
on_ok_then (Err e) f h = tt

-- the consequence of two properties of a success
pub on_ok_both : {T E P Q R : Type 0} (r : Result T E) → (P → Q → R) → OnOk r P → OnOk r Q → OnOk r R
on_ok_both (Ok x) f h j = f h j
on_ok_both (Err e) f h j = tt

-- the consequence of success and of an error alike
pub either_way : {T E P Q R : Type 0} (r : Result T E) → (P → R) → (Q → R) → OnOk r P → OnErr r Q → R
either_way (Ok x) f k h j = f h
either_way (Err e) f k h j = k j

-- an error that is passed on is the one returned
pub error_passed : {T E : Type 0} (result : Result T E) (passed error : E) → IsErrAnd result (λ e. e ≡ passed) → result ≡ Err error → passed ≡ error
error_passed (Ok x) passed error h is = cc
error_passed (Err e) passed error h is = let same : e ≡ error = cc in sym h ∙ same

-- nothing of a text was written yet
pub wrote_none : (text : List ℕ) (a : Option (List ℕ)) → WrotePart text a a
wrote_none text a = record { written = []; appended = Appends-nil a; prefix = record { rest = text; parts = refl } }

-- one more part
pub sent_more : (text : List ℕ) (at n : ℕ) (a b c : Option (List ℕ)) → Appends a b (take at text) → Appends b c (take n (drop at text)) → Appends a c (take (at + n) text)
sent_more text at n a b c p q = subst (Appends a c) (sym (take-add at n text)) (Appends-trans a b c _ _ p q)

-- no further part
pub sent_part : (text : List ℕ) (at : ℕ) (a b c : Option (List ℕ)) → Appends a b (take at text) → Keeps b c → WrotePart text a c
sent_part text at a b c p q = record { written = take at text; appended = Appends-kept a b c (take at text) p q; prefix = record { rest = drop at text; parts = sym (take-append-drop at text) } }

keeps_from_nil : (b c : Option (List ℕ)) → Appends b c [] → Keeps b c
keeps_from_nil None c h = tt
keeps_from_nil (Some x) None h = h
keeps_from_nil (Some x) (Some y) h = h ∙ append-nil x

-- a write of no bytes keeps what was written
pub keeps_from_zero : (b c : Option (List ℕ)) (n : ℕ) (xs : List ℕ) → n ≡ 0 → Appends b c (take n xs) → Keeps b c
keeps_from_zero b c n xs e h = keeps_from_nil b c (subst (λ k. Appends b c (take k xs)) e h)

-- all of a text is a prefix of it
pub wrote_all : (text : List ℕ) (a b : Option (List ℕ)) → Appends a b text → WrotePart text a b
wrote_all text a b sent = record { written = text; appended = sent; prefix = record { rest = []; parts = sym (append-nil text) } }

-- a text is written, and then a prefix of the next
pub wrote_then : (text next : List ℕ) (a b c : Option (List ℕ)) → Appends a b text → WrotePart next b c → WrotePart (text ++ next) a c
wrote_then text next a b c sent part = record {
  written = text ++ part.written;
  appended = Appends-trans a b c text part.written sent part.appended;
  prefix = record { rest = part.prefix.rest; parts = ap (λ (t : List ℕ). text ++ t) part.prefix.parts ∙ sym (append_assoc text part.written part.prefix.rest) };
}

-- the consequence of an error
pub on_err_then : {T E P Q : Type 0} (r : Result T E) → (P → Q) → OnErr r P → OnErr r Q
on_err_then (Ok x) f h = tt
on_err_then (Err e) f h = f h
