-- What is at a position, depending on how far its bytes were read.
use Rattle.std.proofs.Common.{◌≡◌, ℕ, ◌+◌, ◌-◌, ◌<◌, ◌≤◌, ◌%◌, List, [], ◌∷◌, ◌++◌, length, take, drop, refl, sym, ap, subst, ◌∙◌, append_assoc, arith, sum}
use Rattle.std.proofs.lemmas.List.{length-append, drop_at, take_at, append-nil}
use Rattle.std.specs.Prelude.{replicate}
use Rattle.std.proofs.lemmas.List.{length-replicate}
use Rattle.std.specs.Str.Parse.{digits_value}
use Rattle.gu_fix.specs.WholeMessage.{soh, opening, body_of, trailer_after, front_of, IsWhole}
use Rattle.gu_fix.specs.Stream.{IsOpen, IsGarbled}
use Rattle.gu_fix.specs.Places.{IsLength}
use Rattle.gu_fix.proofs.Lists.{same_fronts}
use Rattle.gu_fix.proofs.WholeLemmas.{spelling, spelling_parts, length-opening, length-trailer, length-spelling, digits_end, garbled_from}
use Rattle.gu_fix.proofs.Bodies.{length-body}

-- ---- messages and their parts

-- digits and a body of that length make a whole message
whole_from : (digits inner : List ℕ) → IsLength digits (length (body_of inner)) → IsWhole (spelling digits (body_of inner))
whole_from digits inner len =
    record { digits = digits; inner = inner; counted = len.text; spelled = refl; most = omega (arith, len.most, length-spelling digits (body_of inner)) }

-- bytes before the end of such a message are open
open_from : (bytes digits inner more : List ℕ) → IsLength digits (length (body_of inner)) → bytes ++ more ≡ spelling digits (body_of inner) → 0 < length more → IsOpen bytes
open_from bytes digits inner more len e some = record { more = more; some = some; is_whole = subst IsWhole (sym e) (whole_from digits inner len) }

-- the length of a whole message is one that a message can have
length_of : (m : List ℕ) (w : IsWhole m) → IsLength w.digits (length (body_of w.inner))
length_of m w = record {
  text = w.counted;
  least = omega (arith, length-body w.inner);
  most = omega (arith, w.most, ap length w.spelled, length-spelling w.digits (body_of w.inner));
}

-- the bytes after the opening
abbrev behind : List ℕ → List ℕ → List ℕ → List ℕ
behind digits body rest = digits ++ soh ∷ (body ++ (trailer_after (front_of digits body) ++ rest))

-- a whole message and what follows it, part by part
whole_parts : (m rest : List ℕ) (w : IsWhole m) → m ++ rest ≡ opening ++ behind w.digits (body_of w.inner) rest
whole_parts m rest w = ap (λ (t : List ℕ). t ++ rest) w.spelled ∙ spelling_parts w.digits (body_of w.inner) rest

-- ---- within the opening

-- bytes that end within the opening are open
pub open_in_opening : (bytes rest : List ℕ) → 0 < length rest → bytes ++ rest ≡ opening → IsOpen bytes
open_in_opening bytes rest some e =
    let tail = behind (52 ∷ []) (body_of []) [] in
    let four : IsLength (52 ∷ []) (length (body_of [])) = record {
      text = record { some = omega arith; most = omega arith; all = (omega arith, tt); value = omega (arith, length-body []) };
      least = omega (arith, length-body []);
      most = omega (arith, length-body []);
    } in
    open_from bytes (52 ∷ []) [] (rest ++ tail) four
    (sym (append_assoc bytes rest tail) ∙ ap (λ (t : List ℕ). t ++ tail) e ∙ sym (spelling_parts (52 ∷ []) (body_of []) []) ∙ append-nil _)
    (omega (arith, length-append rest tail))

-- bytes that can't begin with the opening are garbled
pub garbled_in_opening : (bytes : List ℕ) → ((more rest : List ℕ) → bytes ++ more ≡ opening ++ rest → ⊥) → IsGarbled bytes
garbled_in_opening bytes apart = garbled_from bytes (λ m more rest w e. apart more _ (e ∙ whole_parts m rest w))

-- ---- within the length

-- bytes that end within a length that a message can have are open
pub open_in_length : (bytes first more : List ℕ) (n : ℕ) → bytes ≡ opening ++ first → IsLength (first ++ more) n → IsOpen bytes
open_in_length bytes first more n e len =
    let inner = replicate (n - 4) 0 in
    let long : length (body_of inner) ≡ n = omega (arith, length-body inner, length-replicate {A = ℕ} (n - 4) 0, len.least) in
    let digits = first ++ more in
    let tail = soh ∷ (body_of inner ++ (trailer_after (front_of digits (body_of inner)) ++ [])) in
    let same : bytes ++ (more ++ tail) ≡ opening ++ behind digits (body_of inner) [] =
    ap (λ (t : List ℕ). t ++ (more ++ tail)) e ∙ append_assoc opening first (more ++ tail) ∙ ap (λ (t : List ℕ). opening ++ t) (sym (append_assoc first more tail)) in
    open_from bytes digits inner (more ++ tail) (subst (IsLength digits) (sym long) len)
    (same ∙ sym (spelling_parts digits (body_of inner) []) ∙ append-nil _)
    (omega (arith, length-append more tail))

-- bytes without such a length are garbled
pub garbled_in_length : (bytes first : List ℕ) → bytes ≡ opening ++ first
    → ((digits more rest : List ℕ) (n : ℕ) → IsLength digits n → first ++ more ≡ digits ++ soh ∷ rest → ⊥) → IsGarbled bytes
garbled_in_length bytes first e apart =
    garbled_from bytes (λ m more rest w f.
    let both : opening ++ (first ++ more) ≡ opening ++ behind w.digits (body_of w.inner) rest =
    sym (append_assoc opening first more) ∙ ap (λ (t : List ℕ). t ++ more) (sym e) ∙ f ∙ whole_parts m rest w in
    apart w.digits more _ _ (length_of m w) (same_fronts opening opening _ _ refl both).1)

-- ---- after the length

-- the bytes begin with the opening, these digits and SOH
pub record HeadRead (bytes digits : List ℕ) (len : ℕ) (rest : List ℕ) : Type 0 where
  pub is_length : IsLength digits len
  pub parts : bytes ≡ opening ++ (digits ++ soh ∷ rest)

-- a message there has these digits, and a body of that length
read_on : (bytes digits : List ℕ) (len : ℕ) (rest : List ℕ) → HeadRead bytes digits len rest → (m more x : List ℕ) (w : IsWhole m) → bytes ++ more ≡ m ++ x
    → (digits ≡ w.digits) × (length (body_of w.inner) ≡ len) × (rest ++ more ≡ body_of w.inner ++ (trailer_after (front_of w.digits (body_of w.inner)) ++ x))
read_on bytes digits len rest head m more x w e =
    let shown : opening ++ (digits ++ soh ∷ (rest ++ more)) ≡ bytes ++ more =
    ap (λ (t : List ℕ). opening ++ t) (sym (append_assoc digits (soh ∷ rest) more)) ∙ sym (append_assoc opening (digits ++ soh ∷ rest) more) ∙ ap (λ (t : List ℕ). t ++ more) (sym head.parts) in
    let after = (same_fronts opening opening _ _ refl (shown ∙ e ∙ whole_parts m x w)).1 in
    let ends = digits_end digits w.digits _ _ head.is_length.text.all w.counted.all after in
    (ends.0, sym w.counted.value ∙ ap (digits_value 10) (sym ends.0) ∙ head.is_length.text.value, ends.1)

-- bytes that end within the body are open
pub open_in_body : (bytes digits : List ℕ) (len : ℕ) (rest inner more : List ℕ) → HeadRead bytes digits len rest → length (body_of inner) ≡ len → rest ++ more ≡ body_of inner → IsOpen bytes
open_in_body bytes digits len rest inner more head long e =
    let tail = trailer_after (front_of digits (body_of inner)) ++ [] in
    let same : bytes ++ (more ++ tail) ≡ opening ++ behind digits (body_of inner) [] =
    ap (λ (t : List ℕ). t ++ (more ++ tail)) head.parts ∙ append_assoc opening (digits ++ soh ∷ rest) (more ++ tail)
    ∙ ap (λ (t : List ℕ). opening ++ t) (append_assoc digits (soh ∷ rest) (more ++ tail) ∙ ap (λ (t : List ℕ). digits ++ soh ∷ t) (sym (append_assoc rest more tail) ∙ ap (λ (t : List ℕ). t ++ tail) e)) in
    open_from bytes digits inner (more ++ tail) (subst (IsLength digits) (sym long) head.is_length)
    (same ∙ sym (spelling_parts digits (body_of inner) []) ∙ append-nil _)
    (omega (arith, length-append more tail, length-append (trailer_after (front_of digits (body_of inner))) [], length-trailer (sum (front_of digits (body_of inner)) % 256)))

-- bytes without a body of the stated length are garbled
pub garbled_in_body : (bytes digits : List ℕ) (len : ℕ) (rest : List ℕ) → HeadRead bytes digits len rest
    → ((inner more x : List ℕ) → length (body_of inner) ≡ len → rest ++ more ≡ body_of inner ++ x → ⊥) → IsGarbled bytes
garbled_in_body bytes digits len rest head apart =
    garbled_from bytes (λ m more x w e.
    let r = read_on bytes digits len rest head m more x w e in
    apart w.inner more _ r.1 r.2)

-- ---- within the trailer

pub record BodyRead (bytes digits inner after : List ℕ) : Type 0 where
  pub is_length : IsLength digits (length (body_of inner))
  pub parts : bytes ≡ front_of digits (body_of inner) ++ after

-- the bytes up to the end of the body
pub body_read : (bytes digits : List ℕ) (len : ℕ) (rest inner after : List ℕ) → HeadRead bytes digits len rest → length (body_of inner) ≡ len → rest ≡ body_of inner ++ after → BodyRead bytes digits inner after
body_read bytes digits len rest inner after head long e = record {
  is_length = subst (IsLength digits) (sym long) head.is_length;
  parts = head.parts ∙ ap (λ (t : List ℕ). opening ++ (digits ++ soh ∷ t)) e ∙ simp append_assoc;
}

-- with the right trailer there is a whole message
pub whole_in_trailer : (bytes digits inner after rest : List ℕ) → BodyRead bytes digits inner after → after ≡ trailer_after (front_of digits (body_of inner)) ++ rest
    → IsWhole (spelling digits (body_of inner)) × (bytes ≡ spelling digits (body_of inner) ++ rest)
whole_in_trailer bytes digits inner after rest read e = (
  whole_from digits inner read.is_length,
  read.parts ∙ ap (λ (t : List ℕ). front_of digits (body_of inner) ++ t) e ∙ sym (append_assoc (front_of digits (body_of inner)) (trailer_after (front_of digits (body_of inner))) rest),
)

-- bytes that end within the right trailer are open
pub open_in_trailer : (bytes digits inner after rest : List ℕ) → BodyRead bytes digits inner after → 0 < length rest → after ++ rest ≡ trailer_after (front_of digits (body_of inner)) → IsOpen bytes
open_in_trailer bytes digits inner after rest read some e =
    open_from bytes digits inner rest read.is_length
    (ap (λ (t : List ℕ). t ++ rest) read.parts ∙ append_assoc (front_of digits (body_of inner)) after rest ∙ ap (λ (t : List ℕ). front_of digits (body_of inner) ++ t) e) some

-- bytes with another trailer are garbled
pub garbled_in_trailer : (bytes digits inner after : List ℕ) → BodyRead bytes digits inner after
    → ((more rest : List ℕ) → after ++ more ≡ trailer_after (front_of digits (body_of inner)) ++ rest → ⊥) → IsGarbled bytes
garbled_in_trailer bytes digits inner after read apart =
    let head : HeadRead bytes digits (length (body_of inner)) (body_of inner ++ after) = record { is_length = read.is_length; parts = read.parts ∙ simp append_assoc } in
    garbled_from bytes (λ m more x w e.
    let r = read_on bytes digits _ _ head m more x w e in
    let both : body_of inner ++ (after ++ more) ≡ body_of w.inner ++ (trailer_after (front_of w.digits (body_of w.inner)) ++ x) = sym (append_assoc (body_of inner) after more) ∙ r.2 in
    let bodies = same_fronts (body_of inner) (body_of w.inner) _ _ (sym r.1) both in
    let fronts : front_of w.digits (body_of w.inner) ≡ front_of digits (body_of inner) =
    ap (λ (t : List ℕ). front_of t (body_of w.inner)) (sym r.0) ∙ ap (front_of digits) (sym bodies.0) in
    apart more x (bodies.1 ∙ ap (λ (t : List ℕ). trailer_after t ++ x) fronts))

-- ---- with the positions that the code counts

-- the bytes up to the length's SOH
pub read_head : (bytes first digits after : List ℕ) (count len : ℕ) → bytes ≡ opening ++ first → drop 13 bytes ≡ digits ++ soh ∷ after → length digits ≡ count → IsLength digits len
    → HeadRead bytes digits len (drop (13 + count + 1) bytes)
read_head bytes first digits after count len e f l is =
    let behind_opening : first ≡ drop 13 bytes = sym (drop_at opening first 13 length-opening) ∙ ap (drop 13) (sym e) in
    let parts : bytes ≡ opening ++ (digits ++ soh ∷ after) = e ∙ ap (λ (t : List ℕ). opening ++ t) (behind_opening ∙ f) in
    let front = opening ++ (digits ++ soh ∷ []) in
    let split : bytes ≡ front ++ after = parts ∙ ap (λ (t : List ℕ). opening ++ t) (sym (append_assoc digits (soh ∷ []) after)) ∙ sym (append_assoc opening (digits ++ soh ∷ []) after) in
    let long : length front ≡ 13 + count + 1 = omega (arith, length-append opening (digits ++ soh ∷ []), length-append digits (soh ∷ []), length-opening) in
    let rest : after ≡ drop (13 + count + 1) bytes = sym (drop_at front after (13 + count + 1) long) ∙ ap (drop (13 + count + 1)) (sym split) in
    record { is_length = is; parts = parts ∙ ap (λ (t : List ℕ). opening ++ (digits ++ soh ∷ t)) rest }

-- the bytes up to the end of the body, and their sum
pub read_body : (bytes digits : List ℕ) (len end : ℕ) (rest inner after : List ℕ) → HeadRead bytes digits len rest → length (body_of inner) ≡ len → rest ≡ body_of inner ++ after
    → end ≡ 13 + length digits + 1 + len → BodyRead bytes digits inner (drop end bytes) × (take end bytes ≡ front_of digits (body_of inner))
read_body bytes digits len end rest inner after head l e at =
    let read = body_read bytes digits len rest inner after head l e in
    let front = front_of digits (body_of inner) in
    let long : length front ≡ end = omega (arith, length-append (opening ++ digits) (soh ∷ body_of inner), length-append opening digits, length-opening) in
    let behind_body : after ≡ drop end bytes = sym (drop_at front after end long) ∙ ap (drop end) (sym read.parts) in (
      record { is_length = read.is_length; parts = read.parts ∙ ap (λ (t : List ℕ). front ++ t) behind_body },
      ap (take end) read.parts ∙ take_at front after end long,
    )

-- the message there, from its length
pub whole_here : (bytes digits inner rest : List ℕ) (n : ℕ) → IsWhole (spelling digits (body_of inner)) × (bytes ≡ spelling digits (body_of inner) ++ rest) → n ≡ 21 + length digits + length (body_of inner)
    → (n ≤ length bytes) × IsWhole (take n bytes)
whole_here bytes digits inner rest n (w, e) at =
    let m = spelling digits (body_of inner) in
    let long : length m ≡ n = length-spelling digits (body_of inner) ∙ sym at in
    (omega (arith, ap length e, length-append m rest), subst IsWhole (sym (ap (take n) e ∙ take_at m rest n long)) w)

-- the bytes after the opening
pub behind_opening : (bytes first : List ℕ) → bytes ≡ opening ++ first → bytes ≡ opening ++ drop 13 bytes
behind_opening bytes first e = e ∙ ap (λ (t : List ℕ). opening ++ t) (sym (drop_at opening first 13 length-opening) ∙ ap (drop 13) (sym e))
