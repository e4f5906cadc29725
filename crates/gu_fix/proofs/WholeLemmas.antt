-- Laws of whole messages.
use Rattle.std.proofs.Common.{◌≡◌, ℕ, ◌+◌, ◌<◌, List, [], ◌∷◌, ◌++◌, length, drop, refl, sym, ap, subst, ◌∙◌, append_assoc, arith, inl, inr, get_or}
use Rattle.std.proofs.lemmas.List.{length-append, length-drop, append-nil}
use Rattle.std.proofs.lemmas.Bool.{cases_lt}
use Rattle.std.specs.Char.{digit_value}
use Rattle.std.specs.Str.Parse.{AllDigits, digits_value}
use Rattle.gu_fix.specs.WholeMessage.{soh, opening, type_tag, body_of, trailer_of, trailer_after, front_of, IsWhole}
use Rattle.gu_fix.specs.Stream.{Stands, IsOpen, IsGarbled}
use Rattle.gu_fix.proofs.Lists.{same_fronts, front_of_front}

-- SOH isn't a digit
pub soh_no_digit : (c : ℕ) → digit_value c < 10 → c ≡ soh → ⊥
soh_no_digit c h e =
    let P : ℕ → Type 0 = λ n. digit_value n < 10 in
    let at_soh : 36 < 10 = subst P e h in
    omega arith

-- the digits before the first SOH
pub digits_end : (a b x y : List ℕ) → AllDigits 10 a → AllDigits 10 b → a ++ soh ∷ x ≡ b ++ soh ∷ y → (a ≡ b) × (x ≡ y)
digits_end [] [] x y p q e = (refl, cc)
digits_end [] (c ∷ cs) x y p q e = absurd (soh_no_digit c q.0 (cc))
digits_end (c ∷ cs) [] x y p q e = absurd (soh_no_digit c p.0 (cc))
digits_end (c ∷ cs) (d ∷ ds) x y p q e =
    let tails : cs ++ soh ∷ x ≡ ds ++ soh ∷ y = cc in
    let heads : c ≡ d = cc in
    let r = digits_end cs ds x y p.1 q.1 tails in
    (cc, r.1)

-- a message made from its length's text and its body
abbrev pub spelling : List ℕ → List ℕ → List ℕ
spelling digits body = front_of digits body ++ trailer_after (front_of digits body)

-- a message and what follows it, part by part
pub spelling_parts : (digits body rest : List ℕ) → spelling digits body ++ rest ≡ opening ++ (digits ++ soh ∷ (body ++ (trailer_after (front_of digits body) ++ rest)))
spelling_parts digits body rest = simp append_assoc

-- the opening has 13 bytes
pub length-opening : length opening ≡ 13
unfolding opening
length-opening = refl

-- `35=` has three
pub length-type_tag : length type_tag ≡ 3
unfolding type_tag
length-type_tag = refl

-- the trailer has seven
pub length-trailer : (n : ℕ) → length (trailer_of n) ≡ 7
unfolding trailer_of
length-trailer n = refl

-- the length of a message, part by part
pub length-spelling : (digits body : List ℕ) → length (spelling digits body) ≡ 21 + length digits + length body
length-spelling digits body = simp (length-append, length-opening, length-trailer) (omega arith)

-- two messages at the start of one list are the same message
pub one_message : (m n x y : List ℕ) → IsWhole m → IsWhole n → m ++ x ≡ n ++ y → m ≡ n
one_message m n x y p q e =
    let a = body_of p.inner in
    let b = body_of q.inner in
    let same : opening ++ (p.digits ++ soh ∷ (a ++ (trailer_after (front_of p.digits a) ++ x))) ≡ opening ++ (q.digits ++ soh ∷ (b ++ (trailer_after (front_of q.digits b) ++ y))) =
    sym (spelling_parts p.digits a x) ∙ ap (λ (t : List ℕ). t ++ x) (sym p.spelled) ∙ e ∙ ap (λ (t : List ℕ). t ++ y) q.spelled ∙ spelling_parts q.digits b y in
    let behind = (same_fronts opening opening _ _ refl same).1 in
    let parts = digits_end p.digits q.digits _ _ p.counted.all q.counted.all behind in
    let long : length a ≡ length b = sym p.counted.value ∙ ap (digits_value 10) parts.0 ∙ q.counted.value in
    let bodies = (same_fronts a b _ _ long parts.1).0 in
    p.spelled ∙ ap (λ (t : List ℕ). spelling t a) parts.0 ∙ ap (spelling q.digits) bodies ∙ sym q.spelled

-- a position with a message isn't open
pub stands_closed : (s : List ℕ) → Stands s → IsOpen s → ⊥
stands_closed s a o =
    let e : a.message ++ (a.rest ++ o.more) ≡ (s ++ o.more) ++ [] =
    sym (append_assoc a.message a.rest o.more) ∙ ap (λ (t : List ℕ). t ++ o.more) (sym a.parts) ∙ sym (append-nil (s ++ o.more)) in
    let one = one_message a.message (s ++ o.more) (a.rest ++ o.more) [] a.is_whole o.is_whole e in
    let some : 0 < length o.more = o.some in
    let l1 = ap length one in
    let l2 = ap length a.parts in
    omega (arith, length-append s o.more, length-append a.message a.rest, l1, l2)

-- no continuation has a message here
abbrev pub NoneCanStand : List ℕ → Type 0
NoneCanStand bytes = (m more rest : List ℕ) → IsWhole m → bytes ++ more ≡ m ++ rest → ⊥

-- a position that can have no message is garbled
pub garbled_from : (bytes : List ℕ) → NoneCanStand bytes → IsGarbled bytes
garbled_from bytes h = (
  λ s. h s.message [] s.rest s.is_whole (append-nil bytes ∙ s.parts),
  λ o. h (bytes ++ o.more) o.more [] o.is_whole (sym (append-nil (bytes ++ o.more))),
)

-- a garbled position can have no message
pub none_can_stand : (bytes : List ℕ) → IsGarbled bytes → NoneCanStand bytes
none_can_stand bytes garbled m more rest w e =
    elim (cases_lt (length bytes) (length m)) [
      | inl lt ↦
          let longer : m ≡ bytes ++ drop (length bytes) m = front_of_front m bytes rest more (sym e) (omega arith) in
          garbled.1 (record { more = drop (length bytes) m; some = omega (arith, length-drop (length bytes) m); is_whole = subst IsWhole longer w })
      | inr le ↦
          garbled.0 (record { message = m; rest = drop (length m) bytes; is_whole = w; parts = front_of_front bytes m more rest e le })
    ]

-- more bytes leave a garbled position garbled
pub garbled-append : (bytes more : List ℕ) → IsGarbled bytes → IsGarbled (bytes ++ more)
garbled-append bytes more garbled =
    garbled_from (bytes ++ more) (λ m later rest w e. none_can_stand bytes garbled m (more ++ later) rest w (sym (append_assoc bytes more later) ∙ e))

-- a message begins with `8`
pub garbled_unless_first : (bytes : List ℕ) → 0 < length bytes → (get_or bytes 0 0 ≡ 56 → ⊥) → IsGarbled bytes
unfolding opening
garbled_unless_first [] some other = absurd (omega arith)
garbled_unless_first (b ∷ bs) some other = garbled_from (b ∷ bs) (λ m more rest w e.
    let same : b ∷ (bs ++ more) ≡ spelling w.digits (body_of w.inner) ++ rest = e ∙ ap (λ (t : List ℕ). t ++ rest) w.spelled in
    other (ap (λ (t : List ℕ). get_or t 0 0) same))

-- a message has at least 25 bytes
pub long_enough : (m : List ℕ) → IsWhole m → 0 < length m
long_enough m w = omega (arith, ap length w.spelled, length-spelling w.digits (body_of w.inner))
