-- It is always decided what is at a position.
use Rattle.std.proofs.Common.{◌≡◌, ℕ, zero, suc, ◌+◌, ◌-◌, ◌<◌, ◌≤◌, ◌⊎◌, List, [], ◌∷◌, ◌++◌, length, take, drop, get_or, refl, sym, ap, subst, ◌∙◌, arith, inl, inr}
use Rattle.std.proofs.lemmas.List.{length-take-le, take_all, append-nil}
use Rattle.std.proofs.lemmas.Bool.{cases_eq, cases_lt}
use Rattle.std.proofs.lemmas.Int.Digits.{digits_more}
use Rattle.std.specs.Char.{digit_value}
use Rattle.std.specs.Str.Parse.{AllDigits, digits_value}
use Rattle.gu_fix.specs.WholeMessage.{soh, opening, type_tag, body_of, trailer_after, front_of}
use Rattle.gu_fix.specs.Places.{Meets, ReadsLength, MeetsBody, StandsAs, IsLength}
use Rattle.gu_fix.specs.declared.prefix.Meeting.{Meeting}
use Rattle.gu_fix.specs.declared.prefix.Meeting.TheVariants.{Begins, Within, Apart}
use Rattle.gu_fix.specs.declared.prefix.LengthText.{LengthText}
use Rattle.gu_fix.specs.declared.prefix.LengthText.TheVariants as length_text
use Rattle.gu_fix.specs.declared.prefix.Prefix.{Prefix}
use Rattle.gu_fix.specs.declared.prefix.Prefix.TheVariants as place
use Rattle.gu_fix.proofs.Lengths.{split_at, apart_at_soh, apart_at_other, apart_at_end, open_as_is, open_with_four, length_from}
use Rattle.gu_fix.proofs.Bodies.{body_begins, body_within, body_within_tag, body_apart_tag, body_apart_end}
use Rattle.gu_fix.proofs.Places.{open_in_opening, garbled_in_opening, open_in_length, garbled_in_length, HeadRead, open_in_body, garbled_in_body, BodyRead, body_read, whole_in_trailer, whole_here, open_in_trailer, garbled_in_trailer}

-- the result of comparing bytes with a text
meeting_of : (bytes text : List ℕ) → (r : Meeting) × Meets r bytes text
meeting_of bytes [] = (Begins, (bytes, refl))
meeting_of [] (t ∷ ts) = (Within, (t ∷ ts, omega arith, refl))
meeting_of (b ∷ bs) (t ∷ ts) = meeting_step b t bs ts (cases_eq b t) (meeting_of bs ts)
  where
    meeting_step : (b t : ℕ) (bs ts : List ℕ) → (b ≡ t) ⊎ (b ≡ t → ⊥) → ((r : Meeting) × Meets r bs ts) → (r : Meeting) × Meets r (b ∷ bs) (t ∷ ts)
    meeting_step b t bs ts (inr other) tails = (Apart, λ more rest e. other cc)
    meeting_step b t bs ts (inl same) (Begins, (rest, e)) = (Begins, (rest, cc))
    meeting_step b t bs ts (inl same) (Within, (rest, some, e)) = (Within, (rest, some, cc))
    meeting_step b t bs ts (inl same) (Apart, apart) = (Apart, λ more rest e. apart more rest cc)

-- ---- the length

-- the length's text, if the bytes end within its digits
at_end : (bytes : List ℕ) → AllDigits 10 bytes → length bytes ≤ 7 → (r : LengthText) × ReadsLength r bytes
at_end bytes all few =
    elim (cases_lt (digits_value 10 bytes) 4) [
      | inl small ↦ elim (cases_lt (length bytes) 7) [
        | inl lt ↦ (length_text.Open, (52 ∷ [], _, open_with_four bytes all lt small))
        | inr le ↦ (length_text.Apart, apart_at_end bytes all (inl (small, le)))
      ]
      | inr great ↦ elim (cases_lt 65536 (21 + length bytes + digits_value 10 bytes)) [
        | inl long ↦ (length_text.Apart, apart_at_end bytes all (inr (great, long)))
        | inr fits ↦ (length_text.Open, ([], digits_value 10 bytes, subst (λ (t : List ℕ). IsLength t (digits_value 10 bytes)) (sym (append-nil bytes)) (open_as_is bytes all few great fits)))
      ]
    ]

-- the length's text, starting at a digit
length_at : (bytes : List ℕ) (left i : ℕ) → i + left ≡ length bytes → i ≤ 7 → AllDigits 10 (take i bytes) → (r : LengthText) × ReadsLength r bytes
length_at bytes zero i e few all =
    let every : take i bytes ≡ bytes = take_all i bytes (omega arith) in
    at_end bytes (subst (AllDigits 10) every all) (omega arith)
length_at bytes (suc left) i e few all =
    let b = get_or bytes i 0 in
    let l : i < length bytes = omega arith in
    let value = digits_value 10 (take i bytes) in
    elim (cases_eq b soh) [
      | inl ends ↦ elim (cases_lt value 4) [
        | inl small ↦ (length_text.Apart, apart_at_soh bytes i value l ends all refl (λ four. absurd (omega arith)))
        | inr great ↦ elim (cases_lt 65536 (21 + i + value)) [
          | inl long ↦ (length_text.Apart, apart_at_soh bytes i value l ends all refl (λ four. long))
          | inr fits ↦
              let count = length-take-le i bytes (omega arith) in
              (length_text.Read i value, (take i bytes, drop (i + 1) bytes, count, length_from (take i bytes) value all refl (omega arith) great (omega arith), split_at bytes i soh l ends))
        ]
      ]
      | inr other ↦ elim (cases_eq i 7) [
        | inl seven ↦ (length_text.Apart, apart_at_other bytes i b l refl other all (inl seven))
        | inr fewer ↦ elim (cases_lt (digit_value b) 10) [
          | inl digit ↦ length_at bytes left (i + 1) (omega arith) (omega (arith, fewer)) (digits_more 10 bytes i l all digit)
          | inr none ↦ (length_text.Apart, apart_at_other bytes i b l refl other all (inr none))
        ]
      ]
    ]

-- ---- the body

-- the result of comparing bytes with a body
body_at : (bytes : List ℕ) (len : ℕ) → 4 ≤ len → (r : Meeting) × MeetsBody r bytes len
body_at bytes len least = body_step (meeting_of bytes type_tag)
  where
    body_step : ((r : Meeting) × Meets r bytes type_tag) → (r : Meeting) × MeetsBody r bytes len
    body_step (Within, (tail, some, e)) = (Within, body_within_tag bytes tail len least e)
    body_step (Apart, apart) = (Apart, body_apart_tag bytes len apart)
    body_step (Begins, (rest, e)) =
        elim (cases_lt (length bytes) len) [
          | inl short ↦ (Within, body_within bytes rest len least e short)
          | inr room ↦ elim (cases_eq (get_or bytes (len - 1) 0) soh) [
            | inl last ↦ (Begins, body_begins bytes rest len least e room last)
            | inr other ↦ (Apart, body_apart_end bytes len least room other)
          ]
        ]

-- ---- the position

-- what is at a position whose body was read
trailer_step : (bytes digits inner after : List ℕ) → BodyRead bytes digits inner after → ((r : Meeting) × Meets r after (trailer_after (front_of digits (body_of inner)))) → (p : Prefix) × StandsAs p bytes
trailer_step bytes digits inner after read (Begins, (rest, e)) =
    (place.Whole (21 + length digits + length (body_of inner)), whole_here bytes digits inner rest _ (whole_in_trailer bytes digits inner after rest read e) refl)
trailer_step bytes digits inner after read (Within, (rest, some, e)) = (place.Open, open_in_trailer bytes digits inner after rest read some e)
trailer_step bytes digits inner after read (Apart, apart) = (place.Garbled, garbled_in_trailer bytes digits inner after read apart)

-- what is at a position whose length was read
body_found : (bytes digits : List ℕ) (len : ℕ) (rest : List ℕ) → HeadRead bytes digits len rest → ((r : Meeting) × MeetsBody r rest len) → (p : Prefix) × StandsAs p bytes
body_found bytes digits len rest head (Begins, (inner, after, long, e)) = trailer_step bytes digits inner after (body_read bytes digits len rest inner after head long e) (meeting_of after _)
body_found bytes digits len rest head (Within, (inner, more, long, e)) = (place.Open, open_in_body bytes digits len rest inner more head long e)
body_found bytes digits len rest head (Apart, apart) = (place.Garbled, garbled_in_body bytes digits len rest head apart)

-- what is at a position that begins as a message
length_found : (bytes first : List ℕ) → bytes ≡ opening ++ first → ((r : LengthText) × ReadsLength r first) → (p : Prefix) × StandsAs p bytes
length_found bytes first e (length_text.Read count n, (digits, rest, l, is, f)) =
    body_found bytes digits n rest (record { is_length = is; parts = e ∙ ap (λ (t : List ℕ). opening ++ t) f }) (body_at rest n is.least)
length_found bytes first e (length_text.Open, (more, n, is)) = (place.Open, open_in_length bytes first more n e is)
length_found bytes first e (length_text.Apart, apart) = (place.Garbled, garbled_in_length bytes first e apart)

-- what is at a position, from the comparison of its bytes with the opening
opening_found : (bytes : List ℕ) → ((r : Meeting) × Meets r bytes opening) → (p : Prefix) × StandsAs p bytes
opening_found bytes (Begins, (first, e)) = length_found bytes first e (length_at first (length first) 0 (omega arith) (omega arith) tt)
opening_found bytes (Within, (rest, some, e)) = (place.Open, open_in_opening bytes rest some e)
opening_found bytes (Apart, apart) = (place.Garbled, garbled_in_opening bytes apart)

-- what is at the start
pub place_of : (bytes : List ℕ) → (p : Prefix) × StandsAs p bytes
place_of bytes = opening_found bytes (meeting_of bytes opening)
