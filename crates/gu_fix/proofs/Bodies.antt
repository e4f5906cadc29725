-- Comparing bytes with a body.
use Rattle.std.proofs.Common.{◌≡◌, ℕ, ◌+◌, ◌-◌, ◌<◌, ◌≤◌, List, [], ◌∷◌, ◌++◌, length, take, drop, get_or, sym, ap, ◌∙◌, append_assoc, arith}
use Rattle.std.specs.Prelude.{replicate}
use Rattle.std.proofs.lemmas.List.{length-take-le, length-append, length-replicate, get_or-append-add, get_or_append_left, get_or_at}
use Rattle.gu_fix.specs.WholeMessage.{soh, type_tag, body_of}
use Rattle.gu_fix.proofs.WholeLemmas.{length-type_tag}
use Rattle.gu_fix.proofs.Lengths.{split_at}

-- a body has four bytes more than its inner part
pub length-body : (inner : List ℕ) → length (body_of inner) ≡ length inner + 4
length-body inner = simp (length-append, length-type_tag) (omega arith)

-- bytes that begin with the tag
pub body_begins : (bytes rest : List ℕ) (len : ℕ) → 4 ≤ len → bytes ≡ type_tag ++ rest → len ≤ length bytes → get_or bytes (len - 1) 0 ≡ soh
    → (inner : List ℕ) × (after : List ℕ) × (length (body_of inner) ≡ len) × (bytes ≡ body_of inner ++ after)
body_begins bytes rest len least e room last =
    let count : length bytes ≡ 3 + length rest = ap length e ∙ length-append type_tag rest ∙ ap (λ n. n + length rest) length-type_tag in
    let at : length type_tag + (len - 4) ≡ len - 1 = omega (arith, length-type_tag) in
    let here : get_or rest (len - 4) 0 ≡ soh = sym (get_or-append-add type_tag rest (len - 4) 0) ∙ ap (λ n. get_or (type_tag ++ rest) n 0) at ∙ ap (λ (t : List ℕ). get_or t (len - 1) 0) (sym e) ∙ last in
    let inner = take (len - 4) rest in
    let parts = split_at rest (len - 4) soh (omega arith) here in
    let long : length inner ≡ len - 4 = length-take-le (len - 4) rest (omega arith) in (
      inner,
      drop (len - 4 + 1) rest,
      omega (arith, length-body inner),
      e ∙ ap (λ (t : List ℕ). type_tag ++ t) parts ∙ simp append_assoc,
    )

-- any bytes and SOH complete it
pub body_within : (bytes rest : List ℕ) (len : ℕ) → 4 ≤ len → bytes ≡ type_tag ++ rest → length bytes < len
    → (inner : List ℕ) × (more : List ℕ) × (length (body_of inner) ≡ len) × (bytes ++ more ≡ body_of inner)
body_within bytes rest len least e short =
    let count : length bytes ≡ 3 + length rest = ap length e ∙ length-append type_tag rest ∙ ap (λ n. n + length rest) length-type_tag in
    let filler = replicate (len - 1 - length bytes) 0 in
    let long : length (rest ++ filler) ≡ length rest + (len - 1 - length bytes) = length-append rest filler ∙ ap (λ n. length rest + n) (length-replicate (len - 1 - length bytes) 0) in (
      rest ++ filler,
      filler ++ soh ∷ [],
      omega (arith, length-body (rest ++ filler)),
      ap (λ (t : List ℕ). t ++ (filler ++ soh ∷ [])) e ∙ simp append_assoc,
    )

-- bytes that end within the tag can be completed to a body
pub body_within_tag : (bytes tail : List ℕ) (len : ℕ) → 4 ≤ len → bytes ++ tail ≡ type_tag
    → (inner : List ℕ) × (more : List ℕ) × (length (body_of inner) ≡ len) × (bytes ++ more ≡ body_of inner)
body_within_tag bytes tail len least e =
    let filler = replicate (len - 4) 0 in
    let long : length filler ≡ len - 4 = length-replicate (len - 4) 0 in (
      filler,
      tail ++ (filler ++ soh ∷ []),
      omega (arith, length-body filler),
      sym (append_assoc bytes tail (filler ++ soh ∷ [])) ∙ ap (λ (t : List ℕ). t ++ (filler ++ soh ∷ [])) e ∙ sym (append_assoc type_tag filler (soh ∷ [])),
    )

-- bytes that can't begin with the tag begin no body
pub body_apart_tag : (bytes : List ℕ) (len : ℕ) → ((more rest : List ℕ) → bytes ++ more ≡ type_tag ++ rest → ⊥)
    → (inner more rest : List ℕ) → length (body_of inner) ≡ len → bytes ++ more ≡ body_of inner ++ rest → ⊥
body_apart_tag bytes len apart inner more rest l e =
    apart more ((inner ++ soh ∷ []) ++ rest) (e ∙ simp append_assoc)

-- bytes whose last byte at that length isn't SOH begin no body of that length
pub body_apart_end : (bytes : List ℕ) (len : ℕ) → 4 ≤ len → len ≤ length bytes → (get_or bytes (len - 1) 0 ≡ soh → ⊥)
    → (inner more rest : List ℕ) → length (body_of inner) ≡ len → bytes ++ more ≡ body_of inner ++ rest → ⊥
body_apart_end bytes len least room other inner more rest l e =
    let seam : body_of inner ++ rest ≡ (type_tag ++ inner) ++ soh ∷ rest = append_assoc (type_tag ++ inner) (soh ∷ []) rest in
    let front : length (type_tag ++ inner) ≡ len - 1 = omega (arith, length-body inner, length-append type_tag inner, length-type_tag) in
    let here : get_or (bytes ++ more) (len - 1) 0 ≡ soh = ap (λ (t : List ℕ). get_or t (len - 1) 0) (e ∙ seam) ∙ get_or_at (type_tag ++ inner) soh rest 0 (len - 1) front in
    other (sym (get_or_append_left bytes more 0 (len - 1) (omega arith)) ∙ here)
