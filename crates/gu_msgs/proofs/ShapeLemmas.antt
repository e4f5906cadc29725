-- Repeated tags, and missing tags.
use Rattle.gu_msgs.proofs.Words.{◌≡◌, ◌++◌, ◌&&◌, ◌+◌, not, ℕ, Bool, true, false, cond, List, [], ◌∷◌, Some, refl, length, take, ap, sym, ◌∙◌, append_assoc, arith, length-append, take_at, option_or, TagValue, tag_of, is_required, is_second, missing, repeated_after, stands, Row}

-- the first missing tag of two tables
pub missing-append : (rows others : List Row) (fields : List TagValue) → missing (rows ++ others) fields ≡ option_or (missing rows fields) (missing others fields)
missing-append [] others fields = refl
missing-append (row ∷ rows) others fields =
    let P : Bool → Type 0 = λ b. cond b (Some (tag_of row)) (missing (rows ++ others) fields) ≡ option_or (cond b (Some (tag_of row)) (missing rows fields)) (missing others fields) in
    let at : (b : Bool) → P b = λ b. elim b as P [ true ↦ refl | false ↦ missing-append rows others fields ] in
    at (is_required row && not (stands (tag_of row) fields))

-- ---- a pass over fields

-- one field further on, it is the last of those passed
pub taken_on : (fields ahead rest : List TagValue) (field : TagValue) (seen : ℕ) → take seen fields ++ ahead ≡ fields → seen + length ahead ≡ length fields
    → ahead ≡ field ∷ rest → take (seen + 1) fields ≡ take seen fields ++ field ∷ []
taken_on fields ahead rest field seen walked counted next =
    let before = take seen fields in
    let split : before ++ field ∷ [] ++ rest ≡ fields = append_assoc before (field ∷ []) rest ∙ ap (λ (t : List TagValue). before ++ t) (sym next) ∙ walked in
    let size : length (before ++ field ∷ []) ≡ seen + 1 =
    omega (arith, counted, length-append before (field ∷ []), length-append before ahead, ap length walked) in
    ap (take (seen + 1)) (sym split) ∙ take_at (before ++ field ∷ []) rest (seen + 1) size

-- the fields passed are the first ones, and the others are ahead; no tag of these rows was repeated among them
pub record IsWalked (rows : List Row) (fields ahead : List TagValue) (seen : ℕ) : Type 0 where
  pub walked : take seen fields ++ ahead ≡ fields
  pub counted : seen + length ahead ≡ length fields
  pub same : repeated_after rows [] fields ≡ repeated_after rows (take seen fields) ahead

-- this is still so one field further on, if its tag isn't repeated
pub walked_on : (rows : List Row) (fields ahead rest : List TagValue) (field : TagValue) (seen : ℕ) → IsWalked rows fields ahead seen → ahead ≡ field ∷ rest
    → is_second rows (take seen fields) field ≡ false → IsWalked rows fields rest (seen + 1)
walked_on rows fields ahead rest field seen is next first =
    let on = taken_on fields ahead rest field seen is.walked is.counted next in
    let before = take seen fields in
    let step : repeated_after rows before (field ∷ rest) ≡ repeated_after rows (before ++ field ∷ []) rest = rw first refl in
    record {
      walked = rw on (append_assoc before (field ∷ []) rest ∙ ap (λ (t : List TagValue). before ++ t) (sym next) ∙ is.walked);
      counted = let size = ap length next in omega (arith, is.counted, size);
      same = is.same ∙ ap (repeated_after rows before) next ∙ step ∙ ap (λ (t : List TagValue). repeated_after rows t rest) (sym on);
    }
