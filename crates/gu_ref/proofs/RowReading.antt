-- A record is read field by field: its kind, then one name after another.
use Rattle.gu_ref.proofs.Words.{◌≡◌, ◌≢◌, refl, Bool, true, false, ℕ, List, [], ◌∷◌, length, Option, None, Some, if◌then◌else◌, arith, list_all, field_at, name_in, row_of, row_of_one, row_of_two, row_of_three, Row}
use Rattle.gu_terms.specs.Names.{is_name}

passes : (b : Bool) (a x : List ℕ) → (if b then Some a else None) ≡ Some x → (b ≡ true) × (a ≡ x)
passes true a x h = (refl, cc)
passes false a x h = cc

fails : (b : Bool) (a : List ℕ) → (if b then Some a else None) ≡ None → b ≡ false
fails true a h = cc
fails false a h = refl

-- no field at all
pub no_kind : (fields : List (List ℕ)) → field_at fields 0 ≡ None → row_of fields ≡ None
unfolding field_at
no_kind [] h = refl
no_kind (k ∷ rest) h = cc

-- no first name
pub no_first : (fields : List (List ℕ)) → name_in (field_at fields 1) ≡ None → row_of fields ≡ None
unfolding field_at
no_first [] h = refl
no_first (k ∷ []) h = refl
no_first (k ∷ a ∷ rest) h = rw (fails (is_name a) a h) refl

-- one name, and no more fields
pub one : (fields : List (List ℕ)) (kind first : List ℕ) → field_at fields 0 ≡ Some kind → name_in (field_at fields 1) ≡ Some first
    → length fields ≡ 2 → row_of fields ≡ row_of_one kind first
unfolding field_at
one [] kind first k f n = cc
one (x ∷ []) kind first k f n = absurd (omega arith)
one (x ∷ a ∷ []) kind first k f n =
    let p = passes (is_name a) a first f in
    let e : x ≡ kind = cc in
    rw (p.0) (rw (e, p.1) refl)
one (x ∷ a ∷ b ∷ rest) kind first k f n = absurd (omega arith)

-- a second field that is missing or isn't a name
pub no_second : (fields : List (List ℕ)) (first : List ℕ) → name_in (field_at fields 1) ≡ Some first → length fields ≢ 2
    → name_in (field_at fields 2) ≡ None → row_of fields ≡ None
unfolding field_at
no_second [] first f n h = refl
no_second (k ∷ []) first f n h = refl
no_second (k ∷ a ∷ []) first f n h = absurd (n refl)
no_second (k ∷ a ∷ b ∷ rest) first f n h =
    let p = passes (is_name a) a first f in
    rw (p.0, fails (is_name b) b h) refl

-- two names, and no more fields
pub two : (fields : List (List ℕ)) (kind first second : List ℕ) → field_at fields 0 ≡ Some kind → name_in (field_at fields 1) ≡ Some first
    → name_in (field_at fields 2) ≡ Some second → length fields ≡ 3 → row_of fields ≡ row_of_two kind first second
unfolding field_at
two [] kind first second k f s n = cc
two (x ∷ []) kind first second k f s n = absurd (omega arith)
two (x ∷ a ∷ []) kind first second k f s n = absurd (omega arith)
two (x ∷ a ∷ b ∷ []) kind first second k f s n =
    let p = passes (is_name a) a first f in
    let q = passes (is_name b) b second s in
    let e : x ≡ kind = cc in
    rw (p.0, q.0) (rw (e, p.1, q.1) refl)
two (x ∷ a ∷ b ∷ c ∷ rest) kind first second k f s n = absurd (omega arith)

-- a third field that is missing or isn't a name
pub no_third : (fields : List (List ℕ)) (first second : List ℕ) → name_in (field_at fields 1) ≡ Some first → name_in (field_at fields 2) ≡ Some second
    → length fields ≢ 3 → name_in (field_at fields 3) ≡ None → row_of fields ≡ None
unfolding field_at
no_third [] first second f s n h = refl
no_third (k ∷ []) first second f s n h = refl
no_third (k ∷ a ∷ []) first second f s n h = cc
no_third (k ∷ a ∷ b ∷ []) first second f s n h = absurd (n refl)
no_third (k ∷ a ∷ b ∷ c ∷ rest) first second f s n h =
    let p = passes (is_name a) a first f in
    let q = passes (is_name b) b second s in
    rw (p.0, q.0, fails (is_name c) c h) refl

-- three names, and no more fields
pub three_names : (fields : List (List ℕ)) (kind first second third : List ℕ) → field_at fields 0 ≡ Some kind → name_in (field_at fields 1) ≡ Some first
    → name_in (field_at fields 2) ≡ Some second → name_in (field_at fields 3) ≡ Some third → length fields ≡ 4
    → row_of fields ≡ row_of_three kind first second third
unfolding field_at
three_names [] kind first second third k f s t n = cc
three_names (x ∷ []) kind first second third k f s t n = absurd (omega arith)
three_names (x ∷ a ∷ []) kind first second third k f s t n = absurd (omega arith)
three_names (x ∷ a ∷ b ∷ []) kind first second third k f s t n = absurd (omega arith)
three_names (x ∷ a ∷ b ∷ c ∷ []) kind first second third k f s t n =
    let p = passes (is_name a) a first f in
    let q = passes (is_name b) b second s in
    let r = passes (is_name c) c third t in
    let e : x ≡ kind = cc in
    rw (p.0, q.0, r.0) (rw (e, p.1, q.1, r.1) refl)
three_names (x ∷ a ∷ b ∷ c ∷ d ∷ rest) kind first second third k f s t n = absurd (omega arith)

every : (b : Bool) → (if b then None else None) ≡ (let o : Option Row = None in o)
every true = refl
every false = refl

-- more fields than any kind has
pub too_long : (fields : List (List ℕ)) (third : List ℕ) → name_in (field_at fields 3) ≡ Some third → length fields ≢ 4 → row_of fields ≡ None
unfolding field_at
too_long [] third t n = refl
too_long (x ∷ []) third t n = cc
too_long (x ∷ a ∷ []) third t n = cc
too_long (x ∷ a ∷ b ∷ []) third t n = cc
too_long (x ∷ a ∷ b ∷ c ∷ []) third t n = absurd (n refl)
too_long (x ∷ a ∷ b ∷ c ∷ d ∷ rest) third t n = every (list_all is_name (a ∷ b ∷ c ∷ d ∷ rest))
