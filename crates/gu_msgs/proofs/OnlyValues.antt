-- If no tag of a table is repeated, each tag has at most one value.
use Rattle.gu_msgs.proofs.Words.{◌≡◌, ◌<◌, ◌++◌, ◌==◌, ℕ, Bool, true, false, cond, List, [], ◌∷◌, length, Option, Some, None, is_some, MatchOption, refl, ap, sym, eqb-true, option_map, TagValue, is_listed, tag_of, fault_at, groups_fault, is_second, missing, repeated, repeated_after, shape_fault, tags_fault, row_at, body_rows, outer_rows, behind, first_value, only_value, stands, MsgType, RequiredTagMissing, TagAppearsMoreThanOnce, Row}
use Rattle.gu_msgs.proofs.HeldLemmas.{none_mapped, none_of_either}
use Rattle.gu_msgs.proofs.StandingLemmas.{listed_at}

-- a tag that is present still is with one more field
still_stands : (tag : ℕ) (before : List TagValue) (f : TagValue) → stands tag before ≡ true → stands tag (before ++ f ∷ []) ≡ true
still_stands tag [] f there = cc
still_stands tag (x ∷ before) f there =
    let P : Bool → Type 0 = λ b. is_some (cond b (Some x.value) (first_value tag before)) ≡ true → is_some (cond b (Some x.value) (first_value tag (before ++ f ∷ []))) ≡ true in
    let at : (b : Bool) → P b = λ b. elim b as P [ true ↦ (λ h. h) | false ↦ (λ h. still_stands tag before f h) ] in
    at (x.tag == tag) there

-- so is that of the field
own_stands : (tag : ℕ) (before : List TagValue) (f : TagValue) → (f.tag == tag) ≡ true → stands tag (before ++ f ∷ []) ≡ true
own_stands tag [] f same = rw same refl
own_stands tag (x ∷ before) f same =
    let P : Bool → Type 0 = λ b. is_some (cond b (Some x.value) (first_value tag (before ++ f ∷ []))) ≡ true in
    let at : (b : Bool) → P b = λ b. elim b as P [ true ↦ refl | false ↦ own_stands tag before f same ] in
    at (x.tag == tag)

-- if no tag is repeated, the first field's isn't, and none after it is
none_further : (rows : List Row) (before : List TagValue) (f : TagValue) (fs : List TagValue) → repeated_after rows before (f ∷ fs) ≡ None
    → (is_second rows before f ≡ false) × (repeated_after rows (before ++ f ∷ []) fs ≡ None)
none_further rows before f fs none =
    let rest = repeated_after rows (before ++ f ∷ []) fs in
    let P : Bool → Type 0 = λ b. cond b (Some f.tag) rest ≡ None → (b ≡ false) × (rest ≡ None) in
    let at : (b : Bool) → P b = λ b. elim b as P [ true ↦ (λ h. cc) | false ↦ (λ h. (refl, h)) ] in
    at (is_second rows before f) none

-- a field with a tag that was present before repeats it
seconds : (rows : List Row) (tag : ℕ) (before : List TagValue) (f : TagValue) → is_listed rows tag ≡ true → stands tag before ≡ true → f.tag ≡ tag → is_second rows before f ≡ true
seconds rows tag before f listed there same = rw (same, listed, there) refl

-- a tag present before these fields isn't among them
none_again : (rows : List Row) (tag : ℕ) (before fields : List TagValue) → is_listed rows tag ≡ true → repeated_after rows before fields ≡ None → stands tag before ≡ true
    → stands tag fields ≡ false
none_again rows tag before [] listed none there = refl
none_again rows tag before (f ∷ fs) listed none there =
    let further = none_further rows before f fs none in
    let P : Bool → Type 0 = λ b. (f.tag == tag) ≡ b → is_some (cond b (Some f.value) (first_value tag fs)) ≡ false in
    let own : P true = λ same. (let second = seconds rows tag before f listed there (eqb-true f.tag tag same) in let first = further.0 in cc) in
    let other : P false = λ other. none_again rows tag (before ++ f ∷ []) fs listed further.1 (still_stands tag before f there) in
    let at : (b : Bool) → P b = λ b. elim b as P [ true ↦ own | false ↦ other ] in
    at (f.tag == tag) refl

-- nor is any tag present after its first field
once : (rows : List Row) (tag : ℕ) (before fields : List TagValue) → is_listed rows tag ≡ true → repeated_after rows before fields ≡ None → stands tag (behind tag fields) ≡ false
once rows tag before [] listed none = refl
once rows tag before (f ∷ fs) listed none =
    let further = none_further rows before f fs none in
    let P : Bool → Type 0 = λ b. (f.tag == tag) ≡ b → stands tag (cond b fs (behind tag fs)) ≡ false in
    let own : P true = λ same. none_again rows tag (before ++ f ∷ []) fs listed further.1 (own_stands tag before f same) in
    let other : P false = λ other. once rows tag (before ++ f ∷ []) fs listed further.1 in
    let at : (b : Bool) → P b = λ b. elim b as P [ true ↦ own | false ↦ other ] in
    at (f.tag == tag) refl

-- so its first value is its only one, if the shape is sound
pub only_is_first : (kind : MsgType) (fields : List TagValue) (place : ℕ) → shape_fault kind fields ≡ None → place < length (outer_rows kind)
    → only_value (tag_of (row_at (outer_rows kind) place)) fields ≡ first_value (tag_of (row_at (outer_rows kind) place)) fields
only_is_first kind fields place shape within =
    let rows = outer_rows kind in
    let tag = tag_of (row_at rows place) in
    let parts = none_of_either (tags_fault rows fields) (groups_fault kind fields (body_rows kind)) shape in
    let tags = none_of_either (option_map (fault_at TagAppearsMoreThanOnce) (repeated rows fields)) (option_map (fault_at RequiredTagMissing) (missing rows fields)) parts.0 in
    let none = none_mapped (fault_at TagAppearsMoreThanOnce) (repeated rows fields) tags.0 in
    let listed = listed_at rows tag place (record { within = within; tagged = refl }) in
    ap (λ b. cond b None (first_value tag fields)) (once rows tag [] fields listed none)

-- what was found for a value
pub matched : {A B : Type 0} (found : Option A) (f : A → B) (is : Option B) → MatchOption found (is ≡ None) (λ a. is ≡ Some (f a)) → option_map f found ≡ is
matched (Some a) f is h = sym h
matched None f is h = sym h
