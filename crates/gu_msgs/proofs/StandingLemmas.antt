-- Numbers of the first fields with each tag, in a pass over fields.
use Rattle.gu_msgs.proofs.Words.{◌≡◌, ◌≢◌, ◌<◌, ◌≤◌, ◌+◌, ◌++◌, ◌&&◌, ◌==◌, not, ℕ, zero, suc, Bool, true, false, cond, List, [], ◌∷◌, Option, Some, None, is_some, length, set, take, drop, slice_get, slice_index, refl, ap, sym, subst, ◌∙◌, arith, add-one, inl, inr, eq-eqb, cases_eq, ne_eqb, get_or-set_same, get_or-set_other, length-append, length-take-le, drop-append-le, list_any_at, option_map, option_or, TagValue, is_listed, is_required, tag_of, is_second, missing, repeated, repeated_after, AreDistinct, AreStandings, IsRowOf, IsStanding, Notes, fields_after, row_at, value_numbered, behind, first_value, stands, Text, Row, Required}
use Rattle.std.proofs.Math.ListN.{drop_of_length-le}
use Rattle.gu_msgs.proofs.ItemLemmas.{drop_row}
use Rattle.gu_msgs.proofs.SecondStandings.{field_after}
use Rattle.gu_msgs.proofs.ShapeLemmas.{IsWalked, taken_on, walked_on}

-- ---- one more field

-- the first value of a tag stays, or comes with the field
first_value-push : (tag : ℕ) (fields : List TagValue) (f : TagValue)
    → first_value tag (fields ++ f ∷ []) ≡ option_or (first_value tag fields) (cond (f.tag == tag) (Some f.value) None)
first_value-push tag [] f = refl
first_value-push tag (x ∷ fields) f =
    let more = cond (f.tag == tag) (Some f.value) None in
    let P : Bool → Type 0 = λ b. cond b (Some x.value) (first_value tag (fields ++ f ∷ [])) ≡ option_or (cond b (Some x.value) (first_value tag fields)) more in
    let at : (b : Bool) → P b = λ b. elim b as P [ true ↦ refl | false ↦ first_value-push tag fields f ] in
    at (x.tag == tag)

-- a field before it stays
field_kept : (fields : List TagValue) (f : TagValue) (place : ℕ) → place < length fields → slice_get (fields ++ f ∷ []) place ≡ slice_get fields place
field_kept [] f place within = absurd (omega (arith, within))
field_kept (x ∷ fields) f zero within = refl
field_kept (x ∷ fields) f (suc place) within = field_kept fields f place (omega (arith, within))

-- and so does its value
numbered_kept : (fields : List TagValue) (f : TagValue) (number : ℕ) → number ≤ length fields → value_numbered (fields ++ f ∷ []) number ≡ value_numbered fields number
numbered_kept fields f zero within = refl
numbered_kept fields f (suc place) within = ap (option_map (λ (t : TagValue). t.value)) (field_kept fields f place (omega (arith, within)))

-- the field's own value
numbered_last : (fields : List TagValue) (f : TagValue) → value_numbered (fields ++ f ∷ []) (length fields + 1) ≡ Some f.value
numbered_last fields f = rw add-one (ap (option_map (λ (t : TagValue). t.value)) (field_after fields f []))

-- there is a field with each number but 0
some_field : (fields : List TagValue) (place : ℕ) → place < length fields → is_some (option_map (λ (t : TagValue). t.value) (slice_get fields place)) ≡ true
some_field [] place within = absurd (omega (arith, within))
some_field (x ∷ fields) zero within = refl
some_field (x ∷ fields) (suc place) within = some_field fields place (omega (arith, within))

some_numbered : (fields : List TagValue) (number : ℕ) → number ≤ length fields → number ≢ 0 → is_some (value_numbered fields number) ≡ true
some_numbered fields zero within some = absurd (some refl)
some_numbered fields (suc place) within some = some_field fields place (omega (arith, within))

-- a tag with a number is present
pub stands_numbered : (fields : List TagValue) (tag number : ℕ) → IsStanding fields tag number → number ≢ 0 → stands tag fields ≡ true
stands_numbered fields tag number is some = ap is_some is.first ∙ some_numbered fields number is.within some

-- a tag without one isn't
pub absent_numbered : (fields : List TagValue) (tag number : ℕ) → IsStanding fields tag number → number ≡ 0 → stands tag fields ≡ false
absent_numbered fields tag number is none = ap is_some (is.first ∙ ap (value_numbered fields) none)

-- the fields after a tag that is present, followed by the field
behind-push : (tag : ℕ) (fields : List TagValue) (f : TagValue) → stands tag fields ≡ true → behind tag (fields ++ f ∷ []) ≡ behind tag fields ++ f ∷ []
behind-push tag [] f there = cc
behind-push tag (x ∷ fields) f there =
    let P : Bool → Type 0 = λ b. is_some (cond b (Some x.value) (first_value tag fields)) ≡ true → cond b (fields ++ f ∷ []) (behind tag (fields ++ f ∷ [])) ≡ cond b fields (behind tag fields) ++ f ∷ [] in
    let at : (b : Bool) → P b = λ b. elim b as P [ true ↦ (λ h. refl) | false ↦ (λ h. behind-push tag fields f h) ] in
    at (x.tag == tag) there

-- there are none after an absent tag, even with the field
behind_new : (tag : ℕ) (fields : List TagValue) (f : TagValue) → stands tag fields ≡ false → behind tag (fields ++ f ∷ []) ≡ []
behind_new tag [] f none =
    let P : Bool → Type 0 = λ b. cond {A = List TagValue} b [] [] ≡ [] in
    let at : (b : Bool) → P b = λ b. elim b as P [ true ↦ refl | false ↦ refl ] in
    at (f.tag == tag)
behind_new tag (x ∷ fields) f none =
    let P : Bool → Type 0 = λ b. is_some (cond b (Some x.value) (first_value tag fields)) ≡ false → cond b (fields ++ f ∷ []) (behind tag (fields ++ f ∷ [])) ≡ [] in
    let at : (b : Bool) → P b = λ b. elim b as P [ true ↦ (λ h. cc) | false ↦ (λ h. behind_new tag fields f h) ] in
    at (x.tag == tag) none

-- the fields after one that was there
behind_kept : (fields : List TagValue) (f : TagValue) (tag number : ℕ) → IsStanding fields tag number → behind tag (fields ++ f ∷ []) ≡ fields_after (fields ++ f ∷ []) number
behind_kept fields f tag zero is = behind_new tag fields f (absent_numbered fields tag zero is refl)
behind_kept fields f tag (suc place) is =
    behind-push tag fields f (stands_numbered fields tag (suc place) is (λ e. absurd (omega (arith, e)))) ∙ ap (λ (t : List TagValue). t ++ f ∷ []) is.behind
    ∙ sym (drop-append-le (suc place) fields (f ∷ []) is.within)

-- nothing follows the last
behind_last : (fields : List TagValue) (f : TagValue) → fields_after (fields ++ f ∷ []) (length fields + 1) ≡ []
behind_last fields f = rw add-one (drop_of_length-le (fields ++ f ∷ []) {i = suc (length fields)} (omega (arith, length-append fields (f ∷ []))))

either_some : (a b : Option (List ℕ)) → is_some a ≡ true → option_or a b ≡ a
either_some (Some x) b some = refl
either_some None b some = cc

-- a number stays
standing_kept : (fields : List TagValue) (f : TagValue) (tag number : ℕ) → IsStanding fields tag number → number ≢ 0 → IsStanding (fields ++ f ∷ []) tag number
standing_kept fields f tag number is some = record {
  within = omega (arith, is.within, length-append fields (f ∷ []));
  first = first_value-push tag fields f ∙ either_some (first_value tag fields) (cond (f.tag == tag) (Some f.value) None) (stands_numbered fields tag number is some)
      ∙ is.first ∙ sym (numbered_kept fields f number is.within);
  behind = behind_kept fields f tag number is;
}

either_none : (a : Option (List ℕ)) → option_or a None ≡ a
either_none (Some x) = refl
either_none None = refl

-- so does that of another tag
standing_other : (fields : List TagValue) (f : TagValue) (tag number : ℕ) → IsStanding fields tag number → (f.tag == tag) ≡ false → IsStanding (fields ++ f ∷ []) tag number
standing_other fields f tag number is other = record {
  within = omega (arith, is.within, length-append fields (f ∷ []));
  first = first_value-push tag fields f ∙ ap (λ b. option_or (first_value tag fields) (cond b (Some f.value) None)) other ∙ either_none (first_value tag fields)
      ∙ is.first ∙ sym (numbered_kept fields f number is.within);
  behind = behind_kept fields f tag number is;
}

-- a tag without one gets the field's
standing_new : (fields : List TagValue) (f : TagValue) (tag number : ℕ) → IsStanding fields tag number → number ≡ 0 → f.tag ≡ tag → IsStanding (fields ++ f ∷ []) tag (length fields + 1)
standing_new fields f tag number is none same = record {
  within = omega (arith, length-append fields (f ∷ []));
  first = first_value-push tag fields f ∙ ap (λ o. option_or o (cond (f.tag == tag) (Some f.value) None)) (is.first ∙ ap (value_numbered fields) none)
      ∙ ap (λ b. cond b (Some f.value) None) (eq-eqb f.tag tag same) ∙ sym (numbered_last fields f);
  behind = behind_new tag fields f (absent_numbered fields tag number is none) ∙ sym (behind_last fields f);
}

-- ---- a table

-- a row of a table lists its tag
pub listed_at : (rows : List Row) (tag place : ℕ) → IsRowOf rows tag place → is_listed rows tag ≡ true
listed_at rows tag place is = list_any_at (λ row. tag_of row == tag) rows place (Required 0 Text) is.within (eq-eqb (tag_of (row_at rows place)) tag is.tagged)

-- the recorded numbers are the standings with one more field
pub noted : (rows : List Row) (fields : List TagValue) (f : TagValue) (old new : List ℕ) → AreDistinct rows → length rows ≤ length old → AreStandings rows fields old
    → Notes true rows f.tag (length fields + 1) old new → AreStandings rows (fields ++ f ∷ []) new
noted rows fields f old new distinct few are (inl none) i within =
    let own : f.tag ≢ tag_of (row_at rows i) = λ same. (
    let listed = listed_at rows f.tag i (record { within = within; tagged = sym same }) in
    let unlisted = none.0 in cc) in
    subst (λ (numbers : List ℕ). IsStanding (fields ++ f ∷ []) (tag_of (row_at rows i)) (slice_index numbers i)) (sym none.1)
    (standing_other fields f (tag_of (row_at rows i)) (slice_index old i) (are i within) (ne_eqb f.tag (tag_of (row_at rows i)) own))
noted rows fields f old new distinct few are (inr some) i within =
    let place = some.place in
    let tag = tag_of (row_at rows i) in
    let number = length fields + 1 in
    subst (λ (numbers : List ℕ). IsStanding (fields ++ f ∷ []) tag (slice_index numbers i)) (sym some.behind) (
    elim (cases_eq i place) [
      | inl same ↦
          let new_one : slice_index (set old place number) i ≡ number = ap (slice_index (set old place number)) same ∙ get_or-set_same old place number 0 (omega (arith, some.row.within, few)) in
          let absent : slice_index old i ≡ 0 = ap (slice_index old) same ∙ some.before in
          let own : f.tag ≡ tag = sym (ap (λ k. tag_of (row_at rows k)) same ∙ some.row.tagged) in
          subst (IsStanding (fields ++ f ∷ []) tag) (sym new_one) (standing_new fields f tag (slice_index old i) (are i within) absent own)
      | inr other ↦
          let old_one : slice_index (set old place number) i ≡ slice_index old i = get_or-set_other old place i number 0 other in
          let own : f.tag ≢ tag = λ e. other (distinct i place within some.row.within (sym e ∙ sym some.row.tagged)) in
          subst (IsStanding (fields ++ f ∷ []) tag) (sym old_one) (standing_other fields f tag (slice_index old i) (are i within) (ne_eqb f.tag tag own))
    ])

-- ---- a pass

pub and_false : (b : Bool) → (b && false) ≡ false
and_false true = refl
and_false false = refl

-- a tag that is newly recorded isn't repeated
first_noted : (rows : List Row) (fields : List TagValue) (f : TagValue) (number : ℕ) (old new : List ℕ) → AreStandings rows fields old → Notes true rows f.tag number old new
    → is_second rows fields f ≡ false
first_noted rows fields f number old new are (inl none) = ap (λ b. b && stands f.tag fields) none.0
first_noted rows fields f number old new are (inr some) =
    let place = some.place in
    let absent : stands f.tag fields ≡ false =
    ap (λ t. stands t fields) (sym some.row.tagged) ∙ absent_numbered fields (tag_of (row_at rows place)) (slice_index old place) (are place some.row.within) some.before in
    ap (λ b. is_listed rows f.tag && b) absent ∙ and_false (is_listed rows f.tag)

-- one that was recorded before is
second_noted : (rows : List Row) (fields : List TagValue) (f : TagValue) (number : ℕ) (old new : List ℕ) → AreStandings rows fields old → Notes false rows f.tag number old new
    → is_second rows fields f ≡ true
second_noted rows fields f number old new are some =
    let place = some.place in
    let there : stands f.tag fields ≡ true =
    ap (λ t. stands t fields) (sym some.row.tagged) ∙ stands_numbered fields (tag_of (row_at rows place)) (slice_index old place) (are place some.row.within) some.before in
    ap (λ b. b && stands f.tag fields) (listed_at rows f.tag place some.row) ∙ there

-- the numbers so far, for the fields passed
pub record AreNoted (rows : List Row) (fields ahead : List TagValue) (seen : ℕ) (numbers : List ℕ) : Type 0 where
  pub walked : IsWalked rows fields ahead seen
  pub first : AreStandings rows (take seen fields) numbers

-- they are right one field further on
pub noted_on : (rows : List Row) (fields ahead rest : List TagValue) (field : TagValue) (seen : ℕ) (old new : List ℕ) → AreDistinct rows → length rows ≤ length old
    → AreNoted rows fields ahead seen old → ahead ≡ field ∷ rest → Notes true rows field.tag (seen + 1) old new → AreNoted rows fields rest (seen + 1) new
noted_on rows fields ahead rest field seen old new distinct few are next notes =
    let before = take seen fields in
    let size : length before ≡ seen = length-take-le seen fields (omega (arith, are.walked.counted)) in
    let now : Notes true rows field.tag (length before + 1) old new = subst (λ k. Notes true rows field.tag (k + 1) old new) (sym size) notes in
    record {
      walked = walked_on rows fields ahead rest field seen are.walked next (first_noted rows before field (seen + 1) old new are.first notes);
      first = subst (λ (t : List TagValue). AreStandings rows t new) (sym (taken_on fields ahead rest field seen are.walked.walked are.walked.counted next))
          (noted rows before field old new distinct few are.first now);
    }

-- a field whose tag was recorded before is the leftmost that repeats one
pub found_again : (rows : List Row) (fields ahead rest : List TagValue) (field : TagValue) (seen : ℕ) (old new : List ℕ)
    → AreNoted rows fields ahead seen old → ahead ≡ field ∷ rest → Notes false rows field.tag (seen + 1) old new → repeated rows fields ≡ Some field.tag
found_again rows fields ahead rest field seen old new are next notes =
    let before = take seen fields in
    let second = second_noted rows before field (seen + 1) old new are.first notes in
    let step : repeated_after rows before (field ∷ rest) ≡ Some field.tag = rw second refl in
    are.walked.same ∙ ap (repeated_after rows before) next ∙ step

-- ---- missing tags

-- a row that isn't required, or whose tag is present
pub not_missing : (rows : List Row) (fields : List TagValue) (place : ℕ) → place < length rows
    → (is_required (row_at rows place) && not (stands (tag_of (row_at rows place)) fields)) ≡ false → missing (drop place rows) fields ≡ missing (drop (place + 1) rows) fields
not_missing rows fields place within none = rw (drop_row rows place within, none) refl
