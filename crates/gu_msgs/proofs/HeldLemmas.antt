-- Facts about a message whose shape and values are sound.
use Rattle.gu_msgs.proofs.Words.{◌≡◌, ◌≢◌, ◌≤◌, ◌++◌, ◌==◌, not, ℕ, Bool, true, false, cond, List, [], ◌∷◌, Option, Some, None, MatchOption, length, is_some, refl, sym, ◌∙◌, AllByRecursion, flat_map, option_map, option_map_or, option_or, digits_value, TagValue, number_at, MSG_TYPE, entries_begun, entries_of, group_of, AreSound, Item, items_of, message_items, row_items, IsNumberWithin, IsSound, tag_of, count_fault, counted_fault, entries_fault, fault_at, groups_fault, missing, shape_fault, tags_fault, body_rows, entry_rows, header_rows, Holds, behind, first_value, is_numeral, stands, MsgType, code_of, IncorrectDataFormat, IncorrectNumInGroupCount, Kind, Row, Required, Optional}
use Rattle.std.proofs.lemmas.Bool.{eqb-true}
use Rattle.std.proofs.lemmas.Grind.{flat_map-append}
use Rattle.gu_msgs.specs.Held.{AreHeld, HasGroup, IsWellMade}
use Rattle.gu_msgs.proofs.ShapeLemmas.{missing-append}

-- ---- a number

-- a number that is held is in its range
pub number_held : (tag least most : ℕ) (fields : List TagValue) → Holds tag (IsNumberWithin least most) fields → (least ≤ number_at tag fields) × (number_at tag fields ≤ most)
number_held tag least most fields h = rw h.first (h.such.from, h.such.to)

-- ---- options

pub none_of_either : {X : Type 0} (a b : Option X) → option_or a b ≡ None → (a ≡ None) × (b ≡ None)
none_of_either None b h = (refl, h)
none_of_either (Some x) b h = cc

pub none_mapped : {X Y : Type 0} (f : X → Y) (o : Option X) → option_map f o ≡ None → o ≡ None
none_mapped f None h = refl
none_mapped f (Some x) h = cc

-- ---- rows

some_value : (o : Option (List ℕ)) → is_some o ≡ true → (value : List ℕ) × (o ≡ Some value)
some_value (Some value) h = (value, refl)
some_value None h = cc

sound_value : (kind : Kind) (o : Option (List ℕ)) (value : List ℕ) → o ≡ Some value → MatchOption o (Unit {0}) (IsSound kind) → IsSound kind value
sound_value kind o value e h = rw e at h

held_required : (tag : ℕ) (kind : Kind) (fields : List TagValue) → stands tag fields ≡ true → MatchOption (first_value tag fields) (Unit {0}) (IsSound kind) → Holds tag (IsSound kind) fields
held_required tag kind fields there sound =
    let v = some_value (first_value tag fields) there in
    record { value = v.0; first = v.1; such = sound_value kind (first_value tag fields) v.0 v.1 sound }

-- tags of which none is missing, and whose values are sound
held : (rows : List Row) (fields : List TagValue) → missing rows fields ≡ None → AreSound (items_of rows fields) → AreHeld rows fields
held [] fields none sound = tt
held (Required tag kind ∷ rows) fields none sound =
    let P : Bool → Type 0 = λ b. cond (not b) (Some tag) (missing rows fields) ≡ None → (b ≡ true) × (missing rows fields ≡ None) in
    let at : (b : Bool) → P b = λ b. elim b as P [ true ↦ (λ h. (refl, h)) | false ↦ (λ h. cc) ] in
    let parts = at (stands tag fields) none in
    (held_required tag kind fields parts.0 sound.0, held rows fields parts.1 sound.1)
held (Optional tag kind ∷ rows) fields none sound = (sound.0, held rows fields none sound.1)

-- the same for a table without a fault
held_tags : (rows : List Row) (fields : List TagValue) → tags_fault rows fields ≡ None → AreSound (items_of rows fields) → AreHeld rows fields
held_tags rows fields none sound =
    let parts = none_of_either _ _ none in
    held rows fields (none_mapped _ (missing rows fields) parts.1) sound

sound_front : (xs ys : List Item) → AreSound (xs ++ ys) → AreSound xs
sound_front [] ys h = tt
sound_front (x ∷ xs) ys h = (h.0, sound_front xs ys h.1)

sound_rest : (xs ys : List Item) → AreSound (xs ++ ys) → AreSound ys
sound_rest [] ys h = h
sound_rest (x ∷ xs) ys h = sound_rest xs ys h.1

-- ---- groups

held_entries : (rows : List Row) (entries : List (List TagValue)) → entries_fault rows entries ≡ None → AreSound (flat_map (items_of rows) entries) → AllByRecursion (AreHeld rows) entries
held_entries rows [] none sound = tt
held_entries rows (entry ∷ entries) none sound =
    let parts = none_of_either _ _ none in
    let others : List Item = flat_map (items_of rows) entries in (
      held_tags rows entry parts.0 (sound_front (items_of rows entry) others sound),
      held_entries rows entries parts.1 (sound_rest (items_of rows entry) others sound),
    )

-- there is nothing after a tag that is absent
behind_absent : (tag : ℕ) (fields : List TagValue) → first_value tag fields ≡ None → behind tag fields ≡ []
behind_absent tag [] none = refl
behind_absent tag (f ∷ fs) none =
    let P : Bool → Type 0 = λ b. cond b (Some f.value) (first_value tag fs) ≡ None → cond b fs (behind tag fs) ≡ [] in
    let at : (b : Bool) → P b = λ b. elim b as P [ true ↦ (λ h. cc) | false ↦ (λ h. behind_absent tag fs h) ] in
    at (f.tag == tag) none

entries_of_none : (rows : List Row) → entries_begun rows [] ≡ []
entries_of_none [] = refl
entries_of_none (row ∷ rows) = refl

-- a group whose counter is absent has no entries
entries_absent : (kind : MsgType) (counter : ℕ) (fields : List TagValue) → first_value counter fields ≡ None → entries_of kind counter fields ≡ []
entries_absent kind counter fields none = rw (behind_absent counter fields none) (entries_of_none (entry_rows counter))

-- a counter without a fault counts the entries
pub counted : (counter : ℕ) (text : List ℕ) (entries : ℕ) → count_fault counter text entries ≡ None → digits_value 10 text ≡ entries
counted counter text entries none =
    let n = digits_value 10 text in
    let P : Bool → Bool → Type 0 = λ b same. cond (not b) (Some (fault_at IncorrectDataFormat counter)) (cond same None (Some (fault_at IncorrectNumInGroupCount counter))) ≡ None → same ≡ true in
    let at : (b same : Bool) → P b same = λ b same. elim b as (λ v. P v same) [ false ↦ (λ h. cc) | true ↦ elim same as (λ v. P true v) [ true ↦ (λ h. refl) | false ↦ (λ h. cc) ] ] in
    eqb-true n entries (at (is_numeral text) (n == entries) none)

-- facts about a group without a fault
has_group : (rows : List Row) (counter : ℕ) (text : Option (List ℕ)) (group : List TagValue) → (text ≡ None → entries_begun rows group ≡ [])
    → counted_fault rows counter text (entries_begun rows group) ≡ None → AreSound (flat_map (items_of rows) (entries_begun rows group))
    → (rows ≢ [] → option_map_or (digits_value 10) text 0 ≡ length (entries_begun rows group)) × AllByRecursion (AreHeld rows) (entries_begun rows group)
has_group [] counter text group absent none sound = ((λ some. absurd (some refl)), tt)
has_group (row ∷ rows) counter None group absent none sound =
    let empty = absent refl in
    ((λ some. rw empty refl), rw empty tt)
has_group (row ∷ rows) counter (Some text) group absent none sound =
    let parts = none_of_either _ _ none in
    let entries = entries_begun (row ∷ rows) group in
    ((λ some. counted counter text (length entries) parts.0), held_entries (row ∷ rows) entries parts.1 sound)

-- ---- the whole table

front_values : (kind : MsgType) (fields : List TagValue) (rows : List Row) → AreSound (flat_map (row_items kind fields) rows) → AreSound (items_of rows fields)
front_values kind fields [] sound = tt
front_values kind fields (row ∷ rows) sound =
    let group : List Item = flat_map (items_of (entry_rows (tag_of row))) (entries_of kind (tag_of row) fields) in
    (sound.0, front_values kind fields rows (sound_rest group (flat_map (row_items kind fields) rows) sound.1))

has_groups : (kind : MsgType) (fields : List TagValue) (rows : List Row) → groups_fault kind fields rows ≡ None → AreSound (flat_map (row_items kind fields) rows)
    → AllByRecursion (HasGroup kind fields) rows
has_groups kind fields [] none sound = tt
has_groups kind fields (row ∷ rows) none sound =
    let tag = tag_of row in
    let parts = none_of_either _ _ none in
    let group : List Item = flat_map (items_of (entry_rows tag)) (entries_of kind tag fields) in
    let others : List Item = flat_map (row_items kind fields) rows in
    let here = has_group (entry_rows tag) tag (first_value tag fields) (group_of kind tag fields) (entries_absent kind tag fields) parts.0 (sound_front group others sound.1) in
    (record { counted = here.0; each = here.1 }, has_groups kind fields rows parts.1 (sound_rest group others sound.1))

-- a message whose shape and values are sound
pub well_made : (kind : MsgType) (fields : List TagValue) → first_value MSG_TYPE fields ≡ Some (code_of kind) → shape_fault kind fields ≡ None → AreSound (message_items kind fields) → IsWellMade kind fields
well_made kind fields code shape values =
    let parts = none_of_either _ _ shape in
    let tags = none_of_either _ _ parts.0 in
    let none : missing (header_rows ++ body_rows kind) fields ≡ None = none_mapped _ (missing (header_rows ++ body_rows kind) fields) tags.1 in
    let body_none = none_of_either (missing header_rows fields) (missing (body_rows kind) fields) (sym (missing-append header_rows (body_rows kind) fields) ∙ none) in
    let split = rw (flat_map-append (row_items kind fields) header_rows (body_rows kind)) at values in
    let body = sound_rest (flat_map (row_items kind fields) header_rows) (flat_map (row_items kind fields) (body_rows kind)) split in
    record {
      code = code;
      shape = shape;
      values = values;
      held = held (body_rows kind) fields body_none.1 (front_values kind fields (body_rows kind) body);
      groups = has_groups kind fields (body_rows kind) parts.1 body;
    }
