-- The values of a message, row by row.
use Rattle.gu_msgs.proofs.Words.{◌≡◌, ◌≢◌, ◌<◌, ◌≤◌, ◌+◌, ◌-◌, ◌++◌, ◌&&◌, not, ℕ, zero, suc, Bool, true, false, cond, List, [], ◌∷◌, Option, Some, None, MatchOption, MatchResult, Result, Ok, Err, inl, inr, length, take, drop, slice_get, refl, ap, sym, subst, ◌∙◌, arith, add-one, append-nil, take-append-drop, flat_map, option_map, digits_value, TagValue, Agrees, IsFirstFault, entries_of, AreSound, IsFirstAtFault, IsItemAtFault, IsSoundItem, Item, item_of, items_of, message_items, row_items, IsAtFault, IsNumberWithin, IsSound, IsOfType, AreJudged, CountsEntries, HasOneEntry, IsRefusedOf, IsShaped, IsTypedRefusal, Outlined, ReadsEntriesOrMemory, ReadsEntry, ReadsTo, ReadsToOrMemory, entries_at, entry_rows_at, row, tag_at, value_at, is_required, kind_of, tag_of, count_fault, counted_fault, entries_fault, fault_at, group_fault, groups_fault, missing, repeated, shape_fault, tags_fault, IsStanding, row_at, value_numbered, body_rows, entry_rows, header_rows, outer_rows, first_value, stands, Fault, MsgType, SessionRejectReason, RequiredTagMissing, TagAppearsMoreThanOnce, Number, Text, Row, Optional, Required}
use Rattle.std.proofs.lemmas.Grind.{flat_map-append}
use Rattle.std.proofs.lemmas.List.Concat.{flat_map-cons}
use Rattle.std.proofs.Math.Seq.{take-length, take-suc}
use Rattle.gu_msgs.specs.declared.fault.MsgFault.{MsgFault}
use Rattle.gu_msgs.specs.declared.fault.MsgFault.TheVariants.{Memory, Rejected}
use Rattle.gu_msgs.proofs.HeldLemmas.{counted, none_mapped, none_of_either}
use Rattle.gu_msgs.proofs.ItemLemmas.{behind_sound, drop_row, fault_before, fault_in_front, sound-append}
use Rattle.gu_msgs.proofs.StandingLemmas.{absent_numbered}
use Rattle.gu_msgs.proofs.TableLemmas.{outer_table}

-- ---- positions of tags

-- a table has at most 20 rows
pub few : (kind : MsgType) (place : ℕ) → place < length (outer_rows kind) → place < 20
few kind place within = omega (arith, within, (outer_table kind).few)

-- no tag of a later row is missing
none_later : (r : Row) (rows : List Row) (fields : List TagValue) → missing (r ∷ rows) fields ≡ None → missing rows fields ≡ None
none_later r rows fields none =
    let P : Bool → Type 0 = λ b. cond b (Some (tag_of r)) (missing rows fields) ≡ None → missing rows fields ≡ None in
    let at : (b : Bool) → P b = λ b. elim b as P [ true ↦ (λ h. cc) | false ↦ (λ h. h) ] in
    at (is_required r && not (stands (tag_of r) fields)) none

-- if none is missing, a required tag is present
stands_at : (rows : List Row) (fields : List TagValue) (place : ℕ) → missing rows fields ≡ None → place < length rows → is_required (row_at rows place) ≡ true
    → stands (tag_of (row_at rows place)) fields ≡ true
stands_at [] fields place none within required = absurd (omega (arith, within))
stands_at (Required tag kind ∷ rows) fields zero none within required =
    let P : Bool → Type 0 = λ b. cond (not b) (Some tag) (missing rows fields) ≡ None → b ≡ true in
    let at : (b : Bool) → P b = λ b. elim b as P [ true ↦ (λ h. refl) | false ↦ (λ h. cc) ] in
    at (stands tag fields) none
stands_at (Optional tag kind ∷ rows) fields zero none within required = cc
stands_at (r ∷ rows) fields (suc place) none within required = stands_at rows fields place (none_later r rows fields none) (omega (arith, within)) required

-- the number of a required tag isn't 0
pub some_number : (kind : MsgType) (fields : List TagValue) (place number : ℕ) → shape_fault kind fields ≡ None → place < length (outer_rows kind)
    → is_required (row_at (outer_rows kind) place) ≡ true → IsStanding fields (tag_of (row_at (outer_rows kind) place)) number → 1 ≤ number
some_number kind fields place (suc n) shape within required is = omega arith
some_number kind fields place zero shape within required is =
    let parts = none_of_either (tags_fault (outer_rows kind) fields) (groups_fault kind fields (body_rows kind)) shape in
    let tags = none_of_either (option_map (fault_at TagAppearsMoreThanOnce) (repeated (outer_rows kind) fields)) (option_map (fault_at RequiredTagMissing) (missing (outer_rows kind) fields)) parts.0 in
    let there : stands (tag_of (row_at (outer_rows kind) place)) fields ≡ true = stands_at (outer_rows kind) fields place (none_mapped (fault_at RequiredTagMissing) (missing (outer_rows kind) fields) tags.1) within required in
    let absent : stands (tag_of (row_at (outer_rows kind) place)) fields ≡ false = absent_numbered fields (tag_of (row_at (outer_rows kind) place)) zero is refl in
    cc

-- the value of a field by its number
pub numbered_value : (fields : List TagValue) (number : ℕ) (f : TagValue) → 1 ≤ number → slice_get fields (number - 1) ≡ Some f → value_numbered fields number ≡ Some f.value
numbered_value fields zero f some at = absurd (omega (arith, some))
numbered_value fields (suc n) f some at = let same : suc n - 1 ≡ n = omega arith in ap (option_map (λ (t : TagValue). t.value)) (rw same at at)

-- ---- values so far

-- one more row whose values are allowed
pub row_judged : (m : Outlined) (place : ℕ) → place < length (outer_rows m.kind) → AreJudged m place → AreSound (row_items m.kind m.fields (row m place)) → AreJudged m (place + 1)
row_judged m place within judged sound =
    let values : Row → List Item = row_items m.kind m.fields in
    rw (add-one, take-suc (outer_rows m.kind) place (Required 0 Text) within, flat_map-append values (take place (outer_rows m.kind)) (row m place ∷ []), append-nil)
    (sound-append (flat_map values (take place (outer_rows m.kind))) (values (row m place)) judged sound)

-- the first fault of a row, if those before are allowed
pub row_fault : (m : Outlined) (place : ℕ) (fault : Fault) → place < length (outer_rows m.kind) → AreJudged m place → IsFirstAtFault (row_items m.kind m.fields (row m place)) fault
    → IsFirstAtFault (message_items m.kind m.fields) fault
row_fault m place fault within judged first =
    let values : Row → List Item = row_items m.kind m.fields in
    let rows : List Row = outer_rows m.kind in
    let others : List Item = flat_map values (drop (place + 1) rows) in
    let split : message_items m.kind m.fields ≡ flat_map values (take place rows) ++ (values (row m place) ++ others) =
    ap (flat_map values) (sym (take-append-drop place rows)) ∙ flat_map-append values (take place rows) (drop place rows)
    ∙ ap (λ (t : List Row). flat_map values (take place rows) ++ flat_map values t) (drop_row rows place within)
    ∙ ap (λ (t : List Item). flat_map values (take place rows) ++ t) (flat_map-cons values (row m place) (drop (place + 1) rows)) in
    rw split (behind_sound (flat_map values (take place rows)) (values (row m place) ++ others) judged (Some fault) (fault_before (values (row m place)) others fault first))

-- all rows
pub all_judged : (m : Outlined) → AreJudged m (length (outer_rows m.kind)) → AreSound (message_items m.kind m.fields)
all_judged m judged = rw (take-length (outer_rows m.kind)) at judged

-- a row that counts no group has one value
plain_items : (m : Outlined) (place : ℕ) → entry_rows (tag_at m place) ≡ [] → row_items m.kind m.fields (row m place) ≡ item_of m.fields (row m place) ∷ []
plain_items m place plain = rw plain refl

-- one more such row
pub one_more : (m : Outlined) (place : ℕ) → place < length (outer_rows m.kind) → entry_rows (tag_at m place) ≡ [] → AreJudged m place → IsSoundItem (item_of m.fields (row m place))
    → AreJudged m (place + 1)
one_more m place within plain judged sound = row_judged m place within judged (subst AreSound (sym (plain_items m place plain)) (sound, tt))

-- a text that is allowed
pub sound_text : (m : Outlined) (place : ℕ) (text : List ℕ) → value_at m place ≡ Some text → IsSound (kind_of (row m place)) text → IsSoundItem (item_of m.fields (row m place))
sound_text m place text is sound = rw is sound

-- a value that is absent
pub sound_absent : (m : Outlined) (place : ℕ) → value_at m place ≡ None → IsSoundItem (item_of m.fields (row m place))
sound_absent m place none = rw none tt

-- the value of a row is invalid, if those before are allowed
pub value_fault : (m : Outlined) (place : ℕ) (text : List ℕ) (reason : SessionRejectReason) → place < length (outer_rows m.kind) → AreJudged m place → value_at m place ≡ Some text
    → IsAtFault (kind_of (row m place)) text reason → IsFirstAtFault (message_items m.kind m.fields) (fault_at reason (tag_at m place))
value_fault m place text reason within judged is at_fault =
    let fault : Fault = fault_at reason (tag_at m place) in
    let item : Item = item_of m.fields (row m place) in
    let first : IsItemAtFault item reason = rw is at_fault in
    row_fault m place fault within judged
    (fault_in_front item (flat_map (items_of (entry_rows (tag_at m place))) (entries_of m.kind (tag_at m place) m.fields)) fault refl first)

-- ---- rows that allow any text

pub any_text : (o : Option (List ℕ)) → MatchOption o (Unit {0}) (IsSound Text)
any_text None = tt
any_text (Some text) = tt

-- the first rows of each table
pub in_header : (kind : MsgType) (place : ℕ) → place < 10 → place < length (outer_rows kind)
unfolding header_rows
in_header kind place first = omega (arith, first)

pub first_texts : (m : Outlined) → AreJudged m 5
unfolding header_rows entry_rows
first_texts m = (any_text _, (any_text _, (any_text _, (any_text _, (any_text _, tt)))))

-- ---- groups

-- the first fault of the groups of rows is that of one of them
group_at : (kind : MsgType) (fields : List TagValue) (rows : List Row) (place : ℕ) → groups_fault kind fields rows ≡ None → place < length rows
    → group_fault kind fields (tag_of (row_at rows place)) ≡ None
group_at kind fields [] place none within = absurd (omega (arith, within))
group_at kind fields (r ∷ rows) zero none within = (none_of_either (group_fault kind fields (tag_of r)) (groups_fault kind fields rows) none).0
group_at kind fields (r ∷ rows) (suc place) none within =
    group_at kind fields rows place (none_of_either (group_fault kind fields (tag_of r)) (groups_fault kind fields rows) none).1 (omega (arith, within))

-- no tag of the header counts a group
all_groups : (kind : MsgType) (fields : List TagValue) → groups_fault kind fields (body_rows kind) ≡ groups_fault kind fields (outer_rows kind)
unfolding header_rows entry_rows
all_groups kind fields = refl

-- a group of a message of sound shape has no fault
sound_group : (m : Outlined) (place : ℕ) → shape_fault m.kind m.fields ≡ None → place < length (outer_rows m.kind) → group_fault m.kind m.fields (tag_at m place) ≡ None
sound_group m place shape within =
    let parts = none_of_either (tags_fault (outer_rows m.kind) m.fields) (groups_fault m.kind m.fields (body_rows m.kind)) shape in
    group_at m.kind m.fields (outer_rows m.kind) place (sym (all_groups m.kind m.fields) ∙ parts.1) within

-- the counter of such a group counts the entries, which have their tags
counted_entries : (rows : List Row) (counter : ℕ) (text : List ℕ) (entries : List (List TagValue)) → rows ≢ [] → counted_fault rows counter (Some text) entries ≡ None
    → (digits_value 10 text ≡ length entries) × (entries_fault rows entries ≡ None)
counted_entries [] counter text entries some none = absurd (some refl)
counted_entries (r ∷ rows) counter text entries some none =
    let parts = none_of_either (count_fault counter text (length entries)) (entries_fault (r ∷ rows) entries) none in
    (counted counter text (length entries) parts.0, parts.1)

pub count_of_entries : (m : Outlined) (place least most n : ℕ) (text : List ℕ) → shape_fault m.kind m.fields ≡ None → place < length (outer_rows m.kind) → entry_rows_at m place ≢ []
    → kind_of (row m place) ≡ Number least most → value_at m place ≡ Some text → IsNumberWithin least most text → digits_value 10 text ≡ n → CountsEntries m place least most n
count_of_entries m place least most n text shape within counts is_kind is sound value =
    let none = rw is at (sound_group m place shape within) in
    let parts = counted_entries (entry_rows_at m place) (tag_at m place) text (entries_at m place) counts none in
    record {
      sound = sound_text m place text is (rw is_kind sound);
      counted = sym value ∙ parts.0;
      tags = parts.1;
      from = omega (arith, sound.from, value);
      to = omega (arith, sound.to, value);
    }

-- a group whose entries' values are allowed
pub group_judged : (m : Outlined) (place : ℕ) → place < length (outer_rows m.kind) → AreJudged m place → IsSoundItem (item_of m.fields (row m place))
    → AreSound (flat_map (items_of (entry_rows_at m place)) (entries_at m place)) → AreJudged m (place + 1)
group_judged m place within judged sound entries = row_judged m place within judged (sound, entries)

-- the first fault of a group's entries
pub entries_at_fault : (m : Outlined) (place : ℕ) (fault : Fault) → place < length (outer_rows m.kind) → AreJudged m place → IsSoundItem (item_of m.fields (row m place))
    → IsFirstAtFault (flat_map (items_of (entry_rows_at m place)) (entries_at m place)) fault → IsFirstAtFault (message_items m.kind m.fields) fault
entries_at_fault m place fault within judged sound first =
    row_fault m place fault within judged
    (behind_sound (item_of m.fields (row m place) ∷ []) (flat_map (items_of (entry_rows_at m place)) (entries_at m place)) (sound, tt) (Some fault) first)

-- the values of one entry are those of the group
pub one_entry_judged : (m : Outlined) (place : ℕ) (entry : List TagValue) → place < length (outer_rows m.kind) → AreJudged m place → HasOneEntry m place entry
    → AreSound (items_of (entry_rows_at m place) entry) → AreJudged m (place + 1)
one_entry_judged m place entry within judged has sound =
    group_judged m place within judged has.sound
    (subst (λ (es : List (List TagValue)). AreSound (flat_map (items_of (entry_rows_at m place)) es)) (sym has.one) (rw append-nil sound))

pub one_entry_fault : (m : Outlined) (place : ℕ) (entry : List TagValue) (fault : Fault) → place < length (outer_rows m.kind) → AreJudged m place → HasOneEntry m place entry
    → IsFirstAtFault (items_of (entry_rows_at m place) entry) fault → IsFirstAtFault (message_items m.kind m.fields) fault
one_entry_fault m place entry fault within judged has first =
    entries_at_fault m place fault within judged has.sound
    (subst (λ (es : List (List TagValue)). IsFirstAtFault (flat_map (items_of (entry_rows_at m place)) es) fault) (sym has.one) (rw append-nil first))

-- the values of a group's one entry, read after those of the earlier rows
pub one_entry_read : {T : Type 0} (m : Outlined) (place : ℕ) (entry : List TagValue) (Is Has : T → Type 0) (result : Result T Fault) → place < length (outer_rows m.kind) → AreJudged m place
    → HasOneEntry m place entry → ((value : T) → Is value → Has value) → ReadsEntry (entry_rows_at m place) entry Is result → ReadsTo m (place + 1) Has result
one_entry_read m place entry Is Has (Ok value) within judged has says read = (says value read.0, one_entry_judged m place entry within judged has read.1)
one_entry_read m place entry Is Has (Err fault) within judged has says read = one_entry_fault m place entry fault within judged has read

-- ---- the values of an entry

-- a required tag of an entry is present
pub tag_stands : (rows : List Row) (entry : List TagValue) (place : ℕ) → tags_fault rows entry ≡ None → place < length rows → is_required (row_at rows place) ≡ true
    → stands (tag_of (row_at rows place)) entry ≡ true
tag_stands rows entry place none within required =
    let parts = none_of_either (option_map (fault_at TagAppearsMoreThanOnce) (repeated rows entry)) (option_map (fault_at RequiredTagMissing) (missing rows entry)) none in
    stands_at rows entry place (none_mapped (fault_at RequiredTagMissing) (missing rows entry) parts.1) within required

-- a value that an entry holds
pub entry_sound : (entry : List TagValue) (r : Row) (text : List ℕ) → first_value (tag_of r) entry ≡ Some text → IsSound (kind_of r) text → IsSoundItem (item_of entry r)
entry_sound entry r text is sound = rw is sound

-- the first of an entry's values is invalid
pub entry_first : (entry : List TagValue) (r : Row) (others : List Row) (text : List ℕ) (fault : Fault) → first_value (tag_of r) entry ≡ Some text → fault.tag ≡ tag_of r
    → IsAtFault (kind_of r) text fault.reason → IsFirstAtFault (items_of (r ∷ others) entry) fault
entry_first entry r others text fault is tag_is at_fault =
    let first : IsItemAtFault (item_of entry r) fault.reason = rw is at_fault in
    fault_in_front (item_of entry r) (items_of others entry) fault tag_is first

-- the second is, but the first isn't
pub entry_second : (entry : List TagValue) (q r : Row) (others : List Row) (text : List ℕ) (fault : Fault) → IsSoundItem (item_of entry q) → first_value (tag_of r) entry ≡ Some text
    → fault.tag ≡ tag_of r → IsAtFault (kind_of r) text fault.reason → IsFirstAtFault (items_of (q ∷ r ∷ others) entry) fault
entry_second entry q r others text fault sound is tag_is at_fault =
    behind_sound (item_of entry q ∷ []) (items_of (r ∷ others) entry) (sound, tt) (Some fault) (entry_first entry r others text fault is tag_is at_fault)

-- the entry is refused
pub entry_refused : {T : Type 0} (rows : List Row) (entry : List TagValue) (Says : T → Type 0) (result : Result T Fault) (fault : Fault) → (y : Fault) × (result ≡ Err y) × (y ≡ fault)
    → IsFirstAtFault (items_of rows entry) fault → ReadsEntry rows entry Says result
entry_refused rows entry Says result fault passed first = rw (passed.1, passed.2) first

-- so are entries
pub entries_refused : {T : Type 0} (rows : List Row) (entries : List (List TagValue)) (Says : T → Type 0) (result : Result T MsgFault) (fault : Fault)
    → (y : MsgFault) × (result ≡ Err y) × (y ≡ Rejected fault) → IsFirstAtFault (flat_map (items_of rows) entries) fault → ReadsEntriesOrMemory rows entries Says result
entries_refused rows entries Says result fault passed first = rw (passed.1, passed.2) first

-- the tags of entries after one
pub later_tags : (rows : List Row) (entry : List TagValue) (entries : List (List TagValue)) → entries_fault rows (entry ∷ entries) ≡ None → entries_fault rows entries ≡ None
later_tags rows entry entries none = (none_of_either (tags_fault rows entry) (entries_fault rows entries) none).1

-- ---- refusals

-- a value of a group's entries, unless an allocation failed
pub group_refused : {T : Type 0} (m : Outlined) (place : ℕ) (Has : T → Type 0) (e : MsgFault) (result : Result T MsgFault) → place < length (outer_rows m.kind)
    → AreJudged m place → IsSoundItem (item_of m.fields (row m place)) → (y : MsgFault) × (result ≡ Err y) × (y ≡ e)
    → IsRefusedOf (flat_map (items_of (entry_rows_at m place)) (entries_at m place)) e → ReadsToOrMemory m (place + 1) Has result
group_refused m place Has Memory result within judged sound passed h = rw (passed.1, passed.2) tt
group_refused m place Has (Rejected fault) result within judged sound passed h = rw (passed.1, passed.2) (entries_at_fault m place fault within judged sound h)

-- the first value that isn't allowed is the first fault
pub first_value_fault : (kind : MsgType) (m : Outlined) (fault : Fault) → IsShaped kind m → IsFirstAtFault (message_items m.kind m.fields) fault → IsFirstFault kind m.fields fault
first_value_fault kind m fault shaped first = inr (inl (record { shape = shaped.shape; first = rw shaped.is_kind at first }))

-- which is the refusal, unless an allocation failed
pub refused : {T : Type 0} (kind : MsgType) (m : Outlined) (Has : T → Type 0) (e : MsgFault) (result : Result T MsgFault) → IsShaped kind m
    → (y : MsgFault) × (result ≡ Err y) × (y ≡ e) → IsRefusedOf (message_items m.kind m.fields) e → MatchResult result Has (IsTypedRefusal kind m.fields)
refused kind m Has Memory result shaped passed h = rw (passed.1, passed.2) tt
refused kind m Has (Rejected fault) result shaped passed h = rw (passed.1, passed.2) (first_value_fault kind m fault shaped h)

-- all values of a message of this type
pub sound_values : (kind : MsgType) (m : Outlined) → IsShaped kind m → AreJudged m (length (outer_rows kind)) → AreSound (message_items kind m.fields)
sound_values kind m shaped judged = rw shaped.is_kind at (all_judged m (rw (← shaped.is_kind) at judged))

-- a message of this type without a fault
pub of_type : (kind : MsgType) (m : Outlined) → IsShaped kind m → AreJudged m (length (outer_rows kind)) → Agrees kind m.fields → IsOfType kind m.fields
of_type kind m shaped judged agrees = record { code = shaped.code; faultless = record { shape = shaped.shape; values = sound_values kind m shaped judged; agrees = agrees } }
