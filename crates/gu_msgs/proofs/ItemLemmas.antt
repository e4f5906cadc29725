-- The first invalid value in consecutive lists.
use Rattle.gu_msgs.proofs.Words.{◌≡◌, ◌++◌, ◌+◌, ◌<◌, ℕ, List, [], ◌∷◌, Option, Some, None, MatchOption, refl, append_assoc, add-one, length, drop, flat_map, TagValue, AreSound, IsFirstAtFault, IsItemAtFault, IsSoundItem, Item, item_of, items_of, tag_of, row_at, Text, Row, Required, Fault}
use Rattle.std.proofs.Math.Seq.{drop-cons}

-- all are sound, or this is the first fault
abbrev pub HasFirst : List Item → Option Fault → Type 0
HasFirst items found = MatchOption found (AreSound items) (λ fault. IsFirstAtFault items fault)

pub sound-append : (xs ys : List Item) → AreSound xs → AreSound ys → AreSound (xs ++ ys)
sound-append [] ys first others = others
sound-append (x ∷ xs) ys first others = (first.0, sound-append xs ys first.1 others)

-- the first fault after sound values
pub behind_sound : (xs ys : List Item) → AreSound xs → (found : Option Fault) → HasFirst ys found → HasFirst (xs ++ ys) found
behind_sound xs ys sound None h = sound-append xs ys sound h
behind_sound xs ys sound (Some fault) h = record {
  before = xs ++ h.before;
  item = h.item;
  behind = h.behind;
  parts = rw h.parts (rw append_assoc refl);
  sound = sound-append xs h.before sound h.sound;
  tag_is = h.tag_is;
  at_fault = h.at_fault;
}

-- a fault is still the first if others follow
pub fault_before : (xs ys : List Item) (fault : Fault) → IsFirstAtFault xs fault → IsFirstAtFault (xs ++ ys) fault
fault_before xs ys fault h = record {
  before = h.before;
  item = h.item;
  behind = h.behind ++ ys;
  parts = rw h.parts (rw append_assoc refl);
  sound = h.sound;
  tag_is = h.tag_is;
  at_fault = h.at_fault;
}

-- the first value is invalid
pub fault_in_front : (x : Item) (xs : List Item) (fault : Fault) → fault.tag ≡ x.tag → IsItemAtFault x fault.reason → IsFirstAtFault (x ∷ xs) fault
fault_in_front x xs fault tag_is at_fault = record { before = []; item = x; behind = xs; parts = refl; sound = tt; tag_is = tag_is; at_fault = at_fault }

-- ---- a pass over tables

pub drop_row : (rows : List Row) (i : ℕ) → i < length rows → drop i rows ≡ row_at rows i ∷ drop (i + 1) rows
drop_row rows i within = rw add-one (drop-cons rows i (Required 0 Text) within)

-- a row with sound values, and those after it
pub past_row : (values : Row → List Item) (rows : List Row) (i : ℕ) → i < length rows → AreSound (values (row_at rows i)) → (found : Option Fault)
    → HasFirst (flat_map values (drop (i + 1) rows)) found → HasFirst (flat_map values (drop i rows)) found
past_row values rows i within sound found h = rw (drop_row rows i within) (behind_sound (values (row_at rows i)) (flat_map values (drop (i + 1) rows)) sound found h)

-- a row with the first fault
pub at_row : (values : Row → List Item) (rows : List Row) (i : ℕ) (fault : Fault) → i < length rows → IsFirstAtFault (values (row_at rows i)) fault
    → IsFirstAtFault (flat_map values (drop i rows)) fault
at_row values rows i fault within h = rw (drop_row rows i within) (fault_before (values (row_at rows i)) (flat_map values (drop (i + 1) rows)) fault h)

-- the same for one value a row
pub past_value : (fields : List TagValue) (rows : List Row) (i : ℕ) → i < length rows → IsSoundItem (item_of fields (row_at rows i)) → (found : Option Fault)
    → HasFirst (items_of (drop (i + 1) rows) fields) found → HasFirst (items_of (drop i rows) fields) found
past_value fields rows i within sound found h =
    rw (drop_row rows i within) (behind_sound (item_of fields (row_at rows i) ∷ []) (items_of (drop (i + 1) rows) fields) (sound, tt) found h)

pub at_value : (fields : List TagValue) (rows : List Row) (i : ℕ) (fault : Fault) → i < length rows → fault.tag ≡ tag_of (row_at rows i)
    → IsItemAtFault (item_of fields (row_at rows i)) fault.reason → IsFirstAtFault (items_of (drop i rows) fields) fault
at_value fields rows i fault within tag_is at_fault =
    rw (drop_row rows i within) (fault_in_front (item_of fields (row_at rows i)) (items_of (drop (i + 1) rows) fields) fault tag_is at_fault)
