-- One stored offer is changed: everything stays stored correctly, and the others are unchanged.
use Rattle.gu_offers.proofs.Words.{◌≡◌, ◌≢◌, ◌∙◌, sym, refl, ap, subst, ℕ, suc, ◌+◌, ◌-◌, ◌≤◌, Bool, true, false, ◌&&◌, List, length, map, set, slice_get, Some, nat_lt, arith, if◌then◌else◌, AllByRecursion, option_map, option_map_or, length-set, map-set, slice_get-map, Group, same_group, GivenUp, Inside, changed, closed, reversed, taken, row_of, numbers_in, IsKept, IsSoundAt, IsWritten, rows_of, IsAscending, IsSound, Row, is_open, left_of, open_numbers}
use Rattle.std.proofs.lemmas.Bool.{ltb-false}
use Rattle.gu_offers.proofs.Listed.{all-at, all-set, numbers-ascend, numbers-closed, numbers-same}
use Rattle.gu_offers.proofs.NumberLists.{without}
use Rattle.gu_offers.proofs.Written.{left-fits}

closed-one : (p q : Bool) → q ≡ false → (p && q) ≡ false
closed-one true q e = e
closed-one false q e = refl

other-one : (p p' q q' : Bool) → p ≡ false → p' ≡ false → (p && q) ≡ (p' && q')
other-one true p' q q' e f = cc
other-one false true q q' e f = cc
other-one false false q q' e f = refl

-- a number that isn't 0 is above it
pub above_zero : (n : ℕ) → n ≢ 0 → nat_lt 0 n ≡ true
above_zero n some = by (nat_lt 0 n) refl
  where
    by : (b : Bool) → nat_lt 0 n ≡ b → nat_lt 0 n ≡ true
    by true e = e
    by false e = absurd (some (omega (arith, ltb-false 0 n e)))

-- lots that are left may be moved
pub sound-taken : (r : Row) (lots : ℕ) → IsSound r → lots ≤ left_of r → IsSound (taken lots r)
sound-taken r lots sound h = record {
  lots = sound.lots;
  moved = left-fits r.is_shut r.offer.lots r.moved lots h sound.moved;
  today = omega (arith, sound.today);
}

pub sound-closed : (r : Row) → IsSound r → IsSound (closed r)
sound-closed r sound = record { lots = sound.lots; moved = sound.moved; today = sound.today }

pub sound-reversed : (r : Row) → IsSound r → IsSound (reversed r)
sound-reversed r sound = record { lots = sound.lots; moved = omega (arith, sound.moved); today = omega arith }

still_left : (b : Bool) (l m lots : ℕ) → (if b then 0 else l - (m + lots)) ≢ 0 → (if b then 0 else l - m) ≢ 0
still_left true l m lots h e = h e
still_left false l m lots h e = h (omega arith)

-- an offer with lots left after a move was open, and still is
pub open-taken : (r : Row) (lots : ℕ) → left_of (taken lots r) ≢ 0 → is_open (taken lots r) ≡ is_open r
open-taken r lots h = above_zero (left_of (taken lots r)) h ∙ sym (above_zero (left_of r) (still_left r.is_shut r.offer.lots r.moved lots h))

-- each stored offer is sound on its day
pub sound_at : (kept : Inside) → IsKept kept → (place : ℕ) → IsSoundAt kept.rows place kept.day
sound_at kept is_kept place g at =
    all-at IsSound (rows_of kept) place (row_of kept.day g) is_kept.sound (slice_get-map (row_of kept.day) kept.rows place ∙ ap (option_map (row_of kept.day)) at)

-- the stored numbers of a group ascend
pub ascending : (kept : Inside) → IsKept kept → (group : Group) → IsAscending (numbers_in kept.groups group)
ascending kept is_kept group = subst IsAscending (sym (is_kept.numbers group)) (numbers-ascend group 1 (rows_of kept))

module _ (kept : Inside) (is_kept : IsKept kept) (place : ℕ) (new : List GivenUp) (change : Row → Row) (written : IsWritten kept.rows new place kept.day change) where
  -- the offer before
  abbrev before : Row
  before = row_of kept.day written.was

  -- it is at its index
  pub stands_there : slice_get (rows_of kept) place ≡ Some before
  stands_there = slice_get-map (row_of kept.day) kept.rows place ∙ ap (option_map (row_of kept.day)) written.there

  pub is_sound : IsSound before
  is_sound = all-at IsSound (rows_of kept) place before is_kept.sound stands_there

  -- the offers after
  pub after : map (row_of kept.day) new ≡ set (rows_of kept) place (change before)
  after = ap (map (row_of kept.day)) written.written ∙ map-set (row_of kept.day) kept.rows place written.now ∙ ap (set (rows_of kept) place) written.row

  pub after-changed : map (row_of kept.day) new ≡ changed (rows_of kept) (suc place) change
  after-changed = after ∙ sym (ap (λ o. option_map_or (λ r. set (rows_of kept) place (change r)) o (rows_of kept)) stands_there)

  module _ (same : (change before).offer ≡ before.offer) where
    -- if it is as open as before
    pub numbers-as_they_were : is_open (change before) ≡ is_open before → (group : Group) → numbers_in kept.groups group ≡ open_numbers (set (rows_of kept) place (change before)) group
    numbers-as_they_were open_as group =
        is_kept.numbers group
        ∙ sym (numbers-same group 1 (rows_of kept) place before (change before) stands_there (λ i. same_group (same i).group group && open_as i))

    -- a closed offer's number is removed from its group's
    pub numbers-taken_out : is_open (change before) ≡ false → (own : Group) → own ≡ written.was.offer.group → (group : Group)
        → (if same_group own group then without (place + 1) (numbers_in kept.groups group) else numbers_in kept.groups group)
        ≡ open_numbers (set (rows_of kept) place (change before)) group
    numbers-taken_out shut own own_is group = by (same_group own group) refl
      where
        by : (b : Bool) → same_group own group ≡ b
            → (if b then without (place + 1) (numbers_in kept.groups group) else numbers_in kept.groups group) ≡ open_numbers (set (rows_of kept) place (change before)) group
        by true e =
            let one : place + 1 ≡ 1 + place = omega arith in
            ap (without (place + 1)) (is_kept.numbers group) ∙ ap (λ m. without m (open_numbers (rows_of kept) group)) one
            ∙ sym (numbers-closed group 1 (rows_of kept) place before (change before) stands_there (closed-one (same_group (change before).offer.group group) (is_open (change before)) shut))
        by false e =
            is_kept.numbers group
            ∙ sym (numbers-same group 1 (rows_of kept) place before (change before) stands_there
            (other-one (same_group (change before).offer.group group) (same_group before.offer.group group) (is_open (change before)) (is_open before)
            ((λ i. same_group (same i).group group) ∙ (λ i. same_group (sym own_is i) group) ∙ e) ((λ i. same_group (sym own_is i) group) ∙ e)))

    -- everything is then stored correctly
    pub kept-changed : (later : Inside) → later.rows ≡ new → later.day ≡ kept.day → IsSound (change before)
        → ((group : Group) → numbers_in later.groups group ≡ open_numbers (set (rows_of kept) place (change before)) group) → IsKept later
    kept-changed later is today sound numbers =
        let view : rows_of later ≡ set (rows_of kept) place (change before) = (λ i. map (row_of (today i)) (is i)) ∙ after in
        record {
          sound = subst (AllByRecursion IsSound) (sym view) (all-set IsSound (rows_of kept) place (change before) is_kept.sound sound);
          days = subst (λ (d : ℕ). AllByRecursion (λ (g : GivenUp). g.moved_on ≤ d) later.rows) (sym today)
              (subst (AllByRecursion (λ (g : GivenUp). g.moved_on ≤ kept.day)) (sym (is ∙ written.written))
              (all-set (λ (g : GivenUp). g.moved_on ≤ kept.day) kept.rows place written.now is_kept.days
              (written.on (all-at (λ (g : GivenUp). g.moved_on ≤ kept.day) kept.rows place written.was is_kept.days written.there))));
          few = let same_length : length later.rows ≡ length kept.rows = ap length (is ∙ written.written) ∙ length-set kept.rows place written.now in omega (arith, same_length, is_kept.few);
          numbers = λ group. numbers group ∙ ap (λ rows. open_numbers rows group) (sym view);
        }
