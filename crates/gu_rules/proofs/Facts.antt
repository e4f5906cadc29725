-- What is known of an offer for which a command is accepted.
use Rattle.gu_rules.proofs.Words.{◌≡◌, ℕ, zero, suc, ◌+◌, ◌-◌, ◌<◌, ◌≤◌, ◌==◌, Bool, true, false, nat_lt, List, [], ◌∷◌, length, slice_get, slice_index_or, Option, Some, None, is_none, is_some, refl, ap, ◌∙◌, arith, ◌≢◌, option_map_or, ltb-false, Decides-eqb, slice_set, Claim, Refuse, Reverse, AllocReject, Entry, FirmId, LimitKey, Refusal, UnknownOffer, OfferClosed, OfferOpen, NothingToReverse, LimitReached, Report, Tables, Row, left_in, left_of, row_at, today_in, changed, IsAccepted, done_of, room_tests, state_of, tests_of, path_after, room_of, standing_of, report_after, reports_of}
use Rattle.gu_rules.proofs.InOrder.{IsInOrder}
use Rattle.gu_rules.proofs.OrderlyLemmas.{all-at}
use Rattle.gu_rules.proofs.Passing.{none_stands}
use Rattle.gu_rules.proofs.Takers.{apart}

pub some-of : {X : Type 0} (found : Option X) → is_none found ≡ false → (x : X) × (found ≡ Some x)
some-of None e = cc
some-of (Some x) e = (x, refl)

pub some-is : {X : Type 0} (found : Option X) → is_some found ≡ true → (x : X) × (found ≡ Some x)
some-is None e = cc
some-is (Some x) e = (x, refl)

-- an existing offer, with its report
pub record IsThere (history : List Entry) (n : ℕ) (row : Row) (report : Report) : Type 0 where
  pub at : row_at (standing_of history) n ≡ Some row
  pub behind : report_after (reports_of history) row ≡ Some report
  pub within : row.moved ≤ row.offer.lots

pub there : (history : List Entry) (n : ℕ) → IsInOrder history → is_none (row_at (standing_of history) n) ≡ false → (row : Row) × (report : Report) × IsThere history n row report
there history n orderly some =
    let found = some-of (row_at (standing_of history) n) some in
    let row = found.0 in
    let behind = some-is (report_after (reports_of history) row) (all-at (λ r. is_some (report_after (reports_of history) r) ≡ true) (standing_of history) n row found.1 orderly.found) in
    (row, behind.0, record { at = found.1; behind = behind.1; within = all-at (λ r. r.moved ≤ r.offer.lots) (standing_of history) n row found.1 orderly.within })

-- the lots left of it
pub left-is : (rows : List Row) (n : ℕ) (row : Row) → row_at rows n ≡ Some row → left_in rows n ≡ left_of row
left-is rows n row at = rw at refl

pub today-is : (rows : List Row) (n : ℕ) (row : Row) → row_at rows n ≡ Some row → today_in rows n ≡ row.today
today-is rows n row at = rw at refl

-- an offer with lots left isn't closed, and they are those not moved
pub open-left : (row : Row) (left : ℕ) → row.moved ≤ row.offer.lots → left ≡ left_of row → (left == 0) ≡ false → (row.is_shut ≡ false) × (row.moved + left ≤ row.offer.lots)
open-left row left within is some = by row.is_shut refl
  where
    by : (shut : Bool) → row.is_shut ≡ shut → (row.is_shut ≡ false) × (row.moved + left ≤ row.offer.lots)
    by true e =
        let nothing : left ≡ 0 = is ∙ rw e refl in
        let hit : (left == 0) ≡ true = (Decides-eqb left 0).1 nothing in cc
    by false e =
        let all : left ≡ row.offer.lots - row.moved = is ∙ rw e refl in
        (e, omega (arith, all, within))

-- the test of a key of a path
room-at : (room : LimitKey → ℕ) (lots : ℕ) (path : List LimitKey) (k : ℕ) (d : LimitKey) → k < length path
    → slice_get (room_tests room lots path) k ≡ Some (nat_lt (room (slice_index_or path k d)) lots, LimitReached (slice_index_or path k d))
room-at room lots [] k d within = absurd (omega arith)
room-at room lots (key ∷ path) zero d within = refl
room-at room lots (key ∷ path) (suc k) d within = room-at room lots path k d (omega arith)

-- an accepted claim
pub record MayBeClaimed (reference : Tables) (history : List Entry) (n : ℕ) (row : Row) (report : Report) : Type 0 where
  pub there : IsThere history n row report
  pub stands : row.is_shut ≡ false
  pub less : row.moved + left_in (standing_of history) n ≤ row.offer.lots
  pub room : (k : ℕ) (d : LimitKey) → k < length (path_after reference row.offer)
      → left_in (standing_of history) n ≤ room_of reference history row.offer.group (slice_index_or (path_after reference row.offer) k d)

pub claimable : (reference : Tables) (history : List Entry) (firm : FirmId) (n : ℕ) → IsInOrder history → IsAccepted reference history (Claim (record { firm = firm; offer = n }))
    → (row : Row) × (report : Report) × MayBeClaimed reference history n row report
claimable reference history firm n orderly is =
    let state = state_of reference history in
    let tests = tests_of reference state (Claim (record { firm = firm; offer = n })) in
    let done = done_of reference state (Claim (record { firm = firm; offer = n })) in
    let left = left_in (standing_of history) n in
    let passes = none_stands tests done done is.accepted in
    let one = there history n orderly (passes 2 (is_none (row_at (standing_of history) n)) UnknownOffer refl) in
    let row = one.0 in
    let found = one.2 in
    let some = open-left row left found.within (left-is (standing_of history) n row found.at) (passes 3 (left == 0) OfferClosed refl) in
    let path = path_after reference row.offer in
    let room = room_of reference history row.offer.group in
    let tail : option_map_or (λ (r : Row). room_tests (room_of reference history r.offer.group) left (path_after reference r.offer)) (row_at (standing_of history) n) [] ≡ room_tests room left path =
    ap (λ (o : Option Row). option_map_or (λ (r : Row). room_tests (room_of reference history r.offer.group) left (path_after reference r.offer)) o []) found.at in (
      row,
      one.1,
      record {
        there = found;
        stands = some.0;
        less = some.1;
        room = λ k d within.
            let key = slice_index_or path k d in
            ltb-false (room key) left
            (passes (suc (suc (suc (suc k)))) (nat_lt (room key) left) (LimitReached key) (ap (λ (ts : List (Bool × Refusal)). slice_get ts k) tail ∙ room-at room left path k d within));
      },
    )

-- an accepted refusal
pub refusable : (reference : Tables) (history : List Entry) (firm : FirmId) (n : ℕ) (why : AllocReject) → IsInOrder history → IsAccepted reference history (Refuse (record { firm = firm; offer = n; why = why }))
    → (row : Row) × (report : Report) × IsThere history n row report
refusable reference history firm n why orderly is =
    let state = state_of reference history in
    let passes = none_stands (tests_of reference state (Refuse (record { firm = firm; offer = n; why = why }))) (done_of reference state (Refuse (record { firm = firm; offer = n; why = why }))) (done_of reference state (Refuse (record { firm = firm; offer = n; why = why }))) is.accepted in
    there history n orderly (passes 2 (is_none (row_at (standing_of history) n)) UnknownOffer refl)

-- an accepted reversal
pub record MayBeReversed (history : List Entry) (n : ℕ) (row : Row) (report : Report) : Type 0 where
  pub there : IsThere history n row report
  pub nothing : left_in (standing_of history) n ≡ 0
  pub some : 0 < today_in (standing_of history) n

pub reversible : (reference : Tables) (history : List Entry) (firm : FirmId) (n : ℕ) → IsInOrder history → IsAccepted reference history (Reverse (record { firm = firm; offer = n }))
    → (row : Row) × (report : Report) × MayBeReversed history n row report
reversible reference history firm n orderly is =
    let state = state_of reference history in
    let tests = tests_of reference state (Reverse (record { firm = firm; offer = n })) in
    let done = done_of reference state (Reverse (record { firm = firm; offer = n })) in
    let left = left_in (standing_of history) n in
    let today = today_in (standing_of history) n in
    let passes = none_stands tests done done is.accepted in
    let one = there history n orderly (passes 2 (is_none (row_at (standing_of history) n)) UnknownOffer refl) in
    let none = ltb-false 0 left (passes 3 (nat_lt 0 left) OfferOpen refl) in (
      one.0,
      one.1,
      record { there = one.2; nothing = omega (arith, none); some = positive today (passes 4 (today == 0) NothingToReverse refl) },
    )
  where
    positive : (k : ℕ) → (k == 0) ≡ false → 0 < k
    positive zero e = let hit : (zero == 0) ≡ true = (Decides-eqb zero 0).1 refl in cc
    positive (suc k) e = omega arith

-- an open offer of an orderly history exists
pub open-there : (history : List Entry) (n : ℕ) → IsInOrder history → 0 < left_in (standing_of history) n
    → (row : Row) × (report : Report) × IsThere history n row report × (row.is_shut ≡ false) × (row.moved + left_in (standing_of history) n ≤ row.offer.lots)
open-there history n o some =
    let found = there history n o (is_there (row_at (standing_of history) n) some) in
    let row = found.0 in
    let it = found.2 in
    let left = left_in (standing_of history) n in
    let opens = open-left row left it.within (left-is (standing_of history) n row it.at) (apart left 0 (λ none. absurd (omega (arith, some, none)))) in
    (row, found.1, it, opens.0, opens.1)
  where
    is_there : (found : Option Row) → 0 < option_map_or left_of found 0 → is_none found ≡ false
    is_there None h = absurd (omega (arith, h))
    is_there (Some row) h = refl

-- a take from another offer leaves an offer unchanged
pub row_at-other : (rows : List Row) (n m : ℕ) (change : Row → Row) → m ≢ n → row_at (changed rows n change) m ≡ row_at rows m
row_at-other rows zero m change differ = refl
row_at-other rows (suc place) zero change differ = refl
row_at-other rows (suc place) (suc other) change differ = by (slice_get rows place) refl
  where
    elsewhere : (rows : List Row) (place other : ℕ) (row : Row) → other ≢ place → slice_get (slice_set rows place row) other ≡ slice_get rows other
    elsewhere [] place other row differ = refl
    elsewhere (first ∷ rows) zero zero row differ = absurd (differ refl)
    elsewhere (first ∷ rows) zero (suc other) row differ = refl
    elsewhere (first ∷ rows) (suc place) zero row differ = refl
    elsewhere (first ∷ rows) (suc place) (suc other) row differ = elsewhere rows place other row (λ same. differ (ap suc same))

    by : (found : Option Row) → slice_get rows place ≡ found → row_at (changed rows (suc place) change) (suc other) ≡ slice_get rows other
    by None e = rw e refl
    by (Some row) e = rw e (elsewhere rows place other (change row) (λ same. differ (ap suc same)))
