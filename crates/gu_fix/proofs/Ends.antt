-- The ends of a message's parts, from the bit masks of SOHs among sixteen bytes.
use Rattle.std.proofs.Common.{◌≡◌, ◌<◌, ◌≤◌, ◌+◌, ◌-◌, ◌/◌, ◌%◌, ◌^◌, ℕ, zero, suc, Bool, true, false, cond, eqb, List, [], ◌∷◌, length, take, drop, get_or, map, not, ap, sym, ◌∙◌, arith, inl, inr, refl, shr-shr, w64}
use Rattle.std.specs.Int.{trailing_zeros}
use Rattle.std.specs.List.{prefix_len}
use Rattle.std.specs.Simd.Lanes.{mask_l}
use Rattle.std.proofs.lemmas.Bool.{cases_lt, eq-eqb, eqb-true}
use Rattle.std.proofs.lemmas.List.{drop-drop, drop-map, get_or-drop, get_or-take, get_or_past, length-drop, length-map, length-take, take-take, take_all}
use Rattle.std.proofs.lemmas.Nat.Bits.{bit_at-trailing_zeros}
use Rattle.std.proofs.Math.ListN.{get_or-map}
use Rattle.std.proofs.Math.Nat.{zero-div}
use Rattle.std.proofs.lemmas.Simd.{bit_mask_l, trailing_mask_l, run_in_chunk_fails, run_in_chunk_stops}
use Rattle.gu_fix.specs.Fields.{NoSoh}
use Rattle.gu_fix.specs.Spans.{EndsPart, soh_marks}

-- the test of each byte
abbrev is_soh : ℕ → Bool
is_soh b = eqb b 1

-- the lowest set bit is that of one of the bytes
lowest_within : (tests : List Bool) → 0 < mask_l tests → mask_l tests < 2 ^ 64 → trailing_zeros w64 (mask_l tests) < length tests
lowest_within tests some fits =
    let low = bit_at-trailing_zeros w64 (mask_l tests) some fits in
    let place = trailing_zeros w64 (mask_l tests) in
    elim (cases_lt place (length tests)) [
      | inl lt ↦ lt
      | inr le ↦
          let none = ap {B = ℕ} (λ b. cond b 1 0) (get_or_past tests place false le) in
          absurd (omega (arith, low.1, bit_mask_l tests place, none))
    ]

-- a mask without its lowest bits is that of the tests after them
shifted : (tests : List Bool) (n : ℕ) → mask_l tests / 2 ^ n ≡ mask_l (drop n tests)
shifted tests zero = omega arith
shifted [] (suc n) = omega arith
shifted (b ∷ bs) (suc n) =
    let tests : List Bool = b ∷ bs in
    let bit : cond b 1 0 < 2 = elim b as (λ (t : Bool). cond t 1 0 < 2) [ true ↦ omega arith | false ↦ omega arith ] in
    let half : mask_l tests / 2 ^ 1 ≡ mask_l bs = omega (arith, bit) in
    let count : suc n ≡ 1 + n = omega arith in
    ap (λ (k : ℕ). mask_l tests / 2 ^ k) count ∙ sym (shr-shr (mask_l tests) 1 n) ∙ ap (λ (k : ℕ). k / 2 ^ n) half ∙ shifted bs n

-- if fewer than sixteen bytes are left, their mask is part of that of the last sixteen
pub last_marks : (bytes : List ℕ) (start : ℕ) → 16 ≤ length bytes → length bytes - 16 ≤ start → start ≤ length bytes
    → soh_marks (take 16 (drop (length bytes - 16) bytes)) / 2 ^ (start - (length bytes - 16)) ≡ soh_marks (take 16 (drop start bytes))
last_marks bytes start long low high =
    let last = length bytes - 16 in
    let passed = start - last in
    let lanes = take 16 (drop last bytes) in
    let later : drop passed lanes ≡ take 16 (drop start bytes) =
    ap (drop passed) (take_all 16 (drop last bytes) (omega (arith, length-drop last bytes)))
    ∙ drop-drop passed last bytes
    ∙ ap (λ (k : ℕ). drop k bytes) (omega (arith, low))
    ∙ sym (take_all 16 (drop start bytes) (omega (arith, length-drop start bytes))) in
    shifted (map is_soh lanes) passed ∙ ap mask_l (drop-map is_soh passed lanes ∙ ap (map is_soh) later)

-- the part ends at the first SOH at or after its start
pub ends_part : (bytes : List ℕ) (start end : ℕ) → start ≤ end → end < length bytes → ((k : ℕ) → start ≤ k → k < end → is_soh (get_or bytes k 0) ≡ false) → is_soh (get_or bytes end 0) ≡ true
    → EndsPart bytes start end
ends_part bytes start end low high before there = record {
  low = low;
  high = high;
  none = λ k lt e. (
      let within : k < end - start = omega (arith, lt, length-take (end - start) (drop start bytes)) in
      let place = get_or-take (end - start) (drop start bytes) k 0 within ∙ get_or-drop start bytes k 0 in
      let other = before (start + k) (omega arith) (omega (arith, within)) in
      let same = eq-eqb (get_or bytes (start + k) 0) 1 (sym place ∙ e) in
      cc
      );
  there = eqb-true (get_or bytes end 0) 1 there;
}

-- the lowest bit of a mask for the bytes from a position on is that of the first SOH there
record FirstMark (bytes : List ℕ) (start end : ℕ) : Type 0 where
  high : end < length bytes
  before : (k : ℕ) → start ≤ k → k < end → is_soh (get_or bytes k 0) ≡ false
  there : is_soh (get_or bytes end 0) ≡ true

first_mark : (bytes : List ℕ) (start marks : ℕ) → start ≤ length bytes → marks ≡ soh_marks (take 16 (drop start bytes)) → 0 < marks → marks < 2 ^ 64
    → FirstMark bytes start (start + trailing_zeros w64 marks)
first_mark bytes start marks within is some fits =
    let rest = drop start bytes in
    let lanes = take 16 rest in
    let n = length lanes in
    let place = trailing_zeros w64 marks in
    let few : n ≤ 16 = omega (arith, length-take 16 rest) in
    let room : start + n ≤ length bytes = omega (arith, length-take 16 rest, length-drop start bytes) in
    let same : trailing_zeros w64 (mask_l (map is_soh lanes)) ≡ place = ap (trailing_zeros w64) (sym is) in
    let near : place < n = omega (arith, same, is, length-map lanes is_soh, lowest_within (map is_soh lanes) (omega (arith, is, some)) (omega (arith, is, fits))) in
    let whole : lanes ≡ take n rest = sym (take_all n lanes (omega arith)) ∙ take-take n 16 rest few in
    let counted = sym same ∙ trailing_mask_l is_soh 64 lanes (omega (arith, few)) (omega (arith, is, some)) ∙ ap (λ (t : List ℕ). prefix_len (λ b. not (is_soh b)) t) whole in
    record {
      high = omega (arith, near, room);
      before = λ k low high. run_in_chunk_fails is_soh bytes start n place 0 room counted k low high;
      there = run_in_chunk_stops is_soh bytes start n place 0 room counted near;
    }

-- the mask for the bytes from a position on gives the end of the part
pub first_marked : (bytes : List ℕ) (start marks : ℕ) → start ≤ length bytes → marks ≡ soh_marks (take 16 (drop start bytes)) → 0 < marks → marks < 2 ^ 64
    → EndsPart bytes start (start + trailing_zeros w64 marks)
first_marked bytes start marks within is some fits =
    let first = first_mark bytes start marks within is some fits in
    ends_part bytes start (start + trailing_zeros w64 marks) (omega arith) first.high first.before first.there

off : (b : Bool) → cond b 1 zero ≡ zero → b ≡ false
off true e = absurd (omega (arith, e))
off false e = refl

-- if the mask of sixteen bytes is 0, none is SOH
pub none_marked : (bytes : List ℕ) (start : ℕ) → soh_marks (take 16 (drop start bytes)) ≡ 0 → (k : ℕ) → start ≤ k → k < start + 16 → is_soh (get_or bytes k 0) ≡ false
none_marked bytes start none k low high =
    let lanes = take 16 (drop start bytes) in
    let i = k - start in
    let bit = bit_mask_l (map is_soh lanes) i in
    let zeros : mask_l (map is_soh lanes) / 2 ^ i % 2 ≡ 0 = ap (λ (m : ℕ). m / 2 ^ i % 2) none ∙ ap (λ (m : ℕ). m % 2) (zero-div (2 ^ i)) in
    let place = get_or-take 16 (drop start bytes) i 0 (omega (arith, low, high)) ∙ get_or-drop start bytes i 0 ∙ ap (λ (p : ℕ). get_or bytes p 0) (omega (arith, low)) in
    ap is_soh (sym place) ∙ sym (get_or-map is_soh lanes i 0) ∙ off (get_or (map is_soh lanes) i false) (sym bit ∙ zeros)

-- no byte from one position up to another is SOH
abbrev pub NoneWithin : List ℕ → ℕ → ℕ → Type 0
NoneWithin bytes start end = (k : ℕ) → start ≤ k → k < end → is_soh (get_or bytes k 0) ≡ false

-- if none of the bytes so far is SOH, and the mask of the next sixteen is 0, none of these is
pub none_further : (bytes : List ℕ) (start place : ℕ) → NoneWithin bytes start place → soh_marks (take 16 (drop place bytes)) ≡ 0 → NoneWithin bytes start (place + 16)
none_further bytes start place before none k low high = elim (cases_lt k place) [
  | inl lt ↦ before k low lt
  | inr le ↦ none_marked bytes place none k le high
]

-- if none of the bytes up to the end is SOH, the part doesn't end
pub none_left : (bytes : List ℕ) (start end : ℕ) → NoneWithin bytes start end → length bytes ≤ end → NoSoh (drop start bytes)
none_left bytes start end none past k lt e =
    let other = none (start + k) (omega arith) (omega (arith, lt, length-drop start bytes, past)) in
    let same = eq-eqb (get_or bytes (start + k) 0) 1 (sym (get_or-drop start bytes k 0) ∙ e) in
    cc

-- if none of the bytes so far is SOH, the mask of the next ones gives the end of the part
pub later_marked : (bytes : List ℕ) (start place marks : ℕ) → NoneWithin bytes start place → start ≤ place → place ≤ length bytes → marks ≡ soh_marks (take 16 (drop place bytes)) → 0 < marks → marks < 2 ^ 64
    → EndsPart bytes start (place + trailing_zeros w64 marks)
later_marked bytes start place marks before low within is some fits =
    let first = first_mark bytes place marks within is some fits in
    ends_part bytes start (place + trailing_zeros w64 marks) (omega arith) first.high
    (λ k from to. elim (cases_lt k place) [
      | inl lt ↦ before k from lt
      | inr le ↦ first.before k le to
    ])
    first.there
