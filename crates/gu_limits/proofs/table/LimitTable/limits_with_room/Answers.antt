use Rattle.gu_limits.proofs.Words.{◌≡◌, ◌≢◌, ◌∙◌, ◌<◌, ◌==◌, ℕ, zero, suc, List, [], ◌∷◌, Some, ap, sym, refl, inl, inr, arith, nat_lt, rules, get_or, length, set, slice_get, slice_index, take, true, false, Bool, add-one, eq-eqb, option_map_or, cases_Bool, eqb-true, le-ltb, lt-ltb, get_or-set_other, get_or-set_same, LimitKey, number_in, room_in}
use Rattle.std.proofs.Common.{find}
use Rattle.gu_terms.proofs.Lists.{find_here, found_later}
use Rattle.gu_limits.proofs.table.LimitTable.limits_with_room.Goals as goal

-- the keys before an index, followed by the next one
front : (items : List LimitKey) (at place : ℕ) → at < length items → place ≢ at → slice_get (take (suc at) items) place ≡ slice_get (take at items) place
front [] at place inside other = absurd (omega (arith, inside))
front (k ∷ items) zero zero inside other = absurd (other refl)
front (k ∷ items) zero (suc place) inside other = refl
front (k ∷ items) (suc at) zero inside other = refl
front (k ∷ items) (suc at) (suc place) inside other = front items at place (omega (arith, inside)) (λ same. other (ap suc same))

next : (items : List LimitKey) (at : ℕ) (k : LimitKey) → at < length items → slice_get (take (suc at) items) at ≡ Some (get_or items at k)
next [] at k inside = absurd (omega (arith, inside))
next (j ∷ items) zero k inside = refl
next (j ∷ items) (suc at) k inside = next items at k (omega (arith, inside))

-- the number of the next key is written at its index
one_more : (f : LimitKey → ℕ) (items : List LimitKey) (numbers : List ℕ) (at : ℕ) (k : LimitKey) (n : ℕ) → at < length items → at < length numbers → k ≡ get_or items at k → n ≡ f k
    → ((place : ℕ) → place < 5 → slice_index numbers place ≡ option_map_or f (slice_get (take at items) place) 0)
    → (place : ℕ) → place < 5 → slice_index (set numbers at n) place ≡ option_map_or f (slice_get (take (suc at) items) place) 0
one_more f items numbers at k n inside within is own before place few =
    elim (cases_Bool (place == at)) [
      | inl hit ↦
          let same : place ≡ at = eqb-true place at hit in
          rw same (get_or-set_same numbers at n 0 within ∙ own ∙ ap f is ∙ sym (ap (λ o. option_map_or f o 0) (next items at k inside)))
      | inr miss ↦
          let other : place ≢ at = λ same. let never : true ≡ false = sym (eq-eqb place at same) ∙ miss in cc in
          get_or-set_other numbers at place n 0 other ∙ before place few ∙ sym (ap (λ o. option_map_or f o 0) (front items at place inside other))
    ]

pub loop-at-preserved : goal.loop-at-preserved
loop-at-preserved c =
    let items = c.keys-key-items.result.now in
    record {
      count = search rules;
      found =
          rw add-one
          (one_more (number_in c.args.self.now c.args.group.now) items c.loop-at.limits.numbers c.loop-at.at c.key-item.result c.room_and_number-room.result.1 c.loop-at-test.true
          (omega (arith, c.loop-at.invariant.count, c.loop-at-test.true, c.keys-key-items.ensures.few)) c.key-item.is c.room_and_number-room.ensures.number c.loop-at.invariant.found);
      room =
          found_later (λ key. nat_lt (room_in c.args.self.now c.args.group.now key) c.args.lots) items c.loop-at.at c.key-item.result c.loop-at-test.true c.key-item.is c.loop-at.invariant.room
          (le-ltb (room_in c.args.self.now c.args.group.now c.key-item.result) c.args.lots (omega (arith, c.room_and_number-room.ensures.room, c.if-room-lots.false)));
    }

pub returns-then-room-lots-clause-short : goal.returns-then-room-lots-clause-short
returns-then-room-lots-clause-short c =
    let short : LimitKey → Bool = λ key. nat_lt (room_in c.args.self.now c.args.group.now key) c.args.lots in
    let hit : short c.key-item.result ≡ true =
    lt-ltb (room_in c.args.self.now c.args.group.now c.key-item.result) c.args.lots (omega (arith, c.room_and_number-room.ensures.room, c.if-room-lots.true)) in
    ap Some c.key-item.is
    ∙ sym (find_here short c.keys-key-items.result.now c.loop-at.at c.key-item.result c.loop-at-test.true c.loop-at.invariant.room (ap short (sym c.key-item.is) ∙ hit))
    ∙ ap (find short) c.keys-key-items.ensures.keys
