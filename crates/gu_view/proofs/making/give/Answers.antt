use Rattle.gu_view.proofs.Words.{arith, ◌∙◌, sym, ap, Some, cond, get, key_eq, eq, eq_is}
use Rattle.gu_view.proofs.DerivedEq.{has_key-eq}
use Rattle.gu_view.proofs.MakingLemmas.{needless, given_twice, given_more, lookup-agree, some_value, no_value}
use Rattle.gu_view.proofs.making.give.Goals as goal

pub returns-then-not-contains : goal.returns-then-not-contains
returns-then-not-contains c =
    let k = c.room-item.result.key in
    needless c.args.keys.now.keys c.args.rooms.now c.loop-room.room-index c.room-item.result c.loop-room-test.true c.room-item.is
    (sym (has_key-eq c.args.keys.now.keys k) ∙ sym c.contains.ensures ∙ c.if-not-contains.true)

pub returns-then-is_some : goal.returns-then-is_some
returns-then-is_some c =
    let k = c.room-item.result.key in
    let old = some_value c.in_ok-insert.field-0 (sym c.is_some.ensures ∙ c.if-is_some.true) in
    given_twice c.args.keys.now.keys c.args.rooms.now c.loop-room.room-index c.room-item.result c.loop-room-test.true c.room-item.is (get key_eq c.loop-room.lots) old.0 c.loop-room.invariant
    (lookup-agree (key_eq k) (eq k) c.loop-room.lots.entries (λ j. sym (eq_is k j)) ∙ sym c.in_ok-insert.ensures.old ∙ old.1)

pub loop-room-preserved : goal.loop-room-preserved
loop-room-preserved c =
    let k = c.room-item.result.key in
    given_more c.args.keys.now.keys c.args.rooms.now c.loop-room.room-index c.room-item.result c.loop-room-test.true c.room-item.is (get key_eq c.loop-room.lots) (get key_eq c.insert.new.self) c.loop-room.invariant (omega arith)
    (sym (has_key-eq c.args.keys.now.keys k) ∙ sym c.contains.ensures ∙ c.if-not-contains.false)
    (lookup-agree (key_eq k) (eq k) c.loop-room.lots.entries (λ j. sym (eq_is k j)) ∙ sym c.in_ok-insert.ensures.old ∙ no_value c.in_ok-insert.field-0 (sym c.is_some.ensures ∙ c.if-is_some.false))
    (λ q.
    lookup-agree (key_eq q) (eq q) c.insert.new.self.entries (λ j. sym (eq_is q j))
    ∙ c.in_ok-insert.ensures.updates.0 q
    ∙ ap (λ b. cond b (Some c.room-item.result.lots) (get eq c.loop-room.lots q)) (eq_is k q)
    ∙ ap (cond (key_eq k q) (Some c.room-item.result.lots)) (lookup-agree (eq q) (key_eq q) c.loop-room.lots.entries (eq_is q)))
