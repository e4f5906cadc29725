use Rattle.gu_view.proofs.Words.{◌∙◌, ap, sym, not, set, true, not_from_true, not_from_false, key_eq, LimitKey, has_room, Unknown, Key, Room, found_here, found_later}
use Rattle.gu_view.proofs.MarkLemmas.{not_there, there, mark_key}
use Rattle.gu_view.proofs.checker.mark_keys.Goals as goal

pub returns-in_default-clause-unknown : goal.returns-in_default-clause-unknown
returns-in_default-clause-unknown c =
    let rooms = c.args.view.now.rooms in
    let k = c.key-item.result in
    found_here (λ k. not (has_room rooms k)) (λ (k : LimitKey). Unknown (Key k)) c.args.keys.now c.loop-key.key-index k c.loop-key-test.true c.key-item.is c.loop-key.invariant.known_all
    (not_from_false (has_room rooms k) (not_there (λ (r : Room). key_eq r.key k) rooms (sym c.place.ensures.place ∙ c.in_default.is)))

pub loop-key-preserved : goal.loop-key-preserved
loop-key-preserved c =
    let rooms = c.args.view.now.rooms in
    let k = c.key-item.result in
    let at = sym c.place.ensures.place ∙ c.in-Some.is in
    record {
      known_all = found_later (λ k. not (has_room rooms k)) c.args.keys.now c.loop-key.key-index k c.loop-key-test.true c.key-item.is c.loop-key.invariant.known_all
          (not_from_true (has_room rooms k) (there (λ (r : Room). key_eq r.key k) rooms c.in-Some.place at));
      marks_are = ap (λ l. set l c.in-Some.place true) c.loop-key.invariant.marks_are
          ∙ mark_key c.args.view.now c.place.ensures.sound c.args.keys.now c.loop-key.key-index k c.in-Some.place c.loop-key-test.true (rw c.key-item.is at at);
    }
