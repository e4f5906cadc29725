use Rattle.gu_view.proofs.Words.{◌∙◌, sym, take_all, key_eq, eq, eq_is}
use Rattle.gu_view.proofs.MakingLemmas.{key_missing, ordered_more, lookup-agree}
use Rattle.gu_view.proofs.making.ordered.Goals as goal

pub returns-in_default : goal.returns-in_default
returns-in_default c rooms are =
    let k = c.key-item.result in
    key_missing c.args.keys.now rooms c.loop-key.key-index k c.loop-key-test.true c.key-item.is
    (sym (are k) ∙ lookup-agree (key_eq k) (eq k) c.args.lots.now.entries (λ j. sym (eq_is k j)) ∙ sym c.in_default.ensures.value)

pub loop-key-preserved : goal.loop-key-preserved
loop-key-preserved c rooms are =
    let k = c.key-item.result in
    rw c.in_ok-push.ensures.items
    (ordered_more c.args.keys.now rooms c.loop-key.made.items c.loop-key.key-index k c.in-Some.lots.now c.loop-key-test.true c.key-item.is
    (sym (are k) ∙ lookup-agree (key_eq k) (eq k) c.args.lots.now.entries (λ j. sym (eq_is k j)) ∙ sym c.in-Some.ensures.value)
    (c.loop-key.invariant rooms are))

pub returns : goal.returns
returns c rooms are = rw (take_all c.loop-key.key-index c.args.keys.now c.loop-key-test.false) at (c.loop-key.invariant rooms are)
