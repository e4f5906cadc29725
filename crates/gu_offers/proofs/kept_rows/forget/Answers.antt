use Rattle.gu_offers.proofs.Words.{◌≡◌, ◌∙◌, sym, ap, drop, length, map, arith, length-map, same_lists, without_today}
use Rattle.gu_offers.proofs.Written.{get_or-map_inside, take-front}
use Rattle.gu_offers.proofs.kept_rows.forget.Goals as goal

pub returns : goal.returns
returns c =
    let same : length c.deref_mut-given-items.result.now ≡ length c.args.list.now.items = ap length c.deref_mut-given-items.ensures.value in
    let all : length c.loop-given.given-items ≡ length c.args.list.now.items = c.loop-given.auto.given-items ∙ same in
    take-front c.args.list.now.len c.loop-given.given-items (drop (length c.loop-given.given-items) c.args.list.now.items) (omega (arith, all, c.args.list.now.ok))
    ∙ same_lists c.loop-given.given-items (map without_today c.args.list.now.items) (all ∙ sym (length-map c.args.list.now.items without_today))
    (λ k d inside.
    c.loop-given.invariant.done k d (omega (arith, inside, all, same, c.loop-given-test.false))
    ∙ sym (get_or-map_inside without_today c.args.list.now.items k d (omega (arith, inside, all))))
