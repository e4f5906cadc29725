use Rattle.gu_view.proofs.Words.{◌≤◌, ◌∙◌, ap, map, subst, sym, All, All-from_recursion, in_order, Room}
use Rattle.gu_view.proofs.MakingLemmas.{in_order-keys, in_order-limits}
use Rattle.gu_view.proofs.view.View.with_rooms.Goals as goal

pub of-requires-clause-keys : goal.of-requires-clause-keys
of-requires-clause-keys c =
    let rooms = rw c.in-Some.is at c.in_ok-rooms.ensures in
    ap (map (λ (r : Room). r.key)) rooms.1 ∙ in_order-keys c.key_set.result.now.keys c.args.rooms.now ∙ c.key_set.ensures

pub of-requires-clause-limits : goal.of-requires-clause-limits
of-requires-clause-limits c =
    let keys = c.key_set.result.now.keys in
    let rooms = rw c.in-Some.is at c.in_ok-rooms.ensures in
    subst (All (λ (r : Room). r.lots ≤ 1000000000)) (sym rooms.1)
    (All-from_recursion (λ (r : Room). r.lots ≤ 1000000000) (in_order keys c.args.rooms.now) (in_order-limits keys c.args.rooms.now rooms.0.limits))
