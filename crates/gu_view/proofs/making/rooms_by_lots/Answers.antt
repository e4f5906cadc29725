use Rattle.gu_view.proofs.Words.{get, key_eq}
use Rattle.gu_view.proofs.MakingLemmas.{rooms_made}
use Rattle.gu_view.proofs.making.rooms_by_lots.Goals as goal

pub returns-then-branch : goal.returns-then-branch
returns-then-branch c =
    let given = rw c.if-branch.true at c.in_ok-give.ensures in
    rooms_made (λ v. v.items) c.args.keys.now.keys c.args.rooms.now (get key_eq c.give.new.lots) c.ordered.result given (rw c.as_slice.ensures.keys at (c.ordered.ensures c.args.rooms.now given.lots_are))
