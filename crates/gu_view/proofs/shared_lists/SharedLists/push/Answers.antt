use Rattle.gu_view.proofs.Words.{◌<◌, length, recursion_from_All}
use Rattle.gu_view.proofs.ListsInOne.{lists_at-push}
use Rattle.gu_view.proofs.shared_lists.SharedLists.push.Goals as goal

pub returns : goal.returns
returns c =
    let old = c.self.inside in
    rw (← c.self.view_is, c.in_ok-push-2.ensures.items, c.reserve.ensures.items, c.count-place.ensures, c.in_ok-push.ensures.ok)
    (lists_at-push old.kept c.args.list.now old.at.items (recursion_from_All (λ place. place < length old.kept) old.at.items c.self.invariant))
