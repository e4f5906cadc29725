use Rattle.std.proofs.Common.{arith, ◌≡◌, ◌++◌, length, length-append}
use Rattle.gu_view.proofs.ListsInOne.{lists_from-push, AreEnds-push}
use Rattle.gu_view.proofs.place_lists.PlaceLists.push.Goals as goal

pub invariant_of-self-2 : goal.invariant_of-self-2
invariant_of-self-2 c =
    let size : c.len.result ≡ length c.extend_from_slice.new.self.items = omega (arith, c.len.ensures, c.extend_from_slice.new.self.ok.0) in
    rw (c.in_ok-push.ensures.items, c.reserve.ensures.items, size, c.in_ok-extend_from_slice.ensures.items)
    (AreEnds-push (length c.self.inside.joined.items) (length (c.self.inside.joined.items ++ c.args.list.now)) 0 c.self.inside.ends.items (omega (arith, length-append c.self.inside.joined.items c.args.list.now)) c.self.invariant)

pub returns-clause-ok : goal.returns-clause-ok
returns-clause-ok c =
    let size : c.len.result ≡ length c.extend_from_slice.new.self.items = omega (arith, c.len.ensures, c.extend_from_slice.new.self.ok.0) in
    rw (← c.self.view_is, c.in_ok-push.ensures.items, c.reserve.ensures.items, size, c.in_ok-extend_from_slice.ensures.items)
    (lists_from-push c.self.inside.joined.items c.args.list.now 0 c.self.inside.ends.items c.self.invariant)
