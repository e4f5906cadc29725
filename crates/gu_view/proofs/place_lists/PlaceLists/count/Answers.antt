use Rattle.std.proofs.Common.{arith, ap, length}
use Rattle.gu_view.proofs.ListsInOne.{length-lists_from}
use Rattle.gu_view.proofs.place_lists.PlaceLists.count.Goals as goal

pub returns : goal.returns
returns c =
    let inside = c.self.inside in
    omega (arith, c.len.ensures, inside.ends.ok.0, ap length c.self.view_is, length-lists_from inside.joined.items 0 inside.ends.items)
