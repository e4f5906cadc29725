use Rattle.gu_view.proofs.Words.{arith, ◌∙◌, ◌<◌, ap, length, get_or, ◌∷◌, get_or_read}
use Rattle.gu_view.proofs.ListsInOne.{list_at, ends_in_order, length-lists_from}
use Rattle.gu_view.proofs.place_lists.PlaceLists.list.Goals as goal

pub start_of-requires : goal.start_of-requires
start_of-requires c =
    omega (arith, ap length c.self.view_is, length-lists_from c.self.inside.joined.items 0 c.self.inside.ends.items, ap length c.deref-2.ensures.value)

pub index-requires : goal.index-requires
index-requires c =
    omega (arith, ap length c.self.view_is, length-lists_from c.self.inside.joined.items 0 c.self.inside.ends.items, ap length c.deref-2.ensures.value, c.deref-2.ensures.len)

pub part-requires-clause-in_order : goal.part-requires-clause-in_order
part-requires-clause-in_order c =
    let ends = c.self.inside.ends.items in
    let within : c.args.place < length ends = omega (arith, ap length c.self.view_is, length-lists_from c.self.inside.joined.items 0 ends) in
    let end = get_or_read ends c.args.place c.index.result.now within c.index.ensures 0 in
    let start = c.start_of.ensures ∙ ap (λ l. get_or (0 ∷ l) c.args.place 0) c.deref-2.ensures.value in
    omega (arith, ends_in_order (length c.self.inside.joined.items) 0 ends c.args.place c.self.invariant within)

pub part-requires-clause-within : goal.part-requires-clause-within
part-requires-clause-within c =
    let ends = c.self.inside.ends.items in
    let within : c.args.place < length ends = omega (arith, ap length c.self.view_is, length-lists_from c.self.inside.joined.items 0 ends) in
    let end = get_or_read ends c.args.place c.index.result.now within c.index.ensures 0 in
    omega (arith, ends_in_order (length c.self.inside.joined.items) 0 ends c.args.place c.self.invariant within, ap length c.deref.ensures.value)

pub returns : goal.returns
returns c =
    let ends = c.self.inside.ends.items in
    let joined = c.self.inside.joined.items in
    let within : c.args.place < length ends = omega (arith, ap length c.self.view_is, length-lists_from joined 0 ends) in
    let end = get_or_read ends c.args.place c.index.result.now within c.index.ensures 0 in
    let start = c.start_of.ensures ∙ ap (λ l. get_or (0 ∷ l) c.args.place 0) c.deref-2.ensures.value in
    rw (← c.self.view_is, c.part.ensures, c.deref.ensures.value, start, end) (list_at joined 0 ends c.args.place within)
