use Rattle.std.proofs.Common.{◌≡◌, ◌∙◌, ◌/◌, get_or}
use Rattle.std.proofs.lemmas.List.{get_or_default}
use Rattle.gu_text.proofs.OfferSetLemmas.{is_marked-set}
use Rattle.gu_text.proofs.offer_set.OfferSet.add.Goals as goal

pub returns : goal.returns
returns c other =
    let number = c.get-number.ensures.number in
    let read = rw (c.self.view_is, number) at c.index_mut.ensures.value in
    let word : c.index_mut.result.now ≡ get_or c.args.self.now (c.args.offer / 64) 0 =
    read ∙ get_or_default c.args.self.now (c.args.offer / 64) c.index_mut.result.now 0 c.requires in
    rw (c.self.view_is, number, word) (is_marked-set c.args.self.now c.args.offer other c.requires)
