use Rattle.std.proofs.Common.{◌≡◌, ◌∙◌, ◌==◌, ◌||◌, ap, false, rules}
use Rattle.gu_text.specs.OfferSets.{is_marked}
use Rattle.gu_text.proofs.OfferSetLemmas.{marks_more}
use Rattle.gu_text.proofs.listed_offers.ListedOffers.add.Goals as goal

pub invariant_of-self-2 : goal.invariant_of-self-2
invariant_of-self-2 c =
    let next = c.args.offer in
    let fresh : is_marked c.self.inside.marks next ≡ false = search rules in
    rw (c.in_ok-push.ensures.items) (marks_more c.self.inside.marks c.add.new.self c.self.inside.list.items next c.self.invariant fresh
    (λ other. c.add.ensures other ∙ ap (λ b. other == next || b) (c.in_ok-make_room.ensures.same other)))
