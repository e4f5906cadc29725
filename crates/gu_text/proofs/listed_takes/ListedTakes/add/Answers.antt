use Rattle.std.proofs.Common.{◌≡◌, ◌∙◌, ◌==◌, ◌||◌, ap, map, subst, sym, false, rules}
use Rattle.gu_terms.specs.declared.takes.Take.{Take}
use Rattle.gu_text.specs.OfferSets.{is_marked, MarksOffers}
use Rattle.gu_text.proofs.OfferSetLemmas.{marks_more, offers_of_more}
use Rattle.gu_text.proofs.listed_takes.ListedTakes.add.Goals as goal

pub invariant_of-self-2 : goal.invariant_of-self-2
invariant_of-self-2 c =
    let next = c.args.take in
    let takes = c.self.inside.list.items in
    let fresh : is_marked c.self.inside.offers next.offer ≡ false = search rules in
    let marks = marks_more c.self.inside.offers c.add.new.self (map (λ (t : Take). t.offer) takes) next.offer c.self.invariant fresh
    (λ other. c.add.ensures other ∙ ap (λ b. other == next.offer || b) (c.in_ok-make_room.ensures.same other)) in
    rw (c.in_ok-push.ensures.items) (subst (MarksOffers c.add.new.self) (sym (offers_of_more takes next)) marks)
