use Rattle.gu_book.proofs.CountedLemmas.{counted-at}
use Rattle.gu_book.proofs.versions.Versions.place_of.Goals as goal

pub returns-clause-at : goal.returns-clause-at
returns-clause-at c =
    counted-at c.args.self.now c.in_ok-place.place c.args.group.now c.in_ok-place.field-0-1.now c.in_ok-place.field-0-2.now c.in_ok-place.ensures.entry c.in_ok-place.ensures.key c.in_ok-place.ensures.value
