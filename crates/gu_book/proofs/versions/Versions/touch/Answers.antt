use Rattle.gu_book.proofs.CountedLemmas.{version_in-touched}
use Rattle.gu_book.proofs.versions.Versions.touch.Goals as goal

pub returns-clause-one : goal.returns-clause-one
returns-clause-one c = version_in-touched c.args.self.now c.args.place c.args.group.now c.in-Some.count.now c.requires.known c.in-Some.ensures.value c.get_index_mut.ensures.unique
