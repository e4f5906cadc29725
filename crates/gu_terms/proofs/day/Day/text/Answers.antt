use Rattle.gu_terms.proofs.WrittenMeanings.{date_text_writes}
use Rattle.gu_terms.proofs.day.Day.text.Goals as goal

pub returns-clause-writes : goal.returns-clause-writes
returns-clause-writes c = rw c.date_digits.ensures (date_text_writes c.args.self.year c.args.self.month c.args.self.day c.args.self.there)
