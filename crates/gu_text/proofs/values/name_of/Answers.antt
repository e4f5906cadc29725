use Rattle.gu_terms.proofs.NameTests.{name_made}
use Rattle.gu_text.proofs.values.name_of.Goals as goal

pub returns : goal.returns
returns c = name_made c.new.result c.args.word.now c.new.ensures.sound c.new.ensures.same
