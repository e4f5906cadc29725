use Rattle.gu_words.proofs.WordLemmas.{never_unread}
use Rattle.gu_words.proofs.found.number.Goals as goal

pub returns-in-Ok-clause-number : goal.returns-in-Ok-clause-number
returns-in-Ok-clause-number c within = c.in-Ok.ensures.value.0.1

pub returns-in_default-3-clause-number : goal.returns-in_default-3-clause-number
returns-in_default-3-clause-number c within = never_unread c.args.least c.args.most c.args.least c.args.word.now c.ranges.most.fits c.in_default.ensures.value.0 within
