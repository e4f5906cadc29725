use Rattle.gu_words.proofs.WordLemmas.{no_port_read, port_read}
use Rattle.gu_words.proofs.found.port_number.Goals as goal

pub returns-in-Ok-clause-number : goal.returns-in-Ok-clause-number
returns-in-Ok-clause-number c =
    let read = c.in-Ok.ensures.value.0 in
    port_read c.args.word.now c.in-Ok.number read.0.0 read.0.1 read.1 c.if-number-ge1.true

pub returns-in_default-2-clause-number : goal.returns-in_default-2-clause-number
returns-in_default-2-clause-number c = no_port_read c.args.word.now c.in_default.ensures.value.0
