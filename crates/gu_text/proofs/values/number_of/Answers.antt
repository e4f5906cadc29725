use Rattle.std.proofs.Common.{◌<◌, length, rules}
use Rattle.gu_text.proofs.NumberLemmas.{number_read}
use Rattle.gu_text.proofs.values.number_of.Goals as goal

pub returns : goal.returns
returns c =
    let some : 0 < length c.args.word.now = search rules in
    number_read c.args.word.now c.digits_said.result some c.if-word-gt-MOST_DIGITS.false c.digits_said.ensures
