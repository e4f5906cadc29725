use Rattle.gu_text.specs.Words.{words_of}
use Rattle.gu_text.proofs.FormLemmas.{pair_missed}
use Rattle.gu_text.proofs.script_forms.pair_said.Goals as goal

pub returns-in_err-lots-2-clause-line : goal.returns-in_err-lots-2-clause-line
returns-in_err-lots-2-clause-line c =
    rw c.from_residual-in_err-lots-2.ensures
    (pair_missed (words_of c.args.words.now) (words_of c.in_ok-account.rest.now) (words_of c.in_ok-lots.rest.now) c.in_ok-account.account.now c.in_ok-lots.lots.now c.in_ok-account.ensures.words c.in_ok-lots.ensures.words c.in_err-lots-2.ensures)
