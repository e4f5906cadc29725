use Rattle.std.proofs.Common.{◌≡◌, ◌≤◌, false, length, rules}
use Rattle.gu_text.specs.Lines.{longest_line}
use Rattle.gu_text.specs.Words.{is_ragged, words_of}
use Rattle.gu_text.proofs.ScriptLemmas.{is_begun, unbegun_bad}
use Rattle.gu_text.proofs.script_line.begun.Goals as goal

pub returns-in_err-form : goal.returns-in_err-form
returns-in_err-form c =
    rw c.from_residual-in_err-form.ensures
    (unbegun_bad c.args.line.now c.in_ok-kind.kind.now (words_of c.in_ok-kind.words.now) c.requires c.in_ok-kind.ensures.words c.in_err-form.ensures)

pub returns : goal.returns
returns c =
    let text = c.args.line.now in
    let short : length text ≤ longest_line = search rules in
    let even : is_ragged text ≡ false = search rules in
    is_begun text c.in_ok-kind.kind.now c.in_ok-form.form (words_of c.in_ok-kind.words.now) c.requires short even c.in_ok-kind.ensures.words c.in_ok-form.ensures
