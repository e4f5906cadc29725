use Rattle.std.proofs.Common.{◌++◌, ◌∙◌, List, ℕ, ap}
use Rattle.std.specs.List.{flat_map}
use Rattle.gu_terms.specs.WrittenNumbers.{date_text}
use Rattle.gu_text.specs.Texts.{last_word, word}
use Rattle.gu_text.specs.WrittenCommands.{command_words}
use Rattle.gu_text.proofs.WrittenCommandLemmas.{remark_ended}
use Rattle.gu_text.proofs.command_lines.append_remark.Goals as goal

pub returns : goal.returns
returns c =
    let old = c.args.output.now.items in
    let words = command_words c.args.report.now in
    let day = date_text c.args.day.year c.args.day.month c.args.day.day in
    c.in_ok-append_last_word.ensures.ok
    ∙ ap (λ (t : List ℕ). c.append_command_words.new.output.items ++ last_word t) c.text.ensures.text
    ∙ ap (λ (t : List ℕ). t ++ last_word day) c.in_ok-append_command_words.ensures
    ∙ ap (λ (t : List ℕ). (t ++ flat_map word words) ++ last_word day) c.in_ok-append_word.ensures.ok
    ∙ remark_ended old words day
