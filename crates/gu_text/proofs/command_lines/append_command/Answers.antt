use Rattle.std.proofs.Common.{◌∙◌, ◌<◌, List, ℕ, length, length-append, sym, ap, arith, vec_len}
use Rattle.std.specs.List.{flat_map}
use Rattle.gu_text.specs.Texts.{word}
use Rattle.gu_text.specs.WrittenCommands.{command_words}
use Rattle.gu_text.proofs.WrittenCommandLemmas.{line_ended, some_bytes, some_words}
use Rattle.gu_text.proofs.command_lines.append_command.Goals as goal

pub returns : goal.returns
returns c =
    let old = c.args.output.now.items in
    let words = command_words c.args.command.now in
    let some = some_words c.args.command.now in
    let appended = c.in_ok-append_command_words.ensures in
    let bytes : 0 < vec_len c.append_command_words.new.output =
    omega (
      arith,
      c.append_command_words.new.output.ok.0,
      ap (λ (t : List ℕ). length t) appended,
      length-append old (flat_map word words),
      some_bytes words some,
    ) in
    c.in_ok-push.ensures.items
    ∙ line_ended old c.pop.new.self.items c.pop.result words some (c.pop.ensures.variant.1 bytes) (sym appended ∙ c.pop.ensures.items)
