use Rattle.std.proofs.Common.{rules, ◌≡◌, codes}
use Rattle.clap.specs.Words.{app_of, new_app, rule_of}
use Rattle.gu_words.specs.CommandLine.{needed}
use Rattle.gu_words.proofs.WordLemmas.{last_word_added}
use Rattle.gu_words.proofs.commands.secret_command.Goals as goal

pub returns : goal.returns
returns c =
    let app : app_of c.after_help-bare.result ≡ new_app (codes "secret") = search rules in
    let firm : rule_of c.needed-firm.result ≡ needed (codes "FIRM") = search rules in
    last_word_added c.arg.result c.after_help-bare.result c.needed-firm.result (new_app (codes "secret")) (needed (codes "FIRM")) app c.needed-firm.ensures.local firm c.arg.ensures
