use Rattle.std.proofs.Common.{rules, ◌≡◌, codes}
use Rattle.clap.specs.Words.{app_of, new_app, rule_of}
use Rattle.gu_words.specs.CommandLine.{needed}
use Rattle.gu_words.proofs.WordLemmas.{last_word_added}
use Rattle.gu_words.proofs.commands.replay_command.Goals as goal

pub returns : goal.returns
returns c =
    let app : app_of c.after_help-bare.result ≡ new_app (codes "replay") = search rules in
    let reference : rule_of c.needed-reference.result ≡ needed (codes "REF") = search rules in
    last_word_added c.arg.result c.after_help-bare.result c.needed-reference.result (new_app (codes "replay")) (needed (codes "REF")) app c.needed-reference.ensures.local reference c.arg.ensures
