use Rattle.std.proofs.Common.{rules, ◌≡◌, codes}
use Rattle.clap.specs.Words.{App, app_of, new_app, rule_of, with_rule}
use Rattle.gu_words.specs.CommandLine.{lines_rule, needed}
use Rattle.gu_words.proofs.WordLemmas.{last_word_added, word_added}
use Rattle.gu_words.proofs.commands.tell_command.Goals as goal

pub returns : goal.returns
returns c =
    let bare : App = new_app (codes "tell") in
    let made : app_of c.after_help-bare.result ≡ bare = search rules in
    let is_path : rule_of c.needed-path.result ≡ needed (codes "PATH") = search rules in
    let with_path : App = with_rule bare (needed (codes "PATH")) in
    let path_made : app_of c.in_ok-at_path.at_path ≡ with_path = word_added c.after_help-bare.result c.in_ok-at_path.at_path c.needed-path.result bare (needed (codes "PATH")) c.in_ok-at_path.ensures c.needed-path.ensures.local is_path made in
    last_word_added c.arg-2.result c.in_ok-at_path.at_path c.lines_word-lines.result with_path lines_rule path_made c.lines_word-lines.ensures.local c.lines_word-lines.ensures.rule c.arg-2.ensures
