use Rattle.std.proofs.Common.{rules, ◌≡◌, codes}
use Rattle.clap.specs.Words.{App, app_of, new_app, rule_of, with_rule}
use Rattle.gu_words.specs.CommandLine.{needed, path_rule}
use Rattle.gu_words.proofs.WordLemmas.{last_word_added, word_added}
use Rattle.gu_words.proofs.commands.fix_command.Goals as goal

pub returns : goal.returns
returns c =
    let bare : App = new_app (codes "fix") in
    let made : app_of c.after_help-bare.result ≡ bare = search rules in
    let is_firm : rule_of c.needed-firm.result ≡ needed (codes "FIRM") = search rules in
    let is_reference : rule_of c.needed-reference.result ≡ needed (codes "REF") = search rules in
    let is_script : rule_of c.path_option-script.result ≡ path_rule (codes "script") = search rules in
    let with_firm : App = with_rule bare (needed (codes "FIRM")) in
    let firm_made : app_of c.in_ok-of_firm.of_firm ≡ with_firm = word_added c.after_help-bare.result c.in_ok-of_firm.of_firm c.needed-firm.result bare (needed (codes "FIRM")) c.in_ok-of_firm.ensures c.needed-firm.ensures.local is_firm made in
    let with_reference : App = with_rule with_firm (needed (codes "REF")) in
    let reference_made : app_of c.in_ok-on_reference.on_reference ≡ with_reference = word_added c.in_ok-of_firm.of_firm c.in_ok-on_reference.on_reference c.needed-reference.result with_firm (needed (codes "REF")) c.in_ok-on_reference.ensures c.needed-reference.ensures.local is_reference firm_made in
    last_word_added c.arg-3.result c.in_ok-on_reference.on_reference c.path_option-script.result with_reference (path_rule (codes "script")) reference_made c.path_option-script.ensures.local is_script c.arg-3.ensures
