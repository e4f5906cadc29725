use Rattle.std.proofs.Common.{rules, ◌≡◌, ◌∙◌, ap, codes}
use Rattle.clap.specs.Words.{App, app_of, new_app, rule_of, with_rule}
use Rattle.clap.specs.Simple.{app_of_fields}
use Rattle.gu_words.specs.CommandLine.{connections_rule, every_rule, flag_rule, needed, path_rule}
use Rattle.gu_words.proofs.WordLemmas.{last_rule_added, word_added}
use Rattle.gu_words.proofs.commands.counted_command.Goals as goal

pub returns : goal.returns
returns c =
    let bare : App = new_app (codes "serve") in
    let made : app_of c.after_help-bare.result ≡ bare = ap app_of_fields c.after_help-bare.ensures ∙ (ap app_of_fields c.about.ensures ∙ c.new.ensures.app) in
    let is_reference : rule_of c.needed-reference.result ≡ needed (codes "REF") = search rules in
    let is_port : rule_of c.needed-port.result ≡ needed (codes "PORT") = search rules in
    let is_script : rule_of c.path_option-script.result ≡ path_rule (codes "script") = search rules in
    let is_connections : rule_of c.number_option-connections.result ≡ connections_rule c.args.most = search rules in
    let is_every : rule_of c.number_option-every.result ≡ every_rule = search rules in
    let with_reference : App = with_rule bare (needed (codes "REF")) in
    let reference_made : app_of c.in_ok-on_reference.on_reference ≡ with_reference = word_added c.after_help-bare.result c.in_ok-on_reference.on_reference c.needed-reference.result bare (needed (codes "REF")) c.in_ok-on_reference.ensures c.needed-reference.ensures.local is_reference made in
    let with_port : App = with_rule with_reference (needed (codes "PORT")) in
    let port_made : app_of c.in_ok-on_port.on_port ≡ with_port = word_added c.in_ok-on_reference.on_reference c.in_ok-on_port.on_port c.needed-port.result with_reference (needed (codes "PORT")) c.in_ok-on_port.ensures c.needed-port.ensures.local is_port reference_made in
    let with_script : App = with_rule with_port (path_rule (codes "script")) in
    let script_made : app_of c.in_ok-after_script.after_script ≡ with_script = word_added c.in_ok-on_port.on_port c.in_ok-after_script.after_script c.path_option-script.result with_port (path_rule (codes "script")) c.in_ok-after_script.ensures c.path_option-script.ensures.local is_script port_made in
    let with_connections : App = with_rule with_script (connections_rule c.args.most) in
    let connections_made : app_of c.in_ok-of_firms.of_firms ≡ with_connections = word_added c.in_ok-after_script.after_script c.in_ok-of_firms.of_firms c.number_option-connections.result with_script (connections_rule c.args.most) c.in_ok-of_firms.ensures c.number_option-connections.ensures.local is_connections script_made in
    let with_every : App = with_rule with_connections every_rule in
    let every_made : app_of c.in_ok-with_sweeps.with_sweeps ≡ with_every = word_added c.in_ok-of_firms.of_firms c.in_ok-with_sweeps.with_sweeps c.number_option-every.result with_connections every_rule c.in_ok-with_sweeps.ensures c.number_option-every.ensures.local is_every connections_made in
    let is_journal : rule_of c.path_option-journal.result ≡ path_rule (codes "journal") = search rules in
    let is_resume : rule_of c.flag-resume.result ≡ flag_rule (codes "resume") = search rules in
    let with_journal : App = with_rule with_every (path_rule (codes "journal")) in
    let journal_made : app_of c.in_ok-with_journal.with_journal ≡ with_journal = word_added c.in_ok-with_sweeps.with_sweeps c.in_ok-with_journal.with_journal c.path_option-journal.result with_every (path_rule (codes "journal")) c.in_ok-with_journal.ensures c.path_option-journal.ensures.local is_journal every_made in
    last_rule_added c.arg-7.result c.in_ok-with_journal.with_journal c.flag-resume.result with_journal (flag_rule (codes "resume")) journal_made c.flag-resume.ensures.local is_resume c.arg-7.ensures
