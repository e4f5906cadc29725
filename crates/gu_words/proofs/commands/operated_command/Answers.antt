use Rattle.std.proofs.Common.{rules, ◌≡◌, ◌∙◌, ap, codes}
use Rattle.clap.specs.Words.{App, app_of, rule_of, with_rule}
use Rattle.gu_words.specs.CommandLine.{counted_app, flag_rule, most_connections, path_rule, workers_rule}
use Rattle.gu_words.proofs.WordLemmas.{last_rule_added, word_added}
use Rattle.gu_words.proofs.commands.operated_command.Goals as goal

pub returns : goal.returns
returns c =
    let bare : App = counted_app (most_connections c.args.is_until_closed) in
    let made : app_of c.in_ok-counted.counted ≡ bare = c.in_ok-counted.ensures ∙ ap counted_app c.most_connections.ensures in
    let is_console : rule_of c.path_option-console.result ≡ path_rule (codes "console") = search rules in
    let is_watch : rule_of c.path_option-watch.result ≡ path_rule (codes "watch") = search rules in
    let is_flag : rule_of c.flag-until_closed.result ≡ flag_rule (codes "until-closed") = search rules in
    let with_console : App = with_rule bare (path_rule (codes "console")) in
    let console_made : app_of c.in_ok-with_console.with_console ≡ with_console = word_added c.in_ok-counted.counted c.in_ok-with_console.with_console c.path_option-console.result bare (path_rule (codes "console")) c.in_ok-with_console.ensures c.path_option-console.ensures.local is_console made in
    let with_watch : App = with_rule with_console (path_rule (codes "watch")) in
    let watch_made : app_of c.in_ok-watched.watched ≡ with_watch = word_added c.in_ok-with_console.with_console c.in_ok-watched.watched c.path_option-watch.result with_console (path_rule (codes "watch")) c.in_ok-watched.ensures c.path_option-watch.ensures.local is_watch console_made in
    let with_flag : App = with_rule with_watch (flag_rule (codes "until-closed")) in
    let flag_made : app_of c.in_ok-going_on.going_on ≡ with_flag = word_added c.in_ok-watched.watched c.in_ok-going_on.going_on c.flag-until_closed.result with_watch (flag_rule (codes "until-closed")) c.in_ok-going_on.ensures c.flag-until_closed.ensures.local is_flag watch_made in
    last_rule_added c.arg-4.result c.in_ok-going_on.going_on c.workers_option-workers.result with_flag workers_rule flag_made c.workers_option-workers.ensures.local c.workers_option-workers.ensures.rule c.arg-4.ensures
