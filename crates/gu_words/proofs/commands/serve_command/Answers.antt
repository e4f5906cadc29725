use Rattle.std.proofs.Common.{rules, ◌≡◌, codes}
use Rattle.clap.specs.Words.{App, app_of, rule_of, with_rule}
use Rattle.gu_words.specs.CommandLine.{flag_rule, operated_app, path_rule, share_rule}
use Rattle.gu_words.proofs.WordLemmas.{last_word_added, word_added}
use Rattle.gu_words.proofs.commands.serve_command.Goals as goal

pub returns : goal.returns
returns c =
    let bare : App = operated_app c.args.is_until_closed in
    let is_doors : rule_of c.path_option-doors.result ≡ path_rule (codes "doors") = search rules in
    let is_secrets : rule_of c.path_option-secrets.result ≡ path_rule (codes "secrets") = search rules in
    let with_doors : App = with_rule bare (path_rule (codes "doors")) in
    let doors_made : app_of c.in_ok-with_doors.with_doors ≡ with_doors = word_added c.in_ok-operated.operated c.in_ok-with_doors.with_doors c.path_option-doors.result bare (path_rule (codes "doors")) c.in_ok-with_doors.ensures c.path_option-doors.ensures.local is_doors c.in_ok-operated.ensures in
    let with_secrets : App = with_rule with_doors (path_rule (codes "secrets")) in
    let secrets_made : app_of c.in_ok-with_secrets.with_secrets ≡ with_secrets = word_added c.in_ok-with_doors.with_doors c.in_ok-with_secrets.with_secrets c.path_option-secrets.result with_doors (path_rule (codes "secrets")) c.in_ok-with_secrets.ensures c.path_option-secrets.ensures.local is_secrets doors_made in
    let is_log : rule_of c.flag-log.result ≡ flag_rule (codes "log") = search rules in
    let logged : App = with_rule with_secrets (flag_rule (codes "log")) in
    let log_made : app_of c.in_ok-logged.logged ≡ logged = word_added c.in_ok-with_secrets.with_secrets c.in_ok-logged.logged c.flag-log.result with_secrets (flag_rule (codes "log")) c.in_ok-logged.ensures c.flag-log.ensures.local is_log secrets_made in
    let is_share : rule_of c.number_option-share.result ≡ share_rule = search rules in
    let shared : App = with_rule logged share_rule in
    let share_made : app_of c.in_ok-shared.shared ≡ shared = word_added c.in_ok-logged.logged c.in_ok-shared.shared c.number_option-share.result logged share_rule c.in_ok-shared.ensures c.number_option-share.ensures.local is_share log_made in
    let is_standby : rule_of c.flag-standby.result ≡ flag_rule (codes "standby") = search rules in
    last_word_added c.arg-5.result c.in_ok-shared.shared c.flag-standby.result shared (flag_rule (codes "standby")) share_made c.flag-standby.ensures.local is_standby c.arg-5.ensures
