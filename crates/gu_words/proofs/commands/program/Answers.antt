use Rattle.std.proofs.Common.{rules, ◌≡◌, refl}
use Rattle.clap.specs.Words.{app_of}
use Rattle.gu_words.specs.CommandLine.{bare_program, fix_shape, replay_shape, secret_shape, serve_shape, tell_shape}
use Rattle.gu_words.proofs.WordLemmas.{six_commands}
use Rattle.gu_words.proofs.commands.program.Goals as goal

pub returns : goal.returns
returns c =
    let app : app_of c.after_help-bare.result ≡ bare_program = search rules in
    six_commands c.with-5.result c.after_help-bare.result c.in_ok-checking.checking c.in_ok-fixing.fixing c.in_ok-replaying.replaying c.in_ok-serving.serving c.in_ok-telling.telling c.check_command.result c.args.is_until_closed app
    c.in_ok-checking.ensures c.check_command.ensures (c.in_ok-fixing.ensures fix_shape refl c.fix_command.ensures)
    (c.in_ok-replaying.ensures replay_shape refl c.replay_command.ensures) (c.in_ok-serving.ensures (serve_shape c.args.is_until_closed) refl c.serve_command.ensures)
    (c.in_ok-telling.ensures tell_shape refl c.tell_command.ensures) (c.with-5.ensures secret_shape refl c.secret_command.ensures)
