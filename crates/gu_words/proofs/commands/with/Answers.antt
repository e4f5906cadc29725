use Rattle.gu_words.proofs.WordLemmas.{last_command_added}
use Rattle.gu_words.proofs.commands.with.Goals as goal

pub returns-in-Ok : goal.returns-in-Ok
returns-in-Ok c shape plain made =
    let is = rw c.in-Ok.is at made in
    last_command_added c.subcommand.result c.args.command c.in-Ok.added shape plain is c.subcommand.ensures
