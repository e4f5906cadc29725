use Rattle.gu_desk.proofs.Words.{[], ◌∷◌, Asked}
use Rattle.gu_desk.proofs.annals.Annals.asked.Given as goal

abbrev pub ghosts-add_asked : goal.ghosts-add_asked
ghosts-add_asked g a = record { entries = Asked a.command.now a.reply.now ∷ [] }
