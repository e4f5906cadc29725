use Rattle.gu_desk.proofs.Words.{[], ◌∷◌, Swept, sweep_of}
use Rattle.gu_desk.proofs.annals.Annals.swept.Given as goal

abbrev pub ghosts-add_sweep : goal.ghosts-add_sweep
ghosts-add_sweep g a = record { entries = Swept (sweep_of a.proposal.now) ∷ [] }
