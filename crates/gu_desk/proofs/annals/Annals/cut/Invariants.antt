use Rattle.std.specs.Prelude.{take}
use Rattle.gu_desk.proofs.annals.Annals.cut.Given as goal

abbrev pub ghosts-cut_as : goal.ghosts-cut_as
ghosts-cut_as g a = record { entries = take a.count a.self.now }
