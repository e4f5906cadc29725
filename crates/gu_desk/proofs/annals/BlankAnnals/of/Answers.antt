use Rattle.std.proofs.Common.{[], ◌∷◌}
use Rattle.gu_desk.proofs.AnnalsMoves.{begins}
use Rattle.gu_desk.proofs.annals.BlankAnnals.of.Goals as goal

pub of_words-requires : goal.of_words-requires
of_words-requires c = begins {S = Unit {0}} [] (0 ∷ []) c.args.book.now.history
