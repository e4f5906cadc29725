use Rattle.std.proofs.lemmas.Result.{on_ok_weaker}
use Rattle.gu_book.proofs.Accepting.{claim-fits, claim-taken}
use Rattle.gu_book.proofs.deed.NewClaimDeed.take_in.Goals as goal

pub claim-requires : goal.claim-requires
claim-requires c = let it = c.requires.1 in claim-fits c.requires.0 c.args.totals.now it.command c.args.self.now.claimed it.may it.is

pub returns-clause-taken : goal.returns-clause-taken
returns-clause-taken c =
    on_ok_weaker c.claim.result (λ claims reference command is. claim-taken reference c.args.totals.now c.claim.new.self command c.args.self.now.claimed is claims) c.claim.ensures.claimed
