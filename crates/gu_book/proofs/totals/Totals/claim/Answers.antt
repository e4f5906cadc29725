use Rattle.gu_book.proofs.Moves.{claims-after, still-claimable}
use Rattle.gu_book.proofs.totals.Totals.claim.Goals as goal

pub carry_out-requires-clause-may : goal.carry_out-requires-clause-may
carry_out-requires-clause-may c = still-claimable c.args.self.now c.make_way.new.self c.args.claimed.now c.make_way.ensures.same c.requires

pub returns-clause-claimed : goal.returns-clause-claimed
returns-clause-claimed c =
    claims-after c.args.self.now c.make_way.new.self c.carry_out.new.self c.args.claimed.now c.make_way.ensures.same c.make_way.ensures.stay c.carry_out.ensures
