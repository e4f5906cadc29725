use Rattle.gu_engine.proofs.Servings.{uncut_turn}
use Rattle.gu_engine.proofs.laws.uncut_turns_are_pieces.Goals as goal

pub returns : goal.returns
returns g c old new bytes moment text answers none = uncut_turn g.A.Answerer.engine old new bytes moment text answers none
