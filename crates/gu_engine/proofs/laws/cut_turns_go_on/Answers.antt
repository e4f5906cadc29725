use Rattle.gu_engine.proofs.Shares.{in_shares}
use Rattle.gu_engine.proofs.laws.cut_turns_go_on.Goals as goal

pub returns : goal.returns
returns g c old new bytes moment moments text each all = in_shares g.A.Answerer.engine old new bytes moment moments text each all
