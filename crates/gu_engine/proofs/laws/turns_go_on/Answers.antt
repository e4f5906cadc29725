use Rattle.gu_engine.specs.Running.{AnswersPiece}
use Rattle.gu_engine.proofs.InTurn.{each_then}
use Rattle.gu_engine.proofs.laws.turns_go_on.Goals as goal

pub returns : goal.returns
returns g c old mid new pieces more text further first second = each_then (AnswersPiece g.A.Answerer.engine) old mid new pieces more text further first second
