use Rattle.gu_text.proofs.OneLine.{said_once}
use Rattle.gu_text.proofs.laws.a_line_says_one_thing.Goals as goal

pub returns : goal.returns
returns c = λ text a b p q. said_once text a b p q
