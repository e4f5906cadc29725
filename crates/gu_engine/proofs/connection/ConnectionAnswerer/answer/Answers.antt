use Rattle.gu_engine.proofs.Words.{ap, ◌∙◌, on_ok_both, is_more}
use Rattle.gu_engine.proofs.Exchanging.{fewer_parts}
use Rattle.gu_engine.proofs.connection.ConnectionAnswerer.answer.Goals as goal

pub returns-in-More-clause-fewer : goal.returns-in-More-clause-fewer
returns-in-More-clause-fewer g c =
    on_ok_both c.tell_stretch.result (λ onwards within more. fewer_parts c.args.self.now c.tell_stretch.new.self (c.requires ∙ ap is_more c.in-More.is) onwards within)
    c.tell_stretch.ensures.onwards c.tell_stretch.ensures.within
