use Rattle.gu_engine.proofs.Words.{sym, on_ok_then}
use Rattle.gu_engine.proofs.connection.Connection.tell_stretch.Goals as goal

pub returns-clause-told : goal.returns-clause-told
returns-clause-told g c =
    on_ok_then c.send_stretch.result
    (λ sent. (
      sent.0,
      sent.1,
      record {
        firm = c.in-Some.firm;
        logged_on = sym c.in-Some.ensures;
        stretch = c.in_ok-stretch.stretch;
        house = c.notices.new.self;
        told = c.in_ok-stretch.ensures.told;
        sent = sent.2;
      },
    ))
    c.send_stretch.ensures.sent
