use Rattle.std.proofs.Common.{◌∙◌, ap, refl, MutBor}
use Rattle.gu_engine.specs.Exchange.{conversation_of}
use Rattle.gu_engine.specs.declared.connection.Connection.{Connection}
use Rattle.gu_talks.specs.declared.visit_clock.VisitClock.{VisitClock}
use Rattle.gu_talks.proofs.talk.Talk.close.Goals as goal

pub returns : goal.returns
returns g c =
    let begun = c.resume-connection.ensures in
    record {
      begun = c.resume-connection.result;
      conversation = ap (λ (k : Connection (MutBor g.row.H.Denot) VisitClock). conversation_of k) begun;
      house = ap (λ (k : Connection (MutBor g.row.H.Denot) VisitClock). k.house.now) begun;
      clock = ap (λ (k : Connection (MutBor g.row.H.Denot) VisitClock). k.clock.moment) begun ∙ c.new-clock.ensures.moment;
      ended = c.close.new.connection;
      closes = c.in_ok-close.ensures.closed;
      conversation_new = c.rest.ensures;
      source = refl;
      writer = refl;
      marks = refl;
    }
