use Rattle.std.proofs.Common.{◌∙◌, refl, sym, ap, subst, MutBor}
use Rattle.std.proofs.lemmas.Result.{IfOk-at_ok}
use Rattle.gu_engine.specs.Exchange.{EndsSession, conversation_of}
use Rattle.gu_engine.specs.declared.connection.Connection.{Connection}
use Rattle.gu_talks.specs.declared.visit_clock.VisitClock.{VisitClock}
use Rattle.gu_talks.proofs.EndingTurns.{ends_last, ends_other}
use Rattle.gu_talks.proofs.HoldingOn.{all_hold_on, marks_fit}
use Rattle.gu_talks.proofs.talk.Talk.turn.Goals.{then-is_last, else-is_last}
use Rattle.gu_talks.proofs.talk.Talk.turn.Goals as goal

pub returns : goal.returns
returns g c =
    let begun = c.resume-connection.ensures in
    let went = c.make_turns-ahead.new.answerer in
    let turns = IfOk-at_ok _ c.in_ok-turned.was c.make_turns-ahead.ensures in
    record {
      begun = c.resume-connection.result;
      ahead = c.in_ok-ahead.ahead;
      conversation = ap (λ (k : Connection (MutBor g.row.H.Denot) VisitClock). conversation_of k) begun;
      house = ap (λ (k : Connection (MutBor g.row.H.Denot) VisitClock). k.house.now) begun;
      clock = ap (λ (k : Connection (MutBor g.row.H.Denot) VisitClock). k.clock.moment) begun ∙ c.new-clock.ensures.moment;
      input = c.in_ok-ahead.ensures;
      went = went;
      rest = c.make_turns-ahead.result.0;
      more = turns.0;
      turns = turns.1;
      ended = c.if-is_last.connection;
      ends = elim c.if-is_last.branch [
        | then-is_last w ↦ ends_last c.in_ok-turned.turned went c.if-is_last.connection (sym c.is_last.ensures ∙ w.if-is_last.true)
            (subst (λ (k : Connection (MutBor g.row.H.Denot) VisitClock). EndsSession went k) (sym w.connection-is) w.end.ensures)
        | else-is_last w ↦ ends_other c.in_ok-turned.turned went c.if-is_last.connection (sym c.is_last.ensures ∙ w.if-is_last.false) w.connection-is
      ];
      conversation_new = c.rest.ensures;
      input_new = c.into_source.ensures;
      holds = all_hold_on _ _ turns.0 _ c.in_ok-turned.turned _ turns.1;
      writer = refl;
      marks = refl;
    }

pub invariant_of-talk : goal.invariant_of-talk
invariant_of-talk g c =
    let turns = IfOk-at_ok _ c.in_ok-turned.was c.make_turns-ahead.ensures in
    let holds = all_hold_on _ _ turns.0 _ c.in_ok-turned.turned _ turns.1 in
    record { within = marks_fit c.args.self.backlog c.make_turns-ahead.new.backlog c.args.self.marks c.args.self.within holds }
