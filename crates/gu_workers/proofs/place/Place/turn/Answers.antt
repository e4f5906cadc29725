use Rattle.std.proofs.Common.{refl, sym, subst}
use Rattle.gu_talks.specs.Visits.{StaysAsItIs}
use Rattle.gu_talks.specs.declared.talk.Talk.{Talk}
use Rattle.gu_workers.proofs.Staying.{stays}
use Rattle.gu_workers.proofs.place.Place.turn.Goals.{then-has_come, else-has_come}
use Rattle.gu_workers.proofs.place.Place.turn.Goals as goal

pub returns : goal.returns
returns g c =
    let old = c.args.self.talk in
    let remaining = g.I.Read.remaining in
    record {
      tried = c.if-has_come.talk;
      stays = elim c.if-has_come.branch [
        | then-has_come w ↦ subst (λ (talk : Talk g.row.I.Denot g.row.O.Denot). StaysAsItIs remaining old talk) (sym w.talk-is) w.try_read.ensures
        | else-has_come w ↦ subst (λ (talk : Talk g.row.I.Denot g.row.O.Denot). StaysAsItIs remaining old talk) (sym w.talk-is) (stays remaining old)
      ];
      became = c.in_ok-talk.turned;
      visits = c.in_ok-talk.ensures;
      last = c.after-stage.ensures.last;
      other = c.after-stage.ensures.other;
      card = refl;
    }
