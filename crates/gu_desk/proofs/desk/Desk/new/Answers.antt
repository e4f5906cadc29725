use Rattle.gu_desk.proofs.Words.{rules, IsNew}
use Rattle.std.proofs.lemmas.List.Elements.{All-push}
use Rattle.gu_desk.proofs.desk.Desk.new.Goals as goal

pub loop-seat-preserved : goal.loop-seat-preserved
loop-seat-preserved g c =
    let i = c.loop-seat.invariant in
    record {
      annals = search rules;
      count = search rules;
      own = search rules;
      own_swept = search rules;
      places = search rules;
      new = rw c.push_reserved.ensures.items (All-push (IsNew g.E.EntryLedger.opening) c.loop-seat.places.items c.new-seat.result i.new c.new-seat.ensures);
    }
