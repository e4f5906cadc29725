use Rattle.gu_engine.proofs.Leaving.{fewer_frames, frame_left, over_left}
use Rattle.gu_engine.proofs.backlog.Backlog.next_frame.Goals as goal

pub returns-in-Some-clause-event : goal.returns-in-Some-clause-event
returns-in-Some-clause-event g c kept events is =
    let first = rw c.in-Some.is at c.in-Ok.ensures.first in frame_left c.args.self.now.left c.args.self.now.intake c.next_frame.new.self kept c.in-Some.frame events c.requires first is

pub returns-in-Some-clause-fewer : goal.returns-in-Some-clause-fewer
returns-in-Some-clause-fewer g c =
    let first = rw c.in-Some.is at c.in-Ok.ensures.first in fewer_frames c.args.self.now.left c.args.self.now.intake c.next_frame.new.self c.in-Some.frame c.requires first

pub returns-in-None-clause-event : goal.returns-in-None-clause-event
returns-in-None-clause-event g c kept events is =
    let none = rw c.in-None.is at c.in-Ok.ensures.none in
    let stays_open = rw c.in-None.is at c.in-Ok.ensures.stays_open in
    let leads_on = rw c.in-None.is at c.in-Ok.ensures.leads_on in
    over_left c.args.self.now.left c.args.self.now.intake c.next_frame.new.self kept events c.requires none stays_open leads_on is
