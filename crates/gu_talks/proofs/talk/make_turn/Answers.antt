use Rattle.std.proofs.Common.{sym}
use Rattle.gu_talks.proofs.HoldingOn.{holds_what_is_given, if_both}
use Rattle.gu_talks.proofs.talk.make_turn.Goals as goal

pub returns : goal.returns
returns g c =
    if_both c.turn-turned.result _ _ _
    (λ became turns gave. record {
      before = c.patient-reads.result;
      after = c.turn-turned.new.reads;
      begins = record { source = c.patient-reads.ensures.source; left = c.patient-reads.ensures.left; fresh = c.patient-reads.ensures.fresh };
      ends = sym c.into_reader.ensures;
      turns = turns;
      holds = holds_what_is_given c.args.backlog.now c.turn-turned.new.backlog gave;
    })
    c.turn-turned.ensures.turned c.turn-turned.ensures.gave
