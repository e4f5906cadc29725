use Rattle.std.proofs.Common.{◌∙◌}
use Rattle.gu_flow.proofs.RoundPushing.{keeps_on}
use Rattle.gu_flow.proofs.rounds.TwoWay.meet.Goals as goal

pub turns-preserved : goal.turns-preserved
turns-preserved c =
    let i = c.turns.invariant in
    let e = c.look.ensures in
    let f = c.look-in-turns.ensures in
    record {
      under_way = record {
        are = record { ahead = e.places; back = f.places; along = e.keeps.back ∙ i.under_way.are.along; against = f.keeps.back ∙ i.under_way.are.against };
        ahead = e.search;
        back = f.search;
      };
      ahead = keeps_on c.args.self.now.ahead c.turns.self.ahead c.look.new.self i.ahead e.keeps;
      back = keeps_on c.args.self.now.back c.turns.self.back c.look-in-turns.new.self i.back f.keeps;
    }
