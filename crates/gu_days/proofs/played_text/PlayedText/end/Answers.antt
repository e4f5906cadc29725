use Rattle.std.specs.Str.Lines.{lines}
use Rattle.gu_days.proofs.Arrived.{all_played}
use Rattle.gu_days.proofs.played_text.PlayedText.end.Goals as goal

pub returns-clause-played : goal.returns-clause-played
returns-clause-played c = λ reference so_far.
    rw c.into_world.ensures
    (all_played reference c.args.self.text.items c.clear.new.self.items c.end.new.output.items c.args.self.script c.end.new.self.course so_far c.in_ok-end.ensures.answered)

pub returns-clause-day : goal.returns-clause-day
returns-clause-day c = λ reference so_far history legal says.
    let last =
    all_played reference c.args.self.text.items c.clear.new.self.items c.end.new.output.items c.args.self.script c.end.new.self.course so_far c.in_ok-end.ensures.answered in
    rw c.into_world.ensures (c.what_says_a_day_plays_to_it.ensures reference history (lines c.args.self.text.items) last.0 c.end.new.self.course legal says last.1)
