use Rattle.std.proofs.Common.{arith}
use Rattle.gu_msgs.proofs.OutlineLemmas.{few}
use Rattle.gu_msgs.proofs.outline.Outline.text.Goals as goal

pub offset_bounds-self-inside-place : goal.offset_bounds-self-inside-place
offset_bounds-self-inside-place c = record { fits = omega (arith, few c.args.self.now.kind c.args.place c.requires) }

pub bounds-self-inside-place : goal.bounds-self-inside-place
bounds-self-inside-place c = few c.args.self.now.kind c.args.place c.requires
