use Rattle.gu_days.proofs.Arrived.{none_played}
use Rattle.gu_days.proofs.played_text.PlayedText.new.Goals as goal

pub returns-clause-played : goal.returns-clause-played
returns-clause-played c = rw (c.new-2.ensures.items, c.new.ensures) (none_played c.args.reference)
