use Rattle.gu_days.proofs.Arrived.{piece_played}
use Rattle.gu_days.proofs.played_text.PlayedText.take.Goals as goal

pub returns-clause-played : goal.returns-clause-played
returns-clause-played c = λ reference so_far.
    let taken = c.in_ok-take.ensures.answered in
    rw c.in_ok-extend_from_slice.ensures.items (piece_played reference c.args.self.now.text.items c.args.piece.now taken.0 c.args.self.now.script c.take.new.self so_far taken.2)
