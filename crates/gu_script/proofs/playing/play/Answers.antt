use Rattle.gu_script.proofs.Words.{ap, Place}
use Rattle.gu_script.proofs.playing.play.Goals as goal

pub returns-clause-done : goal.returns-clause-done
returns-clause-done g c = rw (ap (λ (p : Place). p.course) c.new-script.ensures) at c.play_from.ensures.done

pub returns-clause-bad_line : goal.returns-clause-bad_line
returns-clause-bad_line g c n is = rw (ap (λ (p : Place). p.course) c.new-script.ensures) at (c.play_from.ensures.bad_line n is)

pub returns-clause-answered : goal.returns-clause-answered
returns-clause-answered g c is = rw (ap (λ (p : Place). p.course) c.new-script.ensures) at (c.play_from.ensures.answered is)

pub returns-clause-part : goal.returns-clause-part
returns-clause-part g c = rw (ap (λ (p : Place). p.course) c.new-script.ensures) at c.play_from.ensures.part
