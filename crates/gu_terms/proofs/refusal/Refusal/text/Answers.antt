use Rattle.gu_terms.proofs.RefusalTexts.{refusal_text}
use Rattle.gu_terms.proofs.refusal.Refusal.text.Goals as goal

pub returns-in-Some-clause-sound : goal.returns-in-Some-clause-sound
returns-in-Some-clause-sound c = refusal_text c.args.self.now (rw (← c.in-Some.ensures) c.of_key.ensures.sound)

pub returns-in-None-clause-sound : goal.returns-in-None-clause-sound
returns-in-None-clause-sound c = refusal_text c.args.self.now (rw (← c.in-None.ensures) tt)
