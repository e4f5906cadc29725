use Rattle.gu_msgs.proofs.OutlineLemmas.{one_more, sound_text, value_fault}
use Rattle.gu_msgs.proofs.outline.Outline.judged.Goals as goal

pub returns-in-Err : goal.returns-in-Err
returns-in-Err g c =
    let m = c.args.self.now in
    rw c.fault.ensures (value_fault m c.args.place c.args.text.now c.in-Err.reason c.requires.within c.requires.judged c.requires.text (rw c.in-Err.is at c.requires.read))

pub returns-in-Ok : goal.returns-in-Ok
returns-in-Ok g c =
    let m = c.args.self.now in (
      c.in-Ok.is,
      one_more m c.args.place c.requires.within c.requires.plain c.requires.judged
          (sound_text m c.args.place c.args.text.now c.requires.text (rw c.in-Ok.is at c.requires.read)),
    )
