use Rattle.gu_msgs.proofs.Words.{arith, sym, length, digits_value, ne_eqb, entries_by}
use Rattle.gu_msgs.proofs.GroupLemmas.{length-entries_by}
use Rattle.gu_msgs.proofs.shape.is_counted.Goals as goal

pub returns-in-None : goal.returns-in-None
returns-in-None c =
    let few = length-entries_by c.args.first c.args.group.now in
    sym (ne_eqb (digits_value 10 c.args.text.now) (length (entries_by c.args.first c.args.group.now)) (λ e. omega (arith, few, c.requires.short, c.in-None.ensures)))
