use Rattle.gu_msgs.proofs.Words.{◌≡◌, None, ap, subst, Outlined, kind_of, shape_fault}
use Rattle.gu_msgs.proofs.OutlineLemmas.{count_of_entries, value_fault}
use Rattle.gu_msgs.proofs.outline.Outline.count.Goals as goal

pub returns-in-Ok : goal.returns-in-Ok
returns-in-Ok c =
    let m = c.args.self.now in
    count_of_entries m c.args.place c.args.least c.args.most c.in-Ok.number c.required.result.now (subst (λ (o : Outlined). shape_fault o.kind o.fields ≡ None) c.self.view_is c.self.invariant.shape) c.requires.row.within c.requires.row.counts (ap kind_of c.requires.row.is_row)
    c.required.ensures c.in-Ok.ensures.judged c.in-Ok.ensures.means.value

pub returns-in-Err : goal.returns-in-Err
returns-in-Err c =
    let m = c.args.self.now in
    rw c.fault.ensures (value_fault m c.args.place c.required.result.now c.in-Err.reason c.requires.row.within c.requires.judged c.required.ensures (rw c.requires.row.is_row c.in-Err.ensures.judged))
