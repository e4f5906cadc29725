use Rattle.gu_desk.proofs.Words.{Result, Ok, Err, IfErr, IsSweepRefused, SweepError}
use Rattle.gu_desk.proofs.RefusalLemmas.{refused_after}
use Rattle.gu_desk.proofs.desk.Desk.sweep.Goals as goal

-- the consequence of a property of an error
if_err : {T E : Type 0} {P Q : E → Type 0} (r : Result T E) → ((e : E) → P e → Q e) → IfErr r P → IfErr r Q
if_err (Ok x) f h = tt
if_err (Err e) f h = f e h

pub returns-clause-refused : goal.returns-clause-refused
returns-clause-refused g c =
    let reference = g.E.EntryLedger.reference in
    let mid = c.loop-again.seat in
    let new = c.try_sweep-2.new.seat in
    let group = c.args.plan.now.group in
    if_err {P = λ why. IsSweepRefused reference mid group why new} {Q = λ why. IsSweepRefused reference c.args.seat.now group why new} c.try_sweep-2.result
    (λ (why : SweepError) is. refused_after reference c.args.seat.now mid new group why c.loop-again.invariant is) c.try_sweep-2.ensures.refused
