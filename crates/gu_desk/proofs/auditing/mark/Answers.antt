use Rattle.std.proofs.Common.{rules, ◌≡◌, arith, None}
use Rattle.gu_desk.proofs.AuditLemmas.{fault_after, mark_after, receipt_number}
use Rattle.gu_desk.proofs.auditing.mark.Goals as goal

pub returns-in-Some-clause-fault : goal.returns-in-Some-clause-fault
returns-in-Some-clause-fault c seen rest are =
    let found = rw c.as_slice.ensures.value at c.in-Some.ensures.fault in
    fault_after c.args.history.now seen rest c.args.with_receipt.now.items c.args.receipt.now c.in-Some.fault are found

pub index_mut-requires : goal.index_mut-requires
index_mut-requires c =
    let none : c.fault_of.result ≡ None = search rules in
    let sound = rw none at c.fault_of.ensures.sound in
    let number = receipt_number c.args.history.now c.args.receipt.now sound.0 in
    omega (arith, number, c.requires)

pub returns-clause-ok : goal.returns-clause-ok
returns-clause-ok c seen are =
    let none : c.fault_of.result ≡ None = search rules in
    let sound = rw none at (rw c.as_slice.ensures.value at c.fault_of.ensures.sound) in
    mark_after c.args.history.now seen c.args.with_receipt.now.items c.args.receipt.now are sound.0 sound.1
