use Rattle.std.proofs.Common.{Bool, false, IsTrue, subst}
use Rattle.gu_etcd.proofs.Entries.{name_before, no_entry}
use Rattle.gu_etcd.proofs.Results.{if_none}
use Rattle.gu_etcd.proofs.entry.parts_of.Goals as goal

pub returns-in_err-desk-clause-none : goal.returns-in_err-desk-clause-none
returns-in_err-desk-clause-none c =
    if_none c.from_residual-in_err-desk.result
    (λ desk batch named is. no_entry c.args.entry.now c.in_ok-rest.rest.now desk batch c.in_ok-rest.ensures c.in_err-desk.ensures.none is)

pub returns-else-is_name-clause-none : goal.returns-else-is_name-clause-none
returns-else-is_name-clause-none c = λ desk batch named is.
    let parts = c.in_ok-desk.ensures in
    let first = c.in_ok-desk.desk.now in
    let is_named = name_before c.args.entry.now c.in_ok-rest.rest.now first c.in_ok-desk.batch.now desk batch c.in_ok-rest.ensures parts.parts parts.first named is in
    let said : IsTrue c.is_name.result = c.is_name.ensures.1 is_named in
    let unsaid : IsTrue false = subst (λ (b : Bool). IsTrue b) c.if-is_name.false said in
    absurd (cc)
