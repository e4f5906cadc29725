use Rattle.gu_limits.proofs.Words.{◌∙◌, sym, ap, refl, subst, lookup, Sets, limits_after_setting, IsWithin, set_to, GroupKey}
use Rattle.gu_limits.proofs.KeptLimits.{All-inserted, same, set-kept, set-within}
use Rattle.gu_limits.proofs.LimitLemmas.{known-setting, limit-setting, used-setting}
use Rattle.gu_limits.proofs.table.LimitTable.set_within.Goals as goal

pub invariant_of-self-2 : goal.invariant_of-self-2
invariant_of-self-2 c =
    let day = c.self.inside.day in
    let on : GroupKey = record { group = c.args.group.now; key = c.args.key.now } in
    let es = c.self.inside.limits.entries in
    let all = c.self.invariant in
    rw c.in_ok-put.ensures.put (All-inserted (IsWithin day) es on (set_to day c.args.lots (lookup (same on) es)) all (set-within day on c.args.lots es all c.requires))

pub returns-clause-set : goal.returns-clause-set
returns-clause-set c =
    let ls = c.args.self.now in
    let group = c.args.group.now in
    let key = c.args.key.now in
    let rows =
    set-kept c.self.inside.day (record { group = group; key = key }) c.args.lots c.self.inside.limits.entries c.put.new.limits.entries c.in_ok-put.ensures.put c.in_ok-put.ensures.apart
    ∙ ap (λ ls. limits_after_setting ls group key c.args.lots) c.self.view_is in
    subst (λ new. Sets ls new group key c.args.lots) (sym rows)
    (record { rows = refl; known = known-setting ls group key c.args.lots; limits = limit-setting ls group key c.args.lots; uses = used-setting ls group key c.args.lots })
