use Rattle.gu_limits.proofs.Words.{◌∙◌, ◌+◌, ◌-◌, ap, sym, slice_get, map, [], ◌∷◌, arith, set_value_at, limits_after_charge, limit_on, used_on, GroupLimit, GroupKey, KeptLimit}
use Rattle.gu_limits.proofs.LimitPlaces.{charge-at, kept-at, value-at, with_room, within-at, written-within}
use Rattle.gu_limits.proofs.table.LimitTable.charge_limit.Goals as goal

pub overflow_add-used : goal.overflow_add-used
overflow_add-used c = omega (arith, (with_room c.self.inside.day c.args.place c.self.inside.limits.entries c.args.self.now c.self.view_is c.requires.known c.used_at-used.result c.used_at-used.ensures c.args.lots c.self.invariant c.requires.room).3)

pub invariant_of-self : goal.invariant_of-self
invariant_of-self c =
    let day = c.self.inside.day in
    let es = c.self.inside.limits.entries in
    let n = c.args.place in
    let e = with_room c.self.inside.day c.args.place c.self.inside.limits.entries c.args.self.now c.self.view_is c.requires.known c.used_at-used.result c.used_at-used.ensures c.args.lots c.self.invariant c.requires.room in
    let within = within-at day n es e.0 e.1 c.self.invariant in
    rw (c.write_use.ensures.written e.0.1 (value-at day n es e.0 e.1))
    (written-within day n es e.0 e.1 c.write_use.ensures.apart _ c.self.invariant (record { limit = within.limit; used = e.3; charged = omega arith }))

pub returns : goal.returns
returns c l at =
    let day = c.self.inside.day in
    let es = c.self.inside.limits.entries in
    let n = c.args.place in
    let e = kept-at day n es l (ap (λ ls. slice_get ls n) c.self.view_is ∙ at) in
    let used = c.used_at-used.ensures l at ∙ sym (ap (λ (l : GroupLimit). l.used) e.2) in
    ap (map (limit_on day))
    (c.write_use.ensures.written e.0.1 (value-at day n es e.0 e.1) ∙ ap (λ used. set_value_at es n (let kept : KeptLimit = record e.0.1 { used = used + c.args.lots; day = day } in kept)) used)
    ∙ charge-at day n es e.0 e.1 c.write_use.ensures.apart c.args.lots
    ∙ (λ i. limits_after_charge (c.self.view_is i) (e.2 i).group ((e.2 i).key ∷ []) c.args.lots)
