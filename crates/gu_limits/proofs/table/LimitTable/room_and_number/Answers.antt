use Rattle.gu_limits.proofs.Words.{◌∙◌, ◌-◌, sym, ap, arith, Some, None, add-one, suc, option_map_or, keys_of, length-map, number_in, room_in, GroupKey, KeptLimit}
use Rattle.gu_limits.proofs.KeptLimits.{room-kept, same}
use Rattle.gu_limits.proofs.LimitPlaces.{number-kept, placed}
use Rattle.gu_limits.proofs.table.LimitTable.room_and_number.Goals as goal

pub overflow_add-result : goal.overflow_add-result
overflow_add-result c =
    let on : GroupKey = record { group = c.args.group.now; key = c.args.key.now } in
    let es = c.self.inside.limits.entries in
    let inside = (placed (same on) (keys_of es) c.in-Some.place (sym c.in-Some.ensures.index)).0 in
    omega (arith, inside, length-map es (λ (e : GroupKey × KeptLimit). e.0), c.len.ensures.len)

pub returns-in_default-clause-room : goal.returns-in_default-clause-room
returns-in_default-clause-room c =
    let on : GroupKey = record { group = c.args.group.now; key = c.args.key.now } in
    rw (← c.self.view_is) (sym (room-kept c.self.inside.day on c.self.inside.limits.entries None (sym c.in_default.ensures.value)))

pub returns-in_default-clause-number : goal.returns-in_default-clause-number
returns-in_default-clause-number c =
    let on : GroupKey = record { group = c.args.group.now; key = c.args.key.now } in
    ap (λ place. option_map_or suc place 0) c.in_default.ensures.index ∙ sym (number-kept c.self.inside.day on c.self.inside.limits.entries)
    ∙ ap (λ limits. number_in limits on.group on.key) c.self.view_is

pub returns-clause-room : goal.returns-clause-room
returns-clause-room c =
    let on : GroupKey = record { group = c.args.group.now; key = c.args.key.now } in
    c.saturating_sub-room.ensures ∙ ap (λ used. c.in-Some.kept.now.limit - used) c.used_on.ensures
    ∙ sym (room-kept c.self.inside.day on c.self.inside.limits.entries (Some c.in-Some.kept.now) (sym c.in-Some.ensures.value))
    ∙ ap (λ limits. room_in limits on.group on.key) c.self.view_is

pub returns-clause-number : goal.returns-clause-number
returns-clause-number c =
    let on : GroupKey = record { group = c.args.group.now; key = c.args.key.now } in
    rw add-one (ap (λ place. option_map_or suc place 0) c.in-Some.ensures.index)
    ∙ sym (number-kept c.self.inside.day on c.self.inside.limits.entries) ∙ ap (λ limits. number_in limits on.group on.key) c.self.view_is
