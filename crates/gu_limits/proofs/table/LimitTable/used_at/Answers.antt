use Rattle.gu_limits.proofs.Words.{◌≡◌, ◌∙◌, ap, slice_get, limit_on, used_on, GroupLimit, KeptLimit}
use Rattle.gu_limits.proofs.LimitPlaces.{kept-at, value-at}
use Rattle.gu_limits.proofs.table.LimitTable.used_at.Goals as goal

pub returns : goal.returns
returns c l at =
    let day = c.self.inside.day in
    let es = c.self.inside.limits.entries in
    let e = kept-at day c.args.place es l (ap (λ ls. slice_get ls c.args.place) c.self.view_is ∙ at) in
    let value = value-at day c.args.place es e.0 e.1 in
    let same : c.index.result.now ≡ e.0.1 = cc (value, c.index.ensures) in
    c.used_on.ensures ∙ ap (used_on day) same ∙ ap (λ (l : GroupLimit). l.used) e.2
