use Rattle.gu_msgs.proofs.Words.{◌≡◌, ◌<◌, ◌-◌, ◌+◌, ◌∙◌, ap, sym, subst, List, length, slice_get, arith, TagValue}
use Rattle.gu_msgs.proofs.RunLemmas.{field_between, length_between}
use Rattle.gu_msgs.proofs.run.Run.get.Goals as goal

pub returns : goal.returns
returns c =
    let own = c.self.inside in
    let within = subst (λ (t : List TagValue). c.args.index < length t) (sym c.self.view_is) c.requires in
    let size = ap length c.self.view_is in
    let place : own.to - (c.len.result - c.args.index) ≡ own.from + c.args.index = omega (arith, length_between own.fields.now own.from own.to c.self.invariant, size, within, c.len.ensures) in
    ap (λ (t : List TagValue). slice_get t c.args.index) (sym c.self.view_is)
    ∙ field_between own.fields.now own.from own.to c.args.index within ∙ ap (slice_get own.fields.now) (sym place) ∙ c.get.ensures
