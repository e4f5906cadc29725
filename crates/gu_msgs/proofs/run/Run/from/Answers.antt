use Rattle.gu_msgs.proofs.Words.{◌∙◌, ◌≤◌, List, length, drop, ap, sym, subst, TagValue}
use Rattle.gu_msgs.proofs.RunLemmas.{dropped_between}
use Rattle.gu_msgs.proofs.run.Run.from.Goals as goal

pub returns : goal.returns
returns c =
    let own = c.self.inside in
    let within = subst (λ (t : List TagValue). c.args.count ≤ length t) (sym c.self.view_is) c.requires in
    dropped_between own.fields.now own.from own.to c.args.count c.self.invariant within ∙ ap (drop c.args.count) c.self.view_is
