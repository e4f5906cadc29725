use Rattle.std.proofs.Common.{List, ℕ, [], inl, inr, sym, ◌∙◌, subst, ◌⊎◌}
use Rattle.gu_journal.specs.Crashes.{Only}
use Rattle.gu_journal.specs.Device.{Lengthens}
use Rattle.gu_journal.specs.Log.{Finds}
use Rattle.gu_journal.proofs.Moments.{goes_on, started, then_too, weaker}
use Rattle.gu_journal.proofs.Settled.{finds_zeros}
use Rattle.gu_journal.proofs.opening.prepare.Goals as goal

pub returns-clause-any_moment : goal.returns-clause-any_moment
returns-clause-any_moment g c honest =
    let d = c.args.device.now in
    let P : List ℕ → Type 0 = λ f. g.D.Device.may_leave d f ⊎ Finds [] f in
    let mid = c.lengthen_through.ensures.before honest in
    let empty = c.requires (c.sync.ensures.before mid) in
    let seen_mid = c.in_ok-sync.ensures.seen mid ∙ empty in
    let at_start = started g.D.Device.moment g.D.Device.left_since d P (λ f left. inl (g.met.D.Device.only_now d f left)) in
    let synced = goes_on g.D.Device.moment g.D.Device.left_since d d c.sync.new.self P _ at_start (c.sync.ensures.time mid) (λ f now. inl (c.sync.ensures.crash mid f now)) in
    let only = subst (λ (f : List ℕ). Only f (g.D.Device.may_leave c.sync.new.self)) (sym (c.in_ok-sync.ensures.seen mid)) (c.in_ok-sync.ensures.durable mid) in
    let longer = c.lengthen_through.ensures.any_moment honest only in
    let grown = weaker g.D.Device.moment g.D.Device.left_since c.sync.new.self c.lengthen_through.new.device (Lengthens c.args.count (g.D.Device.seen c.sync.new.self)) P longer
    (λ f more. inr (finds_zeros f c.args.count (subst (λ (olds : List ℕ). Lengthens c.args.count olds f) seen_mid more))) in
    then_too g.D.Device.moment g.D.Device.left_since d c.sync.new.self c.lengthen_through.new.device P synced grown
