use Rattle.gu_world.proofs.Words.{◌≡◌, Some, None, sym, subst, false, option_map, group_view, Course, Look, is_overtaken, look_of, view_seen}
use Rattle.gu_world.proofs.RunLemmas.{kept-current, kept-look, no-current, no-look}
use Rattle.gu_world.proofs.world.World.look.Goals as goal

pub returns-in-Some-clause-seen : goal.returns-in-Some-clause-seen
returns-in-Some-clause-seen c =
    subst (λ (course : Course). Some c.view.result.now ≡ option_map (view_seen course.state) (look_of course.state c.args.worker)) c.self.view_is
    (kept-look c.self.inside.book c.self.inside.looks c.args.worker c.in-Some.held.now c.view.result.now c.self.invariant.trues (sym c.in-Some.ensures) c.view.ensures)

pub returns-in-None-clause-seen : goal.returns-in-None-clause-seen
returns-in-None-clause-seen c =
    subst (λ (course : Course). None ≡ option_map (view_seen course.state) (look_of course.state c.args.worker)) c.self.view_is
    (no-look c.self.inside.book c.self.inside.looks c.args.worker (sym c.in-None.ensures))

pub returns-in-Some-clause-current : goal.returns-in-Some-clause-current
returns-in-Some-clause-current c =
    subst
    (λ (course : Course). (look : Look) → look_of course.state c.args.worker ≡ Some look → is_overtaken course.state look ≡ false
    → Some c.view.result.now ≡ Some (group_view course.state.book.reference course.state.book.history look.group)) c.self.view_is
    (kept-current c.self.inside.book c.self.inside.looks c.args.worker c.in-Some.held.now c.view.result.now c.history.ensures.legal c.self.invariant.trues (sym c.in-Some.ensures) c.view.ensures)

pub returns-in-None-clause-current : goal.returns-in-None-clause-current
returns-in-None-clause-current c =
    subst
    (λ (course : Course). (look : Look) → look_of course.state c.args.worker ≡ Some look → is_overtaken course.state look ≡ false
    → None ≡ Some (group_view course.state.book.reference course.state.book.history look.group)) c.self.view_is
    (no-current c.self.inside.book c.self.inside.looks c.args.worker (sym c.in-None.ensures))
