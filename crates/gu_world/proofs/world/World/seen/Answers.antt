use Rattle.gu_world.proofs.Words.{◌≡◌, None, sym, ap, subst, option_map, Course, Look, look_of}
use Rattle.gu_world.proofs.RunLemmas.{no-seen}
use Rattle.gu_world.proofs.world.World.seen.Goals as goal

pub returns-in-None : goal.returns-in-None
returns-in-None c =
    subst (λ (course : Course). None ≡ option_map (λ (look : Look). (look.group, look.seen)) (look_of course.state c.args.worker)) c.self.view_is
    (sym (ap (option_map (λ (look : Look). (look.group, look.seen))) (no-seen c.self.inside.book c.self.inside.looks c.args.worker (sym c.in-None.ensures))))
