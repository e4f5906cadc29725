use Rattle.std.proofs.Common.{ap, length, ◌∙◌}
use Rattle.gu_world.proofs.SlotLemmas.{seen-looked, seen-true, true-made}
use Rattle.gu_world.proofs.stepping.see.Goals as goal

pub returns-in_err-make-clause-still : goal.returns-in_err-make-clause-still
returns-in_err-make-clause-still c = true-made c.args.book.now c.args.looks.now c.make.new.self c.make.ensures.kept c.requires

pub returns-clause-looked : goal.returns-clause-looked
returns-clause-looked c =
    seen-looked c.args.book.now c.args.group c.args.worker c.in-Ok.view c.len-seen.result c.args.looks.now c.make.new.self c.put.new.self
    c.in-Ok.ensures.known c.in-Ok.ensures.view (c.len-seen.ensures ∙ ap length c.history.ensures.history) c.make.ensures.kept c.put.ensures
    c.version-version.result c.version-version.ensures c.in_ok-make.ensures.made

pub returns-clause-still : goal.returns-clause-still
returns-clause-still c =
    seen-true c.args.book.now c.args.group c.args.worker c.in-Ok.view c.len-seen.result c.args.looks.now c.make.new.self c.put.new.self
    c.in-Ok.ensures.known c.in-Ok.ensures.view (c.len-seen.ensures ∙ ap length c.history.ensures.history) c.make.ensures.kept c.put.ensures
    c.in-Ok.ensures.nested c.requires
