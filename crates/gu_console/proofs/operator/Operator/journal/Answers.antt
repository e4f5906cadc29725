use Rattle.std.proofs.Common.{ap, inl}
use Rattle.std.specs.declared.vec.Vec.{Vec}
use Rattle.gu_console.proofs.ShownLemmas.{copied_from, keeps_on, later_made, shown_so, stretch_made}
use Rattle.gu_console.proofs.operator.Operator.journal.Goals as goal

pub invariant_of-self-in-Ok-stretch_of : goal.invariant_of-self-in-Ok-stretch_of
invariant_of-self-in-Ok-stretch_of g c =
    let front = c.put.new.self.front in
    let shown = c.self.inside.shown in
    let kept = keeps_on shown c.self.inside.today c.self.inside.seat.front front c.in-Ok.ensures.sees.begins c.self.invariant in
    let first = c.after-copies.ensures in
    let copied = copied_from front c.after-copies.result.from shown c.put.new.question.end c.after-copies.result.entries.items c.put.new.question.entries.items c.deref.result.now
    c.in-Ok.ensures.tells first.0 first.2 c.deref.ensures.value in
    later_made front c.deref.result.now shown c.put.new.question.end c.in-Ok-stretch_of.lines.count c.self.inside.today c.in-Ok-stretch_of.lines.today c.in-Ok-stretch_of.lines.text.items
    kept.0 kept.1 copied.0 copied.1 c.in-Ok-stretch_of.ensures

pub returns-in-Ok-stretch_of-clause-answered : goal.returns-in-Ok-stretch_of-clause-answered
returns-in-Ok-stretch_of-clause-answered g c =
    let front = c.put.new.self.front in
    let shown = c.self.inside.shown in
    let kept = keeps_on shown c.self.inside.today c.self.inside.seat.front front c.in-Ok.ensures.sees.begins c.self.invariant in
    let first = c.after-copies.ensures in
    let copied = copied_from front c.after-copies.result.from shown c.put.new.question.end c.after-copies.result.entries.items c.put.new.question.entries.items c.deref.result.now
    c.in-Ok.ensures.tells first.0 first.2 c.deref.ensures.value in
    let stretch = stretch_made front c.deref.result.now shown c.put.new.question.end c.in-Ok-stretch_of.lines.count c.self.inside.today c.in-Ok-stretch_of.lines.today
    c.in-Ok-stretch_of.lines.text.items kept.0 kept.1 copied.0 copied.1 c.in-Ok-stretch_of.ensures in
    rw (← c.self.view_is)
    (inl (shown_so g.E.EntryLedger.reference c.self.inside.seat c.put.new.self shown c.in-Ok-stretch_of.lines.count c.self.inside.counts.entries c.self.inside.console.is_watch c.in-Ok-stretch_of.lines.text.items
    c.swap.new.x.items c.in-Ok.ensures.sees stretch (ap (λ (v : Vec _ _). v.items) c.swap.ensures.x_after)))
