use Rattle.std.proofs.lemmas.Result.{IfOk-weaker}
use Rattle.gu_console.proofs.ShownLemmas.{copied_from, later_made, stretch_made}
use Rattle.gu_console.proofs.stretch.next_stretch.Goals as goal

pub returns-clause-stretch : goal.returns-clause-stretch
returns-clause-stretch c = λ shown.
    let first = c.after-copies.ensures in
    let copied = copied_from c.args.book.now.history c.after-copies.result.from c.args.shown c.ask.new.self.end c.after-copies.result.entries.items c.ask.new.self.entries.items c.deref.result.now
    c.in_ok-ask.ensures first.0 first.2 c.deref.ensures.value in
    IfOk-weaker c.stretch_of.result _ _
    (λ lines are. stretch_made c.args.book.now.history c.deref.result.now c.args.shown c.ask.new.self.end lines.count c.args.today lines.today lines.text.items
    shown.0 shown.1 copied.0 copied.1 are) c.stretch_of.ensures

pub returns-clause-shown : goal.returns-clause-shown
returns-clause-shown c = λ shown.
    let first = c.after-copies.ensures in
    let copied = copied_from c.args.book.now.history c.after-copies.result.from c.args.shown c.ask.new.self.end c.after-copies.result.entries.items c.ask.new.self.entries.items c.deref.result.now
    c.in_ok-ask.ensures first.0 first.2 c.deref.ensures.value in
    IfOk-weaker c.stretch_of.result _ _
    (λ lines are. later_made c.args.book.now.history c.deref.result.now c.args.shown c.ask.new.self.end lines.count c.args.today lines.today lines.text.items
    shown.0 shown.1 copied.0 copied.1 are) c.stretch_of.ensures
