use Rattle.gu_book.proofs.Words.{◌∙◌, ◌+◌, ◌<◌, List, length, ap, arith, refl, sym, subst, Entry, Asked, Accepted, answer, answer_in, BookState, StandsLast, stands_last, IsKeptWhole, state_in, done_by, reply_by, few_sides}
use Rattle.gu_book.proofs.Accepting.{answer_is, few_offers}
use Rattle.gu_book.proofs.Beginning.{legal-accepted, legal-refused}
use Rattle.gu_book.proofs.CountedLemmas.{accepted-touches, versions-fit, versions-push, versions-same}
use Rattle.gu_book.proofs.ClaimLemmas.{truncated}
use Rattle.gu_book.proofs.DeedLemmas.{may-do}
use Rattle.gu_book.proofs.TellingLemmas.{legal-counted, whole-more}
use Rattle.gu_book.proofs.book.Book.append_asked.Goals as goal

pub decide-requires : goal.decide-requires
decide-requires g c lifetimes =
    let old = c.self.inside in
    let room : length old.history < 1000000 = rw (sym c.self.view_is) at c.requires.room in (
      (refl, tt),
      omega (arith, few_offers old.reference old.history old.totals c.self.invariant.entries.kept, room),
    )

pub append_denied-requires-clause-answered : goal.append_denied-requires-clause-answered
append_denied-requires-clause-answered g c =
    let old = c.self.inside in
    ap (reply_by g.C.Does.Deed.does) (sym c.in-Err.is) ∙ c.decide.ensures.reply ∙ ap (answer_in old.reference (state_in old.totals)) (sym c.requires.same) ∙ answer_is old.reference old.history old.totals c.args.command.now c.self.invariant.entries.kept.beside
    ∙ ap (λ (k : BookState). answer k.reference k.history c.args.command.now) c.self.view_is

pub take_in-requires : goal.take_in-requires
take_in-requires g c =
    let old = c.self.inside in (
      old.reference,
      (may-do g.C.Does.Deed.does old.reference old.history old.totals c.args.command.now (g.C.Decide.command c.args.asked.now) c.decide.result c.in-Ok.deed c.requires.same c.self.invariant.entries.kept (rw (sym c.self.view_is) at c.requires.room) c.in-Ok.is c.decide.ensures.reply c.in-Ok.ensures.deed).1.0,
    )

pub touch-requires-clause-fits : goal.touch-requires-clause-fits
touch-requires-clause-fits g c group =
    let old = c.self.inside in
    versions-fit old.history c.know.new.versions (versions-same old.history old.versions c.know.new.versions c.self.invariant.entries.counted c.know.ensures.days c.know.ensures.same)
    c.self.invariant.entries.legal.within group

pub invariant_of-self-in_err-push_asked : goal.invariant_of-self-in_err-push_asked
invariant_of-self-in_err-push_asked g c =
    let old = c.self.inside in
    let kept =
    legal-counted old.reference old.history old.totals old.versions c.know.new.versions c.self.invariant.entries
    (versions-same old.history old.versions c.know.new.versions c.self.invariant.entries.counted c.know.ensures.days c.know.ensures.same) in
    subst (λ (history : List Entry). IsKeptWhole old.reference history old.totals c.know.new.versions old.recipients.items) (sym c.in_err-push_asked.ensures.refused)
    (record { entries = kept; told = c.self.invariant.told })

pub invariant_of-self-in-Err-take_in : goal.invariant_of-self-in-Err-take_in
invariant_of-self-in-Err-take_in g c =
    let old = c.self.inside in
    let kept =
    legal-refused old.reference old.history old.totals c.take_in.new.totals old.versions c.know.new.versions c.self.invariant.entries c.in-Err-take_in.ensures.refused
    (versions-same old.history old.versions c.know.new.versions c.self.invariant.entries.counted c.know.ensures.days c.know.ensures.same) in
    let back = truncated old.history (Asked c.args.command.now c.reply.result) c.len-count.result c.push_asked.new.self c.truncate.new.self c.len-count.ensures c.in_ok-push_asked.ensures.added c.truncate.ensures in
    subst (λ (history : List Entry). IsKeptWhole old.reference history c.take_in.new.totals c.know.new.versions old.recipients.items) (sym back)
    (record { entries = kept; told = c.self.invariant.told })

pub invariant_of-self-2 : goal.invariant_of-self-2
invariant_of-self-2 g c =
    let old = c.self.inside in
    let command = c.args.command.now in
    let deed = c.in-Ok.deed in
    let reply = Accepted (done_by (g.C.Does.Deed.does deed)) in
    let entry = Asked command reply in
    let room = rw (sym c.self.view_is) at c.requires.room in
    let may = may-do g.C.Does.Deed.does old.reference old.history old.totals command (g.C.Decide.command c.args.asked.now) c.decide.result deed c.requires.same c.self.invariant.entries.kept room c.in-Ok.is c.decide.ensures.reply c.in-Ok.ensures.deed in
    let counted =
    versions-push old.history entry c.know.new.versions c.touch.new.versions c.touched-touched.result
    (versions-same old.history old.versions c.know.new.versions c.self.invariant.entries.counted c.know.ensures.days c.know.ensures.same)
    (rw c.touched-touched.ensures (λ group. accepted-touches old.reference old.history old.totals command (g.C.Does.Deed.does deed) group c.self.invariant.entries.kept.beside.offers may.1.1))
    c.touch.ensures.touched c.touch.ensures.days in
    let kept =
    legal-accepted old.reference old.history old.totals c.take_in.new.totals old.versions c.touch.new.versions command reply c.self.invariant.entries room c.rules.ensures may.0 refl
    (c.in_default.ensures.taken old.reference command may.1.1) counted in
    let whole = whole-more old.reference old.history entry c.take_in.new.totals c.touch.new.versions old.recipients.items c.self.invariant.told kept (λ id. few_sides _ (c.rules-2.ensures.sound.sides id)) in
    rw (c.in_ok-push_asked.ensures.added, c.reply.ensures) whole

pub returns-clause-stands : goal.returns-clause-stands
returns-clause-stands g c =
    let old = c.self.inside in
    let command = c.args.command.now in
    let entry = Asked command (Accepted (done_by (g.C.Does.Deed.does c.in-Ok.deed))) in
    let room = rw (sym c.self.view_is) at c.requires.room in
    let may = may-do g.C.Does.Deed.does old.reference old.history old.totals command (g.C.Decide.command c.args.asked.now) c.decide.result c.in-Ok.deed c.requires.same c.self.invariant.entries.kept room c.in-Ok.is c.decide.ensures.reply c.in-Ok.ensures.deed in
    rw c.reply-2.ensures
    (subst (λ (k : BookState). StandsLast k.reference (length k.history + 1) entry) c.self.view_is (stands_last old.reference old.history entry c.self.invariant.entries.legal room c.rules.ensures may.0))

pub returns-clause-reply : goal.returns-clause-reply
returns-clause-reply g c =
    let old = c.self.inside in
    let may = may-do g.C.Does.Deed.does old.reference old.history old.totals c.args.command.now (g.C.Decide.command c.args.asked.now) c.decide.result c.in-Ok.deed c.requires.same c.self.invariant.entries.kept (rw (sym c.self.view_is) at c.requires.room) c.in-Ok.is c.decide.ensures.reply c.in-Ok.ensures.deed in
    rw c.reply-2.ensures (may.0 ∙ ap (λ (k : BookState). answer k.reference k.history c.args.command.now) c.self.view_is)
