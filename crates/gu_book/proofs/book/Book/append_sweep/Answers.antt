use Rattle.gu_book.proofs.Words.{◌∙◌, ◌+◌, ◌++◌, ◌∷◌, [], List, ap, length, map, if◌then◌else◌, subst, sym, same_group, Entry, Swept, SweepEntry, Group, GroupView, BookState, StandsLast, few_sides, IsKeptWhole, IsCurrent, sweep_of, version_in, MayMove, MovesAll, taken_by}
use Rattle.gu_book.proofs.Committing.{legal-still, legal-swept, may-move, shows-takes, swept-last}
use Rattle.gu_book.proofs.CountedLemmas.{versions-fit, versions-same}
use Rattle.gu_book.proofs.TellingLemmas.{whole-more}
use Rattle.gu_book.proofs.book.Book.append_sweep.Goals as goal

pub invariant_of-self-in_err-transfers : goal.invariant_of-self-in_err-transfers
invariant_of-self-in_err-transfers c =
    let old = c.self.inside in
    record {
      entries = legal-still old.reference old.history old.totals c.transfers_of.new.totals old.versions c.know.new.versions c.self.invariant.entries c.transfers_of.ensures.same
          c.know.ensures.days c.know.ensures.same;
      told = c.self.invariant.told;
    }

pub invariant_of-self-in_err-push_swept : goal.invariant_of-self-in_err-push_swept
invariant_of-self-in_err-push_swept c =
    let old = c.self.inside in
    let kept =
    legal-still old.reference old.history old.totals c.transfers_of.new.totals old.versions c.know.new.versions c.self.invariant.entries c.transfers_of.ensures.same
    c.know.ensures.days c.know.ensures.same in
    subst (λ (history : List Entry). IsKeptWhole old.reference history c.transfers_of.new.totals c.know.new.versions old.recipients.items) (sym c.in_err-push_swept.ensures.refused)
    (record { entries = kept; told = c.self.invariant.told })

pub carry_out-requires : goal.carry_out-requires
carry_out-requires c =
    let old = c.self.inside in
    let book : BookState = record { reference = old.reference; history = old.history } in
    let proposal = c.args.proposal.now in
    let current = subst (λ (k : BookState). IsCurrent k proposal.view) (sym c.self.view_is) c.requires.current in
    let kept = c.self.invariant.entries.kept in
    let takes = c.as_slice.ensures.takes ∙ c.takes.ensures.takes in
    let mid = c.transfers_of.new.totals in
    let shown = shows-takes book proposal old.totals c.view-2.result.now c.as_slice.result.now kept current c.asks_for_a_sweep.ensures c.view-2.ensures.view takes in
    let ready = c.in_ok-transfers.ensures.ready old.reference shown in
    (old.reference, subst (MayMove old.reference mid) (sym c.deref.ensures.value) (may-move book proposal old.totals mid c.as_slice.result.now c.in_ok-transfers.transfers.items kept current c.asks_for_a_sweep.ensures c.transfers_of.ensures.same takes ready))

pub touch-requires-clause-fits : goal.touch-requires-clause-fits
touch-requires-clause-fits c group =
    let old = c.self.inside in
    versions-fit old.history c.know.new.versions (versions-same old.history old.versions c.know.new.versions c.self.invariant.entries.counted c.know.ensures.days c.know.ensures.same) c.self.invariant.entries.legal.within group

pub invariant_of-self-2 : goal.invariant_of-self-2
invariant_of-self-2 c =
    let old = c.self.inside in
    let book : BookState = record { reference = old.reference; history = old.history } in
    let proposal = c.args.proposal.now in
    let current = subst (λ (k : BookState). IsCurrent k proposal.view) (sym c.self.view_is) c.requires.current in
    let still =
    legal-still old.reference old.history old.totals c.transfers_of.new.totals old.versions c.know.new.versions c.self.invariant.entries c.transfers_of.ensures.same c.know.ensures.days
    c.know.ensures.same in
    let kept = c.self.invariant.entries.kept in
    let takes = c.as_slice.ensures.takes ∙ c.takes.ensures.takes in
    let mid = c.transfers_of.new.totals in
    let items = c.in_ok-transfers.transfers.items in
    let shown = shows-takes book proposal old.totals c.view-2.result.now c.as_slice.result.now kept current c.asks_for_a_sweep.ensures c.view-2.ensures.view takes in
    let ready = c.in_ok-transfers.ensures.ready old.reference shown in
    let may = may-move book proposal old.totals mid c.as_slice.result.now items kept current c.asks_for_a_sweep.ensures c.transfers_of.ensures.same takes ready in
    let moves =
    subst (MovesAll old.reference mid c.carry_out.new.totals) (ap (map taken_by) c.deref.ensures.value ∙ ready.takes_are ∙ takes)
    (c.carry_out.ensures old.reference (subst (MayMove old.reference mid) (sym c.deref.ensures.value) may)) in
    let is = c.requires.kept in
    let pushed = c.in_ok-push_swept.ensures.added ∙ ap (λ (s : SweepEntry). old.history ++ Swept s ∷ []) is in
    let kept =
    legal-swept book proposal mid c.carry_out.new.totals c.know.new.versions c.touch.new.versions still current c.asks_for_a_sweep.ensures moves c.touch.ensures.days
    (λ group.
    c.touch.ensures.touched group
    ∙ ap (λ (own : Group). if same_group own group then version_in c.know.new.versions group + 1 else version_in c.know.new.versions group)
    (c.group-group.ensures ∙ ap (λ (v : GroupView). v.group) c.view.ensures.view)) in
    let whole =
    whole-more old.reference old.history (Swept (sweep_of proposal)) c.carry_out.new.totals c.touch.new.versions old.recipients.items c.self.invariant.told kept
    (λ id. few_sides _ (c.rules.ensures.sound.sides id)) in
    subst (λ (history : List Entry). IsKeptWhole old.reference history c.carry_out.new.totals c.touch.new.versions old.recipients.items) (sym pushed) whole

pub returns-clause-stands : goal.returns-clause-stands
returns-clause-stands c =
    let old = c.self.inside in
    let book : BookState = record { reference = old.reference; history = old.history } in
    let proposal = c.args.proposal.now in
    let current = subst (λ (k : BookState). IsCurrent k proposal.view) (sym c.self.view_is) c.requires.current in
    subst (λ (k : BookState). StandsLast k.reference (length k.history + 1) (Swept (sweep_of proposal))) c.self.view_is
    (swept-last book proposal old.totals old.versions c.self.invariant.entries current c.asks_for_a_sweep.ensures)
