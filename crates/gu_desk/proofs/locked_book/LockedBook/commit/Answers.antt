use Rattle.gu_desk.proofs.Words.{◌≡◌, ◌∙◌, ℕ, refl, ◌+◌, ◌++◌, ◌∷◌, [], List, ap, arith, length, length-append, subst, sym, sum_by, lots_swept, swept_by, Entry, Swept, BookState, group_view, Refuses, sweep_of, Sees, SeatState}
use Rattle.std.proofs.lemmas.List.Sums.{sum_by-append}
use mathlib.Core.List.{IsPrefix}
use Rattle.gu_book.specs.Refusals.{commit_error_of}
use Rattle.gu_desk.proofs.Fronts.{book_is, honest}
use Rattle.gu_desk.proofs.RefusalLemmas.{commit_refused}
use Rattle.gu_desk.proofs.locked_book.LockedBook.commit.Goals as goal

pub enter_seen-requires-clause-honest : goal.enter_seen-requires-clause-honest
enter_seen-requires-clause-honest g c =
    let i = c.self.invariant in
    let me = c.self.inside in
    let view = c.args.proposal.now.view in
    let front : c.args.seat.now.front ≡ c.seat.inside.front = sym (ap (λ (s : SeatState). s.front) c.seat.view_is) in
    let begins = subst (IsPrefix c.seat.inside.front) i.1 c.compare.ensures.begins in
    let seen : view ≡ group_view me.book.reference c.seat.inside.front view.group = c.requires.seen ∙ (λ k. group_view (sym i.0 k) (front k) view.group) in
    honest me.book.reference c.seat.inside.front me.book.history view begins c.history.ensures.legal seen

-- the state of a seat
abbrev seat_of : ℕ → ℕ → List Entry → SeatState
seat_of entries swept front = record { entries = entries; swept = swept; front = front }

-- the keeper knows the new history
told : (g : _) (c : goal.After-history-2 g) → c.swept.new.self ≡ c.enter_seen.new.self.history
told g c =
    let entry = Swept (sweep_of c.args.proposal.now) in
    c.swept.ensures.added
    ∙ ap (λ (h : List Entry). h ++ entry ∷ []) (c.compare.ensures.same ∙ c.self.invariant.1)
    ∙ sym c.in-Ok.ensures.entered

pub invariant_of-self-2 : goal.invariant_of-self-2
invariant_of-self-2 g c =
    let i = c.self.invariant in
    let old = c.self.inside.book.history in
    let new = c.enter_seen.new.self.history in
    let entry = Swept (sweep_of c.args.proposal.now) in
    let entered = c.in-Ok.ensures.entered in
    let size : length new ≡ length old + 1 = ap {A = List Entry} length entered ∙ length-append old (entry ∷ []) in
    let lots : lots_swept new ≡ lots_swept old + (0 + c.args.proposal.now.lots) = ap {A = List Entry} (sum_by swept_by) entered ∙ sum_by-append swept_by old (entry ∷ []) in (
      c.enter_seen.ensures.reference ∙ i.0,
      told g c,
      i.2,
      omega (arith, size, i.3, c.add.ensures.total, c.audit.ensures.total),
      omega (arith, lots, i.4, c.add-2.ensures.total, c.lots.ensures.lots),
      i.5,
      i.6,
      i.7,
      i.8,
    )

pub invariant_of-seat-2 : goal.invariant_of-seat-2
invariant_of-seat-2 g c =
    let i = c.self.invariant in
    let old = c.self.inside.book.history in
    let entry = Swept (sweep_of c.args.proposal.now) in
    let size : length c.swept.result ≡ length old + 1 =
    ap {A = List Entry} length (c.swept.ensures.front ∙ told g c ∙ c.in-Ok.ensures.entered) ∙ length-append old (entry ∷ []) in (
      c.add.ensures.parts ∙ c.audit.ensures.parts ∙ c.seat.invariant.0,
      c.add-2.ensures.parts ∙ c.seat.invariant.1,
      omega (arith, size, i.3, c.add.ensures.amount, c.audit.ensures.amount, c.audit.ensures.bound),
    )

pub returns-clause-front : goal.returns-clause-front
returns-clause-front g c = c.swept.ensures.front ∙ told g c

pub returns-clause-current : goal.returns-clause-current
returns-clause-current g c =
    let view = c.args.proposal.now.view in
    c.in-Ok.ensures.current.same ∙ (λ k. group_view (c.self.invariant.0 k) (c.self.view_is k) view.group)

-- the seat as it was before the book refused
seat_was : (g : _) (c : goal.After-show g) → seat_of c.audit.new.share.amount c.seat.inside.swept.amount c.compare.new.front ≡ c.args.seat.now
seat_was g c =
    let same : seat_of c.audit.new.share.amount c.seat.inside.swept.amount c.compare.new.front ≡ seat_of c.seat.inside.entries.amount c.seat.inside.swept.amount c.seat.inside.front =
    λ k. seat_of (c.audit.ensures.amount k) c.seat.inside.swept.amount (c.compare.ensures.front k) in
    same ∙ c.seat.view_is

pub returns-in-Err-clause-refused : goal.returns-in-Err-clause-refused
returns-in-Err-clause-refused g c =
    let reference = g.E.EntryLedger.reference in
    let me = c.self.inside.book in
    let view = c.args.proposal.now.view in
    let new = c.show.new.seat in
    let is = subst (λ (b : BookState). Refuses b view (commit_error_of c.in-Err.why)) (book_is reference me.history me c.self.invariant.0 refl) c.in-Err.ensures.why in
    commit_refused reference c.args.seat.now new me.history view c.in-Err.why is c.requires.seen
    (subst (λ (s : SeatState). Sees reference s new) (seat_was g c) c.show.ensures.sees)
    (c.show.ensures.front ∙ c.in-Err.ensures.refused)
