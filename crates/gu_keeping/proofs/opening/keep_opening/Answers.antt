use Rattle.gu_keeping.proofs.Words.{◌≡◌, ◌++◌, [], ◌∙◌, ℕ, List, take, drop, refl, sym, ap, subst, append_assoc, append-nil, take-append-drop, arith, take_all, Entry, IsWholeLines, IsChainOf, chain_after, empty_chain, IsOpening, Writes, Chain}
use Rattle.gu_keeping.proofs.Made.{none_opened, opening_chain, opening_more}
use Rattle.gu_keeping.proofs.Opened.{whole_append, write_after}
use Rattle.gu_keeping.proofs.Results.{both_stopped, if_stopped}
use Rattle.gu_keeping.proofs.opening.keep_opening.Goals as goal

pub returns-in-Err-clause-stopped : goal.returns-in-Err-clause-stopped
returns-in-Err-clause-stopped g c =
    let K = g.K.Sink in
    let heading = c.args.heading.now in
    if_stopped c.in-Err.unkept _ _ c.in-Err.ensures.any_moment_stopped (λ stopped writes. (
      [],
      empty_chain,
      [],
      (c.args.history.now, refl),
      none_opened,
      subst (λ (t : List ℕ). Writes K.is_honest K.moment K.left_since (K.place c.args.sink) stopped.place (K.kept c.args.sink) t) (sym (append-nil heading)) writes,
    ))

pub loop-alloc-init : goal.loop-alloc-init
loop-alloc-init g c =
    let K = g.K.Sink in
    let heading = c.args.heading.now in
    let history = c.args.history.now in
    let none : c.new-chain.result.count ≡ 0 = ap (λ (chain : Chain). chain.count) c.new-chain.ensures.value in
    record {
      text = [];
      opening = subst (λ (chain : Chain). IsOpening (take chain.count history) chain []) (sym c.new-chain.ensures.value) none_opened;
      whole = subst IsWholeLines (sym (append-nil heading)) c.in-Ok.ensures.whole;
      within = omega (arith, none);
      before = c.in-Ok.ensures.before;
      kept = λ honest. c.in-Ok.ensures.kept honest ∙ ap (λ (t : List ℕ). K.kept c.args.sink ++ t) (sym (append-nil heading));
      any_moment =
          subst (λ (t : List ℕ). Writes K.is_honest K.moment K.left_since (K.place c.args.sink) (K.place c.in-Ok.sink) (K.kept c.args.sink) t) (sym (append-nil heading)) c.in-Ok.ensures.any_moment;
    }

pub loop-alloc-preserved : goal.loop-alloc-preserved
loop-alloc-preserved g c =
    let K = g.K.Sink in
    let heading = c.args.heading.now in
    let history = c.args.history.now in
    let so_far = c.loop-alloc.invariant in
    let chain = c.loop-alloc.chain in
    let next = c.in-Ok-keep_next.next in
    let made = c.in-Ok-keep_next.ensures.kept in
    let kept = K.kept c.args.sink in
    record {
      text = so_far.text ++ made.1;
      opening = opening_more (take chain.count history) (take next.count history) made.0 chain next so_far.text made.1 so_far.opening made.2.batch made.3 made.2.entries_are;
      whole = subst IsWholeLines (append_assoc heading so_far.text made.1) (whole_append (heading ++ so_far.text) made.1 so_far.whole made.2.whole);
      within = c.in-Ok-keep_next.ensures.later.1;
      before = λ honest. so_far.before (c.in-Ok-keep_next.ensures.before honest);
      kept = λ honest.
          made.4 honest
          ∙ ap (λ (k : List ℕ). k ++ made.1) (so_far.kept (c.in-Ok-keep_next.ensures.before honest))
          ∙ append_assoc kept (heading ++ so_far.text) made.1
          ∙ ap (λ (t : List ℕ). kept ++ t) (append_assoc heading so_far.text made.1);
      any_moment =
          subst (λ (t : List ℕ). Writes K.is_honest K.moment K.left_since (K.place c.args.sink) (K.place c.in-Ok-keep_next.kept) kept t) (append_assoc heading so_far.text made.1)
          (write_after K.is_honest K.moment K.left_since (K.place c.args.sink) (K.place c.loop-alloc.sink) (K.place c.in-Ok-keep_next.kept) kept (K.kept c.loop-alloc.sink) (heading ++ so_far.text) made.1
          c.in-Ok-keep_next.ensures.before so_far.kept so_far.whole so_far.any_moment made.5);
    }

pub returns-in-Err-keep_next-clause-stopped : goal.returns-in-Err-keep_next-clause-stopped
returns-in-Err-keep_next-clause-stopped g c =
    let K = g.K.Sink in
    let heading = c.args.heading.now in
    let history = c.args.history.now in
    let so_far = c.loop-alloc.invariant in
    let chain = c.loop-alloc.chain in
    let kept = K.kept c.args.sink in
    both_stopped c.in-Err-keep_next.unkept _ _ _ c.in-Err-keep_next.ensures.before_stopped c.in-Err-keep_next.ensures.stopped (λ stopped before made. (
      take made.0 history,
      chain_after chain made.1,
      so_far.text ++ made.2,
      (drop made.0 history, take-append-drop made.0 history),
      opening_more (take chain.count history) (take made.0 history) made.1 chain (chain_after chain made.1) so_far.text made.2 so_far.opening made.3.batch refl made.3.entries_are,
      subst (λ (t : List ℕ). Writes K.is_honest K.moment K.left_since (K.place c.args.sink) stopped.place kept t) (append_assoc heading so_far.text made.2)
          (write_after K.is_honest K.moment K.left_since (K.place c.args.sink) (K.place c.loop-alloc.sink) stopped.place kept (K.kept c.loop-alloc.sink) (heading ++ so_far.text) made.2
          before so_far.kept so_far.whole so_far.any_moment made.4),
    ))

pub returns-clause-chain : goal.returns-clause-chain
returns-clause-chain g c =
    let history = c.args.history.now in
    let so_far = c.loop-alloc.invariant in
    let chain = c.loop-alloc.chain in
    let all : take chain.count history ≡ history = take_all chain.count history (omega (arith, c.loop-alloc-test.false, c.count.ensures, c.len.ensures)) in
    subst (λ (l : List Entry). IsChainOf chain l) all (opening_chain (take chain.count history) chain so_far.text so_far.opening)
