use Rattle.gu_session.proofs.Words.{◌≡◌, ◌++◌, ℕ, List, None, Some, slice_get, drop, sym, ap, ◌∙◌, option_copied, sent_within, with_gaps, Sent}
use Rattle.gu_session.proofs.Places.{from-past, none_above, past_below}
use Rattle.gu_session.proofs.WalkLemmas.{walk_on, walk_past}
use Rattle.gu_session.proofs.resending.resent.Goals as goal
use Rattle.gu_session.proofs.resending.resent.Goals.{in-Some+in_ok-at, in_default}

pub loop-place-init : goal.loop-place-init
loop-place-init c =
    let from = c.args.request.now.begin_seq_no in
    let to = c.behind_last.result in
    rw c.new-messages.ensures.items
    (ap (with_gaps c.args.firm.now c.args.now.now from to) (past_below from to c.place_of-place.result c.args.kept.now.items c.place_of-place.ensures.below))

pub loop-place-preserved : goal.loop-place-preserved
loop-place-preserved c =
    elim c.match-get.branch [
      | in-Some+in_ok-at w ↦
          let here : slice_get c.args.kept.now.items c.loop-place.place ≡ Some w.in-Some.sent.now = sym c.get.ensures ∙ ap option_copied w.in-Some.is in
          rw (w.messages-is, w.at-is, w.in_ok-at.ensures.pushed, w.in_ok-at.ensures.behind)
          (walk_on c.args.firm.now c.args.now.now c.args.request.now.begin_seq_no c.behind_last.result c.loop-place.at c.args.kept.now.items c.loop-place.place w.in-Some.sent.now _ _ here c.loop-place.invariant)
      | in_default w ↦
          let none : slice_get c.args.kept.now.items c.loop-place.place ≡ None = sym c.get.ensures ∙ ap option_copied w.in_default.is in
          rw (w.messages-is, w.at-is)
          (walk_past c.args.firm.now c.args.now.now c.args.request.now.begin_seq_no c.behind_last.result c.loop-place.at c.args.kept.now.items c.loop-place.place _ _ none c.loop-place.invariant)
    ]

pub returns : goal.returns
returns c =
    let firm = c.args.firm.now in
    let now = c.args.now.now in
    let from = c.args.request.now.begin_seq_no in
    let to = c.behind_last.result in
    let kept = c.args.kept.now.items in
    let none = none_above from to (drop c.loop-place.place kept)
    (from-past to c.place_of-place-end.result c.loop-place.place kept c.place_of-place-end.ensures.above c.loop-place-test.false) in
    c.in_ok-push_gap.ensures
    ∙ sym (ap (λ (sent : List Sent). c.loop-place.messages.items ++ with_gaps firm now c.loop-place.at to sent) none)
    ∙ c.loop-place.invariant ∙ ap (λ (n : ℕ). with_gaps firm now from n (sent_within from n kept)) c.behind_last.ensures
