use Rattle.gu_msgs.proofs.Words.{◌≡◌, ◌&&◌, not, false, ap, sym, ◌∙◌, slice_index, is_required, tag_of, row_at, stands}
use Rattle.gu_msgs.proofs.StandingLemmas.{and_false, not_missing, stands_numbered}
use Rattle.gu_msgs.proofs.standings.missing.Goals as goal
use Rattle.gu_msgs.proofs.standings.missing.Goals.{else-is_required-via-then-is_required+else-numbers-place-eq0, else-is_required-via-else-is_required}

pub loop-place-preserved : goal.loop-place-preserved
loop-place-preserved c = λ fields are.
    (let rows = c.args.rows.now in
    let place = c.loop-place.place in
    let row = row_at rows place in
    let none : (is_required row && not (stands (tag_of row) fields)) ≡ false =
    elim c.else-is_required.branch [
      | else-is_required-via-then-is_required+else-numbers-place-eq0 w ↦
          ap (λ b. is_required row && not b) (stands_numbered fields (tag_of row) (slice_index c.args.numbers.now place) (are place c.loop-place-test.true) w.if-numbers-place-eq0.false)
          ∙ and_false (is_required row)
      | else-is_required-via-else-is_required w ↦ ap (λ b. b && not (stands (tag_of row) fields)) (sym c.is_required.ensures ∙ w.if-is_required.false)
    ] in
    c.loop-place.invariant fields are ∙ not_missing rows fields place c.loop-place-test.true none)
