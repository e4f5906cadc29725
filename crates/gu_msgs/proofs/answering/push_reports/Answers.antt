use Rattle.gu_msgs.proofs.Words.{◌≡◌, ◌∙◌, ◌+◌, ◌++◌, ◌∷◌, [], drop, arith, ap, sym, append_assoc, at_drop_more}
use Rattle.gu_msgs.specs.Answering.{position_report, reports_from}
use Rattle.gu_msgs.proofs.answering.push_reports.Goals as goal

pub loop-row-preserved : goal.loop-row-preserved
loop-row-preserved c =
    let m = c.args.question.now in
    let day = c.args.day in
    let rows = c.args.rows.now in
    let place = c.loop-row.place in
    let i = c.loop-row.row-index in
    let rest = reports_from m day (place + 1) (drop (i + 1) rows) in
    let one : reports_from m day place (drop i rows) ≡ c.position_report.result ∷ rest =
    at_drop_more (reports_from m day place) rows i c.row-item.result c.loop-row-test.true
    ∙ ap (λ row. position_report m day place row ∷ rest) (sym c.row-item.is) ∙ ap (λ body. body ∷ rest) (sym c.position_report.ensures) in
    record {
      counted = omega (arith, c.loop-row.invariant.counted);
      so_far =
          ap (λ items. items ++ rest) c.in_ok-push.ensures.items ∙ append_assoc c.loop-row.bodies.items (c.position_report.result ∷ []) rest
          ∙ ap (λ bodies. c.loop-row.bodies.items ++ bodies) (sym one) ∙ c.loop-row.invariant.so_far;
    }
