use Rattle.gu_engine.proofs.Words.{◌++◌, ℕ, List, refl, ap, ◌∙◌, append_assoc, on_ok_then}
use Rattle.gu_engine.proofs.connection.Connection.answer_frame.Goals as goal

pub returns : goal.returns
returns g c =
    let hears = c.in_ok-asked.ensures in
    on_ok_then c.answer_any.result
    (λ each. (
      hears.0 ++ each.0,
      each.1 ∙ ap (λ (t : List ℕ). t ++ each.0) hears.1 ∙ append_assoc c.args.output.now.items hears.0 each.0,
      record {
        asked = c.in_ok-asked.asked;
        heard = c.hear.new.self;
        sent = hears.0;
        answer = each.0;
        hears = hears.2;
        answers = each.2;
        parts = refl;
      },
    ))
    c.answer_any.ensures
