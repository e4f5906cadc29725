use Rattle.gu_engine.proofs.Words.{◌++◌, ℕ, List, refl, ap, ◌∙◌, append_assoc, on_ok_then}
use Rattle.gu_engine.proofs.connection.Connection.answer_asked.Goals as goal

pub returns : goal.returns
returns g c =
    let replied = c.in_ok-reply.ensures in
    on_ok_then c.send_any.result
    (λ told. (
      replied.0 ++ told.0,
      told.1 ∙ ap (λ (t : List ℕ). t ++ told.0) replied.1 ∙ append_assoc c.args.output.now.items replied.0 told.0,
      record {
        ask = record { firm = c.firm.result; number = c.get.result; now = c.args.now; request = c.into_inner.result };
        is_ask = record { firm = c.firm.ensures; number_is = c.get.ensures; now_is = refl; request_is = c.into_inner.ensures };
        answered = c.in_ok-outcome.field-0;
        house = c.answer.new.self;
        answers = c.in_ok-outcome.ensures.answered;
        further = replied.2;
        heard = c.reply.new.self;
        answer = replied.0;
        told = told.0;
        taken = replied.3;
        sends = told.2;
        parts = refl;
      },
    ))
    c.send_any.ensures
