use Rattle.std.proofs.Common.{Bool, [], ◌||◌, ap, ◌∙◌}
use Rattle.gu_engine.proofs.connection.Connection.end.Goals as goal

pub returns : goal.returns
returns g c =
    let steps = c.end-taken.ensures 0 [] in
    record {
      now = 0;
      asked = c.end-taken.result.handed;
      taken = record {
        outputs = steps.outputs;
        session = c.end-taken.new.self;
        steps = steps.steps;
        asked_is = steps.handed;
        text_is = steps.text;
        new_is = c.note.ensures.over ∙ ap (λ (b : Bool). record c.args.self.now { session = c.end-taken.new.self; is_over = c.args.self.now.is_over || b }) steps.close;
      };
    }
