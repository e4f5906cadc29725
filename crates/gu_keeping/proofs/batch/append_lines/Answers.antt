use Rattle.gu_keeping.proofs.Words.{◌++◌, ◌∙◌, List, ℕ, refl, sym, ap, append_assoc, flat_map, flat_map-append, line_of, entry_rows}
use Rattle.gu_keeping.proofs.Results.{on_ok}
use Rattle.gu_keeping.proofs.batch.append_lines.Goals as goal

pub returns : goal.returns
returns c =
    let comments = c.in_ok-append_comment.ensures in
    let lines = entry_rows c.args.today c.args.entry.now in
    on_ok c.append_entry.result c.append_entry.ensures (λ ended. (
      comments.0 ++ lines,
      record { comments = comments.0; says = comments.1; rows_are = refl },
      ended
          ∙ ap (λ (t : List ℕ). t ++ flat_map line_of lines) comments.2
          ∙ append_assoc c.args.output.now.items (flat_map line_of comments.0) (flat_map line_of lines)
          ∙ ap (λ (t : List ℕ). c.args.output.now.items ++ t) (sym (flat_map-append line_of comments.0 lines)),
    ))
