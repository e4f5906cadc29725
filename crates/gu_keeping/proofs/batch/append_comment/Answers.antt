use Rattle.gu_keeping.proofs.Words.{◌++◌, ◌∷◌, [], ◌∙◌, List, ℕ, Some, refl, sym, ap, subst, append-nil, line_of, AreOriginRows}
use Rattle.std.specs.Option.{option_copied}
use Rattle.gu_keeping.proofs.Results.{on_ok}
use Rattle.gu_keeping.proofs.batch.append_comment.Goals as goal

pub returns-in-Some : goal.returns-in-Some
returns-in-Some c =
    on_ok c.append_origin.result c.append_origin.ensures (λ made.
    let there : AreOriginRows (Some c.in-Some.origin.now) (made.0 ∷ []) = (made.0, made.1, refl) in (
      made.0 ∷ [],
      subst (λ o. AreOriginRows (option_copied o) (made.0 ∷ [])) (sym c.in-Some.is) there,
      made.2 ∙ ap (λ (t : List ℕ). c.args.output.now.items ++ t) (sym (append-nil (line_of made.0))),
    ))
