use Rattle.std.proofs.Common.{◌≡◌, ◌∙◌, sym, subst}
use Rattle.std.proofs.lemmas.List.Elements.{same_from_all_zip}
use Rattle.gu_terms.specs.Lines.{AreLines}
use Rattle.gu_terms.proofs.lines.Lines.copy.Goals as goal

pub invariant_of-result : goal.invariant_of-result
invariant_of-result c = subst AreLines (sym (same_from_all_zip (λ x y. y ≡ x) _ _ c.in_ok-list.ensures.cases.0 (λ x y e. e))) c.self.invariant

pub returns : goal.returns
returns c = same_from_all_zip (λ x y. y ≡ x) _ _ c.in_ok-list.ensures.cases.0 (λ x y e. e) ∙ c.self.view_is
