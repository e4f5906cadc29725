use Rattle.std.proofs.Common.{◌≡◌, ◌∙◌}
use Rattle.std.proofs.lemmas.List.Elements.{same_from_all_zip}
use Rattle.gu_terms.proofs.cut.Cut.copy.Goals as goal

pub returns : goal.returns
returns c =
    (λ i. record {
      keys = same_from_all_zip (λ x y. y ≡ x) _ _ c.in_ok-keys.ensures.cases (λ x y e. e) i;
      offers = same_from_all_zip (λ x y. y ≡ x) _ _ c.in_ok-offers.ensures.cases (λ x y e. e) i;
    })
    ∙ c.self.view_is
