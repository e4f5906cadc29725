use Rattle.gu_view.proofs.Words.{◌≡◌, ◌∙◌, same_from_all_zip, lists_from}
use Rattle.gu_view.proofs.place_lists.PlaceLists.copy.Goals as goal

pub returns : goal.returns
returns c =
    (λ i. lists_from
    (same_from_all_zip (λ x y. y ≡ x) _ _ c.in_ok-joined.ensures.cases.0 (λ x y e. e) i) 0
    (same_from_all_zip (λ x y. y ≡ x) _ _ c.in_ok-ends.ensures.cases.0 (λ x y e. e) i))
    ∙ c.self.view_is
