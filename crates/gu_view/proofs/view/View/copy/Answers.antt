use Rattle.gu_view.proofs.Words.{◌≡◌, ◌∙◌, same_from_all_zip}
use Rattle.gu_view.proofs.view.View.copy.Goals as goal
use Rattle.gu_view.proofs.view.View.copy.Goals.{In_ok-clone-3}

-- a copy equals the original
offers-are : (c : In_ok-clone-3) → c.in_ok-clone.field-0.items ≡ c.self.inside.offers.items
offers-are c = same_from_all_zip (λ x y. y ≡ x) _ _ c.in_ok-clone.ensures.cases.0 (λ x y e. e)

rooms-are : (c : In_ok-clone-3) → c.in_ok-clone-2.field-0.items ≡ c.self.inside.rooms.items
rooms-are c = same_from_all_zip (λ x y. y ≡ x) _ _ c.in_ok-clone-2.ensures.cases.0 (λ x y e. e)

keys-are : (c : In_ok-clone-3) → c.in_ok-clone-3.field-0.keys ≡ c.self.inside.keys.keys
keys-are c = same_from_all_zip (λ x y. y ≡ x) _ _ c.in_ok-clone-3.ensures.cases (λ x y e. e)

pub invariant_of-result : goal.invariant_of-result
invariant_of-result c = rw (offers-are c, rooms-are c, keys-are c, c.in_ok-copy.ensures, c.in_ok-copy-2.ensures) c.self.invariant

pub returns : goal.returns
returns c = (λ i. record { group = c.self.inside.group; version = c.self.inside.version; offers = offers-are c i; rooms = rooms-are c i }) ∙ c.self.view_is
