use Rattle.gu_view.proofs.Words.{◌≡◌, ◌≤◌, ◌∙◌, ◌∷◌, [], ℕ, Bool, List, Option, ap, arith, drop, get_or, length, take_rest, list_all, LimitKey, have_one_key, key_on, same_key, ViewOffer}
use Rattle.gu_view.proofs.nesting.have_one_key.Goals as goal

-- the others have the key of the first
others_have_it : (offers : List ViewOffer) (depth : ℕ) (places : List ℕ) (key : Option LimitKey) (told : Bool)
    → 1 ≤ length places → key ≡ key_on offers depth (get_or places 0 0)
    → told ≡ list_all (λ place. same_key key (key_on offers depth place)) (drop 1 places) → told ≡ have_one_key offers depth places
others_have_it offers depth [] key told some is all = absurd (omega arith)
others_have_it offers depth (first ∷ others) key told some is all = all ∙ ap (λ k. list_all (λ place. same_key k (key_on offers depth place)) others) is

pub returns-in-len1-up : goal.returns-in-len1-up
returns-in-len1-up c =
    others_have_it c.args.offers.now c.args.depth c.args.places.now c.key_on.result c.all_have_key.result c.in-len1-up.len_at_least c.key_on.ensures (simp take_rest at c.all_have_key.ensures)
