use Rattle.gu_book.proofs.Words.{◌≡◌, ◌∙◌, ◌∷◌, Bool, true, false, not, ap, refl, sym, ViewOffer}
use Rattle.gu_view.proofs.SameViews.{offer_eq, offer_eq-Decides}
use Rattle.gu_book.proofs.current.behind.Goals as goal

pub returns-then-ne-clause-exactly : goal.returns-then-ne-clause-exactly
returns-then-ne-clause-exactly c rest begins =
    let here : c.in_ok-one.one.now ∷ c.in_ok-one.rest.now ≡ c.args.first.now ∷ rest = sym c.in_ok-one.ensures.cases.0 ∙ begins in
    let same : c.in_ok-one.one.now ≡ c.args.first.now = cc in
    let hit : offer_eq c.in_ok-one.one.now c.args.first.now ≡ true = (offer_eq-Decides c.in_ok-one.one.now c.args.first.now).1 same in
    sym (c.if-ne.ensures ∙ ap not hit)

pub returns-clause-begins : goal.returns-clause-begins
returns-clause-begins c =
    let same : c.in_ok-one.one.now ≡ c.args.first.now = (offer_eq-Decides c.in_ok-one.one.now c.args.first.now).0 (hit (offer_eq c.in_ok-one.one.now c.args.first.now) (sym c.if-ne.ensures)) in
    c.in_ok-one.ensures.cases.0 ∙ ap (λ (o : ViewOffer). o ∷ c.in_ok-one.rest.now) same
  where
    hit : (b : Bool) → not b ≡ false → b ≡ true
    hit true e = refl
    hit false e = cc
