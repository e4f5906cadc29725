use Rattle.gu_view.proofs.Words.{◌≡◌, ◌==◌, ◌<◌, ◌∙◌, ℕ, Bool, true, false, cond, List, None, Some, length, nat_lt, refl, sym, ap, arith, find, position, slice_get, position_or_len, option_and_then, option_copied, ltb-false, ltb-true, find_at, slice_get-get_or, slice_get_past, ViewOffer}
use Rattle.gu_view.proofs.view.View.offer.Goals as goal

-- what is found is at its index
found_at_place : (test : ViewOffer → Bool) (offers : List ViewOffer) → find test offers ≡ option_and_then (slice_get offers) (position test offers)
found_at_place test offers = find_at test offers ∙ go (nat_lt (position_or_len test offers) (length offers)) refl
  where
    go : (b : Bool) → nat_lt (position_or_len test offers) (length offers) ≡ b
        → slice_get offers (position_or_len test offers) ≡ option_and_then (slice_get offers) (cond b (Some (position_or_len test offers)) None)
    go true e = refl
    go false e = slice_get_past offers (position_or_len test offers) (ltb-false (position_or_len test offers) (length offers) e)

within : (test : ViewOffer → Bool) (offers : List ViewOffer) (place : ℕ) → position test offers ≡ Some place → place < length offers
within test offers place is = by (nat_lt (position_or_len test offers) (length offers)) refl is
  where
    by : (b : Bool) → nat_lt (position_or_len test offers) (length offers) ≡ b → cond b (Some (position_or_len test offers)) None ≡ Some place → place < length offers
    by true e h = let same : position_or_len test offers ≡ place = cc in omega (arith, same, ltb-true (position_or_len test offers) (length offers) e)
    by false e h = cc

pub returns-in_err-place : goal.returns-in_err-place
returns-in_err-place c =
    let offers = c.self.inside.offers.items in
    let none = rw c.deref.ensures.value at (sym c.offer_place.ensures ∙ c.in_err-place.was) in
    rw (← c.self.view_is, found_at_place (λ o. o.number == c.args.number) offers, none) (ap option_copied c.from_residual.ensures)

pub returns : goal.returns
returns c =
    let offers = c.self.inside.offers.items in
    let place = rw c.deref.ensures.value at (sym c.offer_place.ensures ∙ c.in_ok-place.was) in
    rw (← c.self.view_is, found_at_place (λ o. o.number == c.args.number) offers, place)
    (ap (λ (o : ViewOffer). Some o) c.index.ensures ∙ sym (slice_get-get_or offers c.in_ok-place.place c.index.result.now (within (λ o. o.number == c.args.number) offers c.in_ok-place.place place)))
