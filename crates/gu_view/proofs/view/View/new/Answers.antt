use Rattle.gu_view.proofs.Words.{◌≡◌, ◌∙◌, None, sym, bad_offer}
use Rattle.gu_view.proofs.MakingLemmas.{good_offers}
use Rattle.gu_view.proofs.view.View.new.Goals as goal

pub path_differs-requires : goal.path_differs-requires
path_differs-requires c =
    let none : bad_offer c.args.offers.items ≡ None = rw c.deref.ensures.value at (sym c.bad_offer.ensures ∙ c.in_default.is) in
    rw c.deref-2.ensures.value ((good_offers c.args.offers.items none).ascending)
