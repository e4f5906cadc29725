use Rattle.gu_book.proofs.Words.{◌∙◌, List, ap, refl, subst, sym, option_copied, LimitKey, AreLimitsOf, Row, row_at}
use Rattle.gu_book.proofs.Moves.{is-shown, is-there, shown-path}
use Rattle.gu_book.proofs.DeedLemmas.{found-some}
use Rattle.gu_book.proofs.sweeping.moved_by.Goals as goal

pub returns-in_err-offer : goal.returns-in_err-offer
returns-in_err-offer c reference open_ = absurd (is-there reference c.args.totals.now c.args.view.now.offers c.args.take.now open_ (sym c.in_err-offer.was ∙ c.get.ensures))

pub returns-in_err-shown : goal.returns-in_err-shown
returns-in_err-shown c reference open_ = absurd (is-shown reference c.args.totals.now c.args.view.now.offers c.args.take.now open_ (ap option_copied (sym c.in_err-shown.was) ∙ c.offer.ensures))

pub terms_given_up-requires : goal.terms_given_up-requires
terms_given_up-requires c = found-some (λ (r : Row). r.offer) (row_at c.args.totals.now.offers c.args.take.now.offer) c.in_ok-offer.offer c.in_ok-offer.ensures

pub returns : goal.returns
returns c reference open_ =
    let totals = c.args.totals.now in
    let offer = c.in_ok-offer.offer in
    let path = shown-path reference totals c.args.view.now.offers c.args.take.now open_ offer c.in_ok-offer.ensures c.in_ok-shown.shown.now c.in_ok-shown.ensures in (
      refl,
      record {
        offer = offer;
        seen = record { shown = c.in_ok-offer.ensures; found = c.terms_given_up.ensures offer c.in_ok-offer.ensures };
        group_is = refl;
        account_is = refl;
        under = subst (λ (path : List LimitKey). AreLimitsOf totals.limits offer.group path c.limits_of.result) path c.limits_of.ensures;
      },
    )
