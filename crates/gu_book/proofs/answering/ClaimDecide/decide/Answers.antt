use Rattle.gu_book.proofs.Words.{ℕ, List, Option, nat_lt, refl, subst, sym, ap, ◌∙◌, find, option_map, LimitKey, LimitReached, Claimed, Accepted, AreLimitsOf, room_in, Row, left_in, row_at, claim_tests, offer_tests, standing_after, standing_in, standing_none, short_key, state_in}
use Rattle.gu_book.proofs.ClaimLemmas.{claim_refused, lots_are, short_key-of}
use Rattle.gu_book.proofs.DeedLemmas.{found-some}
use Rattle.gu_book.proofs.answering.ClaimDecide.decide.Goals as goal

pub returns-in-Err-clause-reply : goal.returns-in-Err-clause-reply
returns-in-Err-clause-reply c =
    let reference = c.args.reference.now in
    let state = state_in c.args.totals.now in
    let left = left_in state.offers c.args.self.now.offer in
    let offer = c.in_ok-offer.offer in
    let lots = lots_are left c.in-Some.lots c.in-Some.ensures in
    let key =
    c.in-Err.ensures.short
    ∙ ap (λ (path : List LimitKey). find (λ key. nat_lt (room_in c.args.totals.now.limits offer.group key) c.get.result) path) c.path_with-path.ensures.keys
    ∙ short_key-of reference state c.args.self.now.offer c.get.result offer c.in_ok-offer.ensures.offer
    ∙ ap (short_key reference state c.args.self.now.offer) (c.get.ensures.number ∙ lots.0) in
    sym
    (standing_after (offer_tests reference state c.args.self.now.firm c.args.self.now.offer) (claim_tests reference state c.args.self.now.offer) (Claimed left) c.in_ok-offer.ensures.passed
    ∙ standing_in (claim_tests reference state c.args.self.now.offer) (Claimed left) (LimitReached c.in-Err.key)
    (claim_refused reference state c.args.self.now.offer lots.1 ∙ ap (λ (k : Option LimitKey). option_map LimitReached k) (sym key)))

pub returns-clause-reply : goal.returns-clause-reply
returns-clause-reply c =
    let reference = c.args.reference.now in
    let state = state_in c.args.totals.now in
    let left = left_in state.offers c.args.self.now.offer in
    let offer = c.in_ok-offer.offer in
    let lots = lots_are left c.in-Some.lots c.in-Some.ensures in
    let none =
    c.in-Ok.ensures.short
    ∙ ap (λ (path : List LimitKey). find (λ key. nat_lt (room_in c.args.totals.now.limits offer.group key) c.get.result) path) c.path_with-path.ensures.keys
    ∙ short_key-of reference state c.args.self.now.offer c.get.result offer c.in_ok-offer.ensures.offer
    ∙ ap (short_key reference state c.args.self.now.offer) (c.get.ensures.number ∙ lots.0) in
    ap (λ (n : ℕ). Accepted (Claimed n)) (c.get-2.ensures.number ∙ lots.0)
    ∙ sym
    (standing_after (offer_tests reference state c.args.self.now.firm c.args.self.now.offer) (claim_tests reference state c.args.self.now.offer) (Claimed left) c.in_ok-offer.ensures.passed
    ∙ standing_none (claim_tests reference state c.args.self.now.offer) (Claimed left)
    (claim_refused reference state c.args.self.now.offer lots.1 ∙ ap (λ (k : Option LimitKey). option_map LimitReached k) (sym none)))

pub terms_given_up-requires : goal.terms_given_up-requires
terms_given_up-requires c = found-some (λ (r : Row). r.offer) (row_at c.args.totals.now.offers c.args.self.now.offer) c.in_ok-offer.offer c.in_ok-offer.ensures.offer

pub returns-clause-deed : goal.returns-clause-deed
returns-clause-deed c =
    record {
      firm = c.args.self.now.firm;
      is = refl;
      found = record {
        offer = c.in_ok-offer.offer;
        seen = record { shown = c.in_ok-offer.ensures.offer; found = c.terms_given_up.ensures c.in_ok-offer.offer c.in_ok-offer.ensures.offer };
        group_is = refl;
        account_is = refl;
        under = subst (λ (keys : List LimitKey). AreLimitsOf c.args.totals.now.limits c.in_ok-offer.offer.group keys c.in-Ok.limits) c.path_with-path.ensures.keys c.in-Ok.ensures.limits;
      };
      all = c.get-2.ensures.number ∙ (lots_are (left_in c.args.totals.now.offers c.args.self.now.offer) c.in-Some.lots c.in-Some.ensures).0;
    }
