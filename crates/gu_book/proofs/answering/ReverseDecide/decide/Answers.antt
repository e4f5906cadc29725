use Rattle.gu_book.proofs.Words.{◌≡◌, ◌∙◌, ℕ, List, None, ap, arith, false, nat_lt, refl, subst, sym, LimitKey, Reversed, Accepted, AreLimitsOf, Row, left_in, row_at, today_in, offer_tests, refusal_in, reverse_tests, standing_after, standing_none, state_in}
use Rattle.gu_book.proofs.ClaimLemmas.{lots_are}
use Rattle.gu_book.proofs.DeedLemmas.{found-some}
use Rattle.gu_book.proofs.answering.ReverseDecide.decide.Goals as goal

pub returns-clause-reply : goal.returns-clause-reply
returns-clause-reply c =
    let state = state_in c.args.totals.now in
    let n = c.args.self.now.offer in
    let tests = reverse_tests state n in
    let nothing : left_in state.offers n ≡ 0 = omega (arith, c.left.ensures, c.if-left-gt0.false) in
    let shut : nat_lt 0 (left_in state.offers n) ≡ false = ap (nat_lt 0) nothing in
    let lots = lots_are (today_in state.offers n) c.in-Some.lots c.in-Some.ensures in
    let none : refusal_in tests ≡ None = rw (shut, lots.1) refl in
    ap (λ (moved : ℕ). Accepted (Reversed moved)) (c.get.ensures.number ∙ lots.0)
    ∙ sym (standing_after (offer_tests c.args.reference.now state c.args.self.now.firm n) tests (Reversed (today_in state.offers n)) c.in_ok-offer.ensures.passed ∙ standing_none tests (Reversed (today_in state.offers n)) none)

pub terms_given_up-requires : goal.terms_given_up-requires
terms_given_up-requires c = found-some (λ (r : Row). r.offer) (row_at c.args.totals.now.offers c.args.self.now.offer) c.in_ok-offer.offer c.in_ok-offer.ensures.offer

pub returns-clause-deed : goal.returns-clause-deed
returns-clause-deed c =
    record {
      firm = c.args.self.now.firm;
      is = refl;
      found = record {
        offer = c.in_ok-offer.offer;
        seen = record { shown = c.in_ok-offer.ensures.offer; found = c.terms_given_up.ensures c.in_ok-offer.offer c.in_ok-offer.ensures.offer };
        group_is = refl;
        account_is = refl;
        under = subst (λ (keys : List LimitKey). AreLimitsOf c.args.totals.now.limits c.in_ok-offer.offer.group keys c.limits_of.result) c.path_with-path.ensures.keys c.limits_of.ensures;
      };
      all = c.get.ensures.number ∙ (lots_are (today_in c.args.totals.now.offers c.args.self.now.offer) c.in-Some.lots c.in-Some.ensures).0;
    }
