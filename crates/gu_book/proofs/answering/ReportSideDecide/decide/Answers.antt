use Rattle.gu_book.proofs.Words.{◌≡◌, ◌∙◌, sym, ap, not, refl, Some, false, account_row, is_instrument, same_firm, counterpart_of, has_report, made_on, with_match, Terms, is_other_day, answer_to_match, waiting_of}
use Rattle.gu_book.proofs.Counterparts.{answer-met}
use Rattle.gu_book.proofs.answering.ReportSideDecide.decide.Goals as goal

pub returns-clause-reply : goal.returns-clause-reply
returns-clause-reply c =
    let reference = c.args.reference.now in
    let it = c.args.self.now in
    let sides = with_match it.match_id c.args.totals.now.trades in
    let day : is_other_day c.in-Some.today it.day ≡ false = sym c.is_other_day.ensures ∙ c.if-is_other_day.false in
    let instrument : not (is_instrument reference it.symbol) ≡ false = ap not (sym c.is_instrument.ensures ∙ c.if-not-is_instrument.false) in
    let account : account_row reference it.account ≡ Some c.in-Some-account.row = sym c.in-Some-account.ensures in
    let has : has_report c.args.totals.now.trades it.firm it.id ≡ false = sym c.has.ensures ∙ c.if-has.false in
    let own : not (same_firm c.in-Some-account.row.firm it.firm) ≡ false = sym c.ne.ensures ∙ c.if-ne.false in
    let met = sym c.in_ok-waiting.ensures.made ∙ ap answer_to_match (c.counterpart-counterpart.ensures ∙ ap (λ (t : Terms). counterpart_of sides t) c.on-terms.ensures) ∙ answer-met sides (made_on c.in-Some.today it) in
    rw (c.in-Some.is, day, instrument, account, own, has) met

pub returns-clause-deed : goal.returns-clause-deed
returns-clause-deed c =
    let sides = with_match c.args.self.now.match_id c.args.totals.now.trades in
    record {
      is = refl;
      opened = c.in-Some.is;
      met = c.in_ok-waiting.ensures.waiting ∙ ap waiting_of (c.counterpart-counterpart.ensures ∙ ap (λ (t : Terms). counterpart_of sides t) c.on-terms.ensures);
    }
