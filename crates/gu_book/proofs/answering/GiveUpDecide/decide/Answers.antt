use Rattle.gu_book.proofs.Words.{sym, ◌∙◌, ◌≡◌, length, ◌+◌, false, is_none, not, ap, arith, refl, None, Option, option_map, Group, Report, Offered, Accepted, given_up, has_unknown_account, lacks_agreement, lines_tests, refusal_in, tests_of_lines, standing_in, standing_none, is_kept_give_up, state_in}
use Rattle.gu_book.proofs.TakenIn.{standing-given, standing-none}
use Rattle.gu_book.specs.declared.answering.GivenReport.{GivenReport}
use Rattle.gu_book.proofs.answering.GiveUpDecide.decide.Goals as goal

pub has_unknown_account_without-requires : goal.has_unknown_account_without-requires
has_unknown_account_without-requires c = (
  c.args.self.now.firm,
  c.lacks_agreement-lacks.ensures ∙ ap (lacks_agreement c.args.reference.now c.args.self.now.firm) (c.as_slice.ensures.lines ∙ sym c.as_slice-2.ensures.lines),
)

pub returns-in_default-clause-reply : goal.returns-in_default-clause-reply
returns-in_default-clause-reply c =
    let none : given_up c.args.reference.now (state_in c.args.totals.now) c.args.self.now.firm c.args.self.now.report ≡ None =
    standing-none c.args.reference.now c.args.totals.now c.args.self.now.firm c.args.self.now.report (ap (option_map (λ (g : GivenReport). (g.standing, g.group))) (sym c.in_default.is) ∙ c.given_up.ensures.standing) in
    let day : is_none c.args.totals.now.today ≡ false = ap not (c.is_none.ensures ∙ ap not c.if-is_none.false) in
    let known : has_unknown_account c.args.reference.now c.args.self.now.lines ≡ false = ap (has_unknown_account c.args.reference.now) (sym c.as_slice-2.ensures.lines) ∙ sym c.has_unknown_account_without.ensures ∙ c.if-has_unknown_account_without.false in
    let new : is_kept_give_up c.args.totals.now.give_ups.keys c.args.self.now.firm c.args.self.now.id ≡ false = sym c.has_give_up.ensures ∙ c.if-has_give_up.false in
    rw (day, known, new, none) refl

pub returns-in-Some-refusal_of_lines-clause-reply : goal.returns-in-Some-refusal_of_lines-clause-reply
returns-in-Some-refusal_of_lines-clause-reply c =
    let reference = c.args.reference.now in
    let state = state_in c.args.totals.now in
    let given = standing-given reference c.args.totals.now c.args.self.now.firm c.args.self.now.report c.in-Some.given.standing c.in-Some.given.group c.in-Some.ensures.standing in
    let tests = lines_tests reference state given.0 c.in-Some.given.group c.args.self.now.lines in
    let done = Offered c.in-Some.given.group (length c.args.totals.now.offers + 1) (length c.args.self.now.lines) in
    let same : refusal_in (tests_of_lines reference state.offers c.args.self.now.firm c.args.self.now.report c.in-Some.given.standing c.in-Some.given.group c.args.self.now.lines) ≡ refusal_in tests =
    (λ i. refusal_in (tests_of_lines reference state.offers (sym given.3 i) (sym given.4 i) (sym given.2 i) c.in-Some.given.group c.args.self.now.lines)) in
    let day : is_none c.args.totals.now.today ≡ false = ap not (c.is_none.ensures ∙ ap not c.if-is_none.false) in
    let known : has_unknown_account reference c.args.self.now.lines ≡ false = ap (has_unknown_account reference) (sym c.as_slice-2.ensures.lines) ∙ sym c.has_unknown_account_without.ensures ∙ c.if-has_unknown_account_without.false in
    let new : is_kept_give_up c.args.totals.now.give_ups.keys c.args.self.now.firm c.args.self.now.id ≡ false = sym c.has_give_up.ensures ∙ c.if-has_give_up.false in
    rw (day, known, new, given.1) (sym (standing_in tests done c.in-Some-refusal_of_lines.refusal (sym (c.in-Some-refusal_of_lines.ensures reference (c.lacks_agreement-lacks.ensures ∙ ap (lacks_agreement reference c.args.self.now.firm) c.as_slice.ensures.lines) ∙ same))))

pub returns-clause-reply : goal.returns-clause-reply
returns-clause-reply c =
    let reference = c.args.reference.now in
    let state = state_in c.args.totals.now in
    let given = standing-given reference c.args.totals.now c.args.self.now.firm c.args.self.now.report c.in-Some.given.standing c.in-Some.given.group c.in-Some.ensures.standing in
    let tests = lines_tests reference state given.0 c.in-Some.given.group c.args.self.now.lines in
    let done = Offered c.in-Some.given.group (length c.args.totals.now.offers + 1) (length c.args.self.now.lines) in
    let same : refusal_in (tests_of_lines reference state.offers c.args.self.now.firm c.args.self.now.report c.in-Some.given.standing c.in-Some.given.group c.args.self.now.lines) ≡ refusal_in tests =
    (λ i. refusal_in (tests_of_lines reference state.offers (sym given.3 i) (sym given.4 i) (sym given.2 i) c.in-Some.given.group c.args.self.now.lines)) in
    let day : is_none c.args.totals.now.today ≡ false = ap not (c.is_none.ensures ∙ ap not c.if-is_none.false) in
    let known : has_unknown_account reference c.args.self.now.lines ≡ false = ap (has_unknown_account reference) (sym c.as_slice-2.ensures.lines) ∙ sym c.has_unknown_account_without.ensures ∙ c.if-has_unknown_account_without.false in
    let new : is_kept_give_up c.args.totals.now.give_ups.keys c.args.self.now.firm c.args.self.now.id ≡ false = sym c.has_give_up.ensures ∙ c.if-has_give_up.false in
    let first : c.known.result ≡ length c.args.totals.now.offers + 1 = omega (arith, c.known.ensures, c.count.ensures) in
    let none : refusal_in tests ≡ None = sym same ∙ sym (c.refusal_of_lines.ensures reference (c.lacks_agreement-lacks.ensures ∙ ap (lacks_agreement reference c.args.self.now.firm) c.as_slice.ensures.lines)) ∙ c.in_default-refusal_of_lines.is in
    rw (day, known, new, given.1) ((λ i. Accepted (Offered c.in-Some.given.group (first i) (length c.args.self.now.lines))) ∙ sym (standing_none tests done none))

pub returns-clause-deed : goal.returns-clause-deed
returns-clause-deed c =
    let given = standing-given c.args.reference.now c.args.totals.now c.args.self.now.firm c.args.self.now.report c.in-Some.given.standing c.in-Some.given.group c.in-Some.ensures.standing in
    record { is = refl; group_is = ap (λ (g : Option (Report × Group)). option_map (λ (g : Report × Group). g.1) g) given.1; report_is = c.in-Some.ensures.number }
