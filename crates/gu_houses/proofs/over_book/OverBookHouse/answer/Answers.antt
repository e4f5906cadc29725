use Rattle.std.proofs.Common.{refl, subst}
use Rattle.gu_terms.specs.declared.notice.Stretch.{Stretch}
use Rattle.gu_rules.specs.BookState.{BookState}
use Rattle.gu_rules.specs.Notices.{IsStretch}
use Rattle.gu_houses.specs.BookHouse.{rules_of_book}
use Rattle.gu_houses.proofs.TellingLemmas.{answers_command, if_some, some_of_ok}
use Rattle.gu_houses.proofs.over_book.OverBookHouse.answer.Goals as goal

pub returns-in-Enter-clause-answered : goal.returns-in-Enter-clause-answered
returns-in-Enter-clause-answered c =
    let book = c.enter.new.self in
    let firm = c.args.ask.firm in
    let told = if_some c.ok.result (λ (s : Stretch) is. record { stretch_is = subst (λ (k : BookState). IsStretch k firm c.args.from s) c.self.view_is is; new_is = refl })
    (some_of_ok (IsStretch c.self.inside.book firm c.args.from) c.stretch.result c.ok.result c.ok.ensures.value c.stretch.ensures) in
    answers_command rules_of_book c.args.self.now book c.args.ask c.args.from c.in-Enter.command _ c.in-Enter.is c.enter.ensures told
