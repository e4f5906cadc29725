use Rattle.std.proofs.Common.{refl, subst}
use Rattle.gu_rules.specs.BookState.{BookState}
use Rattle.gu_rules.specs.Notices.{IsStretch}
use Rattle.gu_houses.proofs.over_book.OverBookHouse.notices.Goals as goal

pub returns-clause-told : goal.returns-clause-told
returns-clause-told c =
    record { stretch_is = subst (λ (k : BookState). IsStretch k c.args.firm.now c.args.from c.in_ok-stretch.stretch) c.self.view_is c.in_ok-stretch.ensures; new_is = refl }
