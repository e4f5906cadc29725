use Rattle.gu_book.proofs.Words.{◌∙◌, sym, accounts-known}
use Rattle.gu_book.proofs.answering.has_unknown_account_without.Goals as goal

pub returns-else-lacks : goal.returns-else-lacks
returns-else-lacks c =
    c.if-lacks.false ∙ sym (accounts-known c.args.reference.now c.rules.ensures.sound c.requires.0 c.args.lines.now (sym c.requires.1 ∙ c.if-lacks.false))
