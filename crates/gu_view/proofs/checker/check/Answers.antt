use Rattle.std.proofs.Common.{◌∙◌, sym}
use Rattle.gu_view.proofs.Checked.{right_from_ok, ok_from_right, greatest_if_ok}
use Rattle.gu_view.proofs.checker.check.Goals as goal

pub returns-clause-exact : goal.returns-clause-exact
returns-clause-exact c n = (
  λ is. right_from_ok c.args.view.now c.answer.ensures.sound c.args.takes.now c.args.cut.now n (sym c.answer.ensures.verdict ∙ is),
  λ right. c.answer.ensures.verdict ∙ ok_from_right c.args.view.now c.answer.ensures.sound c.args.takes.now c.args.cut.now n right,
)

pub returns-clause-certified : goal.returns-clause-certified
returns-clause-certified c = greatest_if_ok c.args.view.now c.args.takes.now c.args.cut.now c.answer.result c.answer.ensures.sound c.answer.ensures.verdict
