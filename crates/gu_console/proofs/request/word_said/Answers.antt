use Rattle.std.proofs.Common.{rules}
use Rattle.gu_console.specs.Requests.{IsPlainWord}
use Rattle.gu_console.specs.declared.request.Request.{Request}
use Rattle.gu_console.proofs.RequestLemmas.{no_word}
use Rattle.gu_console.proofs.request.word_said.Goals as goal

pub returns-in_default-cut_said : goal.returns-in_default-cut_said
returns-in_default-cut_said c =
    let plain : (asked : Request) → ¬ IsPlainWord c.args.line.now asked = search (rules, c.in_default.ensures, c.in_default.is) in
    no_word c.args.line.now plain c.in_default-cut_said.ensures
