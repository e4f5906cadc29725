use Rattle.std.proofs.Common.{◌≡◌, ap, ◌∙◌, sym, subst, [], List, Option, map}
use Rattle.std.proofs.lemmas.Result.{IfOk-weaker, err_from_is_err_and}
use Rattle.clap.specs.Kinds.{FailsBy, Kinds, or_else}
use Rattle.clap.specs.Words.{App, HasKind, Row, Text, fault_of, is_simple, is_simple_and_free, subcommand_of, subcommand_rows_of, takes}
use Rattle.clap.proofs.WalkLemmas.{both}
use Rattle.gu_words.specs.CommandLine.{program, says_until_closed}
use Rattle.gu_words.specs.Misfits.{kinds_of, misfit_of, refusals_of}
use Rattle.gu_words.specs.ProgramWords.{Captures, Checks, IsCounted, command_in, wanted_by, wanted_in}
use Rattle.gu_words.proofs.ServeLemmas.{numbers_read}
use Rattle.gu_words.proofs.WordLemmas.{first_kinds, no_refusals-check, no_refusals-name, read_unless_memory, simple-program, takes-name, takes-check, wanted_by-check, wanted_by-name, within_where_read}
use Rattle.gu_words.proofs.words.read.Goals as goal

pub returns-in_err-matches-clause-capture : goal.returns-in_err-matches-clause-capture
returns-in_err-matches-clause-capture g c name words =
    let error = err_from_is_err_and c.from_residual-in_err-matches.result c.from_residual-in_err-matches.ensures.1 in
    let app = c.in_ok-program.ensures ∙ ap program c.says_until_closed.ensures in
    rw (error.1, error.2) (c.in_err-matches.ensures.passes (ap (λ (a : App). takes a (map g.S.AsStr.text c.args.words.now)) app ∙ ap (λ (w : List Text). takes (program (says_until_closed w)) w) words ∙ takes-name name))

pub returns-in_err-matches-clause-check : goal.returns-in_err-matches-clause-check
returns-in_err-matches-clause-check g c name words =
    let error = err_from_is_err_and c.from_residual-in_err-matches.result c.from_residual-in_err-matches.ensures.1 in
    let app = c.in_ok-program.ensures ∙ ap program c.says_until_closed.ensures in
    rw (error.1, error.2) (c.in_err-matches.ensures.passes (ap (λ (a : App). takes a (map g.S.AsStr.text c.args.words.now)) app ∙ ap (λ (w : List Text). takes (program (says_until_closed w)) w) words ∙ takes-check name))

pub returns-in_err-matches-clause-refused : goal.returns-in_err-matches-clause-refused
returns-in_err-matches-clause-refused g c =
    let words = map g.S.AsStr.text c.args.words.now in
    let error = err_from_is_err_and c.from_residual-in_err-matches.result c.from_residual-in_err-matches.ensures.1 in
    let app = c.in_ok-program.ensures ∙ ap program c.says_until_closed.ensures in
    let kinds = c.in_err-matches.ensures.kinds (ap is_simple_and_free app ∙ simple-program (says_until_closed words)) in
    rw (error.1, error.2) (first_kinds (fault_of (program (says_until_closed words)) words) (kinds_of (misfit_of (command_in words))) c.in_err-matches.field-0.0
    (subst (λ (a : App). HasKind (fault_of a words) c.in_err-matches.field-0.0) app kinds))

pub returns-clause-task : goal.returns-clause-task
returns-clause-task g c =
    let words = map g.S.AsStr.text c.args.words.now in
    let app = c.in_ok-program.ensures ∙ ap program c.says_until_closed.ensures in
    let simple = simple-program (says_until_closed words) in
    let none : fault_of (program (says_until_closed words)) words ≡ [] =
    ap (λ (a : App). fault_of a words) (sym app) ∙ c.in_ok-matches.ensures.kinds (ap is_simple_and_free app ∙ simple) in
    let found = c.in_ok-matches.ensures.matches (ap is_simple app ∙ (both _ _ simple).0) in
    let same : subcommand_rows_of c.in_ok-matches.matches ≡ command_in words = found.1 ∙ ap (λ (a : App). subcommand_of a words) app in
    let counted : IsCounted (command_in words) = λ rows is. numbers_read (says_until_closed words) words rows none is in
    IfOk-weaker c.fitting_task-task.result _ _ (λ task wanted. wanted ∙ ap wanted_in same) (c.fitting_task-task.ensures.task (subst IsCounted (sym same) counted))

pub returns-clause-refused : goal.returns-clause-refused
returns-clause-refused g c =
    let words = map g.S.AsStr.text c.args.words.now in
    let app = c.in_ok-program.ensures ∙ ap program c.says_until_closed.ensures in
    let simple = simple-program (says_until_closed words) in
    let none : fault_of (program (says_until_closed words)) words ≡ [] =
    ap (λ (a : App). fault_of a words) (sym app) ∙ c.in_ok-matches.ensures.kinds (ap is_simple_and_free app ∙ simple) in
    let found = c.in_ok-matches.ensures.matches (ap is_simple app ∙ (both _ _ simple).0) in
    let same : subcommand_rows_of c.in_ok-matches.matches ≡ command_in words = found.1 ∙ ap (λ (a : App). subcommand_of a words) app in
    let counted : IsCounted (command_in words) = λ rows is. numbers_read (says_until_closed words) words rows none is in
    let kinds : kinds_of (misfit_of (subcommand_rows_of c.in_ok-matches.matches)) ≡ refusals_of words =
    ap (λ (command : Option (Text × List Row)). kinds_of (misfit_of command)) same ∙ ap (λ (first : Kinds). or_else first (kinds_of (misfit_of (command_in words)))) (sym none) in
    subst (λ (k : Kinds). FailsBy k c.fitting_task-task.result) kinds (c.fitting_task-task.ensures.refused (subst IsCounted (sym same) counted))

pub returns-clause-within : goal.returns-clause-within
returns-clause-within g c =
    let words = map g.S.AsStr.text c.args.words.now in
    let app = c.in_ok-program.ensures ∙ ap program c.says_until_closed.ensures in
    let none : fault_of (program (says_until_closed words)) words ≡ [] =
    ap (λ (a : App). fault_of a words) (sym app) ∙ c.in_ok-matches.ensures.kinds (ap is_simple_and_free app ∙ simple-program (says_until_closed words)) in
    within_where_read c.fitting_task-task.result words (λ rows is. numbers_read (says_until_closed words) words rows none is) (returns-clause-refused g c)

pub returns-clause-capture : goal.returns-clause-capture
returns-clause-capture g c name words =
    let told = IfOk-weaker c.fitting_task-task.result _ _ (λ task wanted. wanted ∙ ap wanted_by words ∙ wanted_by-name name) (returns-clause-task g c) in
    let kinds : refusals_of (map g.S.AsStr.text c.args.words.now) ≡ [] = ap refusals_of words ∙ no_refusals-name name in
    read_unless_memory c.fitting_task-task.result Captures told (subst (λ (k : Kinds). FailsBy k c.fitting_task-task.result) kinds (returns-clause-refused g c))

pub returns-clause-check : goal.returns-clause-check
returns-clause-check g c name words =
    let told = IfOk-weaker c.fitting_task-task.result _ _ (λ task wanted. wanted ∙ ap wanted_by words ∙ wanted_by-check name) (returns-clause-task g c) in
    let kinds : refusals_of (map g.S.AsStr.text c.args.words.now) ≡ [] = ap refusals_of words ∙ no_refusals-check name in
    read_unless_memory c.fitting_task-task.result Checks told (subst (λ (k : Kinds). FailsBy k c.fitting_task-task.result) kinds (returns-clause-refused g c))
