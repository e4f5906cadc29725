use Rattle.std.proofs.Common.{arith, ◌≡◌, codes, Some, sym, ◌∙◌, List}
use Rattle.std.proofs.lemmas.Grind.{common_steps}
use Rattle.std.specs.Option.{option_map}
use Rattle.clap.specs.Words.{Row, Text, first_of, found_of, rows_of, subcommand_rows_of}
use Rattle.clap.proofs.WalkLemmas.{first_value-rows}
use Rattle.gu_words.specs.ProgramWords.{wanted_of}
use Rattle.gu_words.specs.declared.words.Task.TheVariants.{Serve}
use Rattle.gu_words.proofs.WordLemmas.{fixes, issues, replays, serves}
use Rattle.gu_words.proofs.words.task_of.Goals as goal

pub returns-in-Some-fix-default : goal.returns-in-Some-fix-default
returns-in-Some-fix-default c within fits =
    let arm = c.in-Some-fix-default in
    let found = found_of arm.found.now in
    let name : option_map (λ (p : Text × List Row). p.0) (subcommand_rows_of c.args.matches.now) ≡ Some (codes "fix") = let entered = arm.ensures.name in let same = arm.is-fix in grind (arith, common_steps, entered, same) in
    let script : option_map (λ s. s.now) c.get_str.result ≡ first_of (codes "script") (rows_of found) = c.get_str.ensures ∙ first_value-rows found (codes "script") in
    fixes (subcommand_rows_of c.args.matches.now) (rows_of found) c.word.result.now c.word-in-Some-fix-default.result.now (option_map (λ s. s.now) c.get_str.result) name (sym arm.ensures.rows) c.word.ensures c.word-in-Some-fix-default.ensures script

pub returns-in-Some-replay-default : goal.returns-in-Some-replay-default
returns-in-Some-replay-default c within fits =
    let arm = c.in-Some-replay-default in
    let found = found_of arm.found.now in
    let name : option_map (λ (p : Text × List Row). p.0) (subcommand_rows_of c.args.matches.now) ≡ Some (codes "replay") = let entered = arm.ensures.name in let same = arm.is-replay in grind (arith, common_steps, entered, same) in
    replays (subcommand_rows_of c.args.matches.now) (rows_of found) c.word-in-Some-replay-default.result.now name (sym arm.ensures.rows) c.word-in-Some-replay-default.ensures

pub returns-in-Some-serve-default : goal.returns-in-Some-serve-default
returns-in-Some-serve-default c within fits =
    let arm = c.in-Some-serve-default in
    let name : option_map (λ (p : Text × List Row). p.0) (subcommand_rows_of c.args.matches.now) ≡ Some (codes "serve") = let entered = arm.ensures.name in let same = arm.is-serve in grind (arith, common_steps, entered, same) in
    serves (subcommand_rows_of c.args.matches.now) (rows_of (found_of arm.found.now)) (wanted_of (Serve c.serving_in.result)) name (sym arm.ensures.rows) c.serving_in.ensures within fits

pub returns-in-Some-secret-default : goal.returns-in-Some-secret-default
returns-in-Some-secret-default c within fits =
    let arm = c.in-Some-secret-default in
    let name : option_map (λ (p : Text × List Row). p.0) (subcommand_rows_of c.args.matches.now) ≡ Some (codes "secret") = let entered = arm.ensures.name in let same = arm.is-secret in grind (arith, common_steps, entered, same) in
    issues (subcommand_rows_of c.args.matches.now) (rows_of (found_of arm.found.now)) c.word-in-Some-secret-default.result.now name (sym arm.ensures.rows) c.word-in-Some-secret-default.ensures
