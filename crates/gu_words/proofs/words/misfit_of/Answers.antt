use Rattle.std.proofs.Common.{arith, ◌≡◌, codes, List, Some, sym}
use Rattle.std.proofs.lemmas.Grind.{common_steps}
use Rattle.std.specs.Option.{option_map}
use Rattle.clap.specs.Words.{Row, Text, found_of, rows_of, subcommand_rows_of}
use Rattle.gu_words.proofs.WordLemmas.{misfit_read}
use Rattle.gu_words.proofs.words.misfit_of.Goals as goal

pub returns-in-Some-serve-default : goal.returns-in-Some-serve-default
returns-in-Some-serve-default c within =
    let arm = c.in-Some-serve-default in
    let name : option_map (λ (p : Text × List Row). p.0) (subcommand_rows_of c.args.matches.now) ≡ Some (codes "serve") = let entered = arm.ensures.name in let same = arm.is-serve in grind (arith, common_steps, entered, same) in
    misfit_read (subcommand_rows_of c.args.matches.now) (rows_of (found_of arm.found.now)) c.misfit_in.result name (sym arm.ensures.rows) c.misfit_in.ensures within
