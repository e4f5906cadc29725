use Rattle.std.proofs.Common.{◌∙◌, ap, codes, Option, Some, Bool}
use Rattle.std.specs.Option.{option_map}
use Rattle.clap.specs.Words.{Text, found_of, rows_of}
use Rattle.clap.proofs.WalkLemmas.{first_value-rows}
use Rattle.gu_words.specs.ProgramWords.{Keeping, is_set}
use Rattle.gu_words.proofs.found.journal_in.Goals as goal

abbrev kept_at : Bool → Bool → Option Text → Option Keeping
kept_at resumes stands_by = option_map (λ (path : Text). record { path = path; resumes = resumes; stands_by = stands_by })

pub returns-in-Some : goal.returns-in-Some
returns-in-Some c =
    let rows = rows_of (found_of c.args.found.now) in
    ap (λ (resumes : Bool). kept_at resumes c.stands_by.result (Some c.in-Some.path.now)) c.is_set.ensures
    ∙ ap (λ (stands_by : Bool). kept_at (is_set rows (codes "resume")) stands_by (Some c.in-Some.path.now)) c.stands_by.ensures
    ∙ ap (kept_at (is_set rows (codes "resume")) (is_set rows (codes "standby"))) (c.in-Some.ensures ∙ first_value-rows (found_of c.args.found.now) (codes "journal"))

pub returns-in-None : goal.returns-in-None
returns-in-None c =
    let rows = rows_of (found_of c.args.found.now) in
    ap (kept_at (is_set rows (codes "resume")) (is_set rows (codes "standby"))) (c.in-None.ensures ∙ first_value-rows (found_of c.args.found.now) (codes "journal"))
