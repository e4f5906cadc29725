use Rattle.std.proofs.Common.{◌∙◌, codes}
use Rattle.clap.specs.Words.{found_of}
use Rattle.clap.proofs.WalkLemmas.{first_value-rows}
use Rattle.gu_words.specs.Misfits.{is_one_path}
use Rattle.gu_words.proofs.found.has_one_path.Goals as goal

pub returns-in-Some-Some : goal.returns-in-Some-Some
returns-in-Some-Some c =
    let console = c.in-Some-Some.ensures ∙ first_value-rows (found_of c.args.found.now) (codes "console") in
    let watch = c.in-Some-Some.ensures' ∙ first_value-rows (found_of c.args.found.now) (codes "watch") in
    c.eq.ensures ∙ (λ i. is_one_path (console i) (watch i))

pub returns-in_default : goal.returns-in_default
returns-in_default c =
    let console = c.in_default.ensures ∙ first_value-rows (found_of c.args.found.now) (codes "console") in
    let watch = c.in_default.ensures' ∙ first_value-rows (found_of c.args.found.now) (codes "watch") in
    λ i. is_one_path (console i) (watch i)

pub returns-in_default-2 : goal.returns-in_default-2
returns-in_default-2 c =
    let console = c.in_default.ensures ∙ first_value-rows (found_of c.args.found.now) (codes "console") in
    let watch = c.get_str-2.ensures ∙ first_value-rows (found_of c.args.found.now) (codes "watch") in
    λ i. is_one_path (console i) (watch i)
