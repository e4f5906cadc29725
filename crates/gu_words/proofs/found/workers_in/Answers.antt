use Rattle.std.proofs.Common.{◌≡◌, ◌∙◌, ap, sym, subst, codes, IfSome, Option, Some}
use Rattle.std.specs.Option.{option_map}
use Rattle.clap.specs.Words.{IsUnsignedIn, Text, first_of, found_of, rows_of}
use Rattle.clap.proofs.WalkLemmas.{first_value-rows}
use Rattle.gu_words.specs.ProgramWords.{number_of}
use Rattle.gu_words.proofs.found.workers_in.Goals as goal

pub returns-in-Some-clause-number : goal.returns-in-Some-clause-number
returns-in-Some-clause-number c within =
    let is : Some c.in-Some.word.now ≡ first_of (codes "W") (rows_of (found_of c.args.found.now)) = c.in-Some.ensures ∙ first_value-rows (found_of c.args.found.now) (codes "W") in
    let word_within : IsUnsignedIn 1 60 c.in-Some.word.now = subst (λ (v : Option Text). IfSome v (IsUnsignedIn 1 60)) (sym is) within in
    ap Some (c.number.ensures.number word_within) ∙ ap (λ (v : Option Text). option_map number_of v) is

pub returns-in-None-clause-number : goal.returns-in-None-clause-number
returns-in-None-clause-number c within = ap (λ (v : Option Text). option_map number_of v) (c.in-None.ensures ∙ first_value-rows (found_of c.args.found.now) (codes "W"))
