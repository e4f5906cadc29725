use Rattle.std.proofs.Common.{◌∙◌, ap, [], unwrap_or, Option}
use Rattle.clap.specs.Words.{Text, found_of}
use Rattle.clap.proofs.WalkLemmas.{first_value-rows}
use Rattle.gu_words.proofs.WordLemmas.{unwrap_or-text}
use Rattle.gu_words.proofs.found.word.Goals as goal

pub returns : goal.returns
returns c =
    ap (λ w. w.now) c.unwrap_or.ensures ∙ unwrap_or-text c.get_str.result _
    ∙ ap (λ (v : Option Text). unwrap_or v []) (c.get_str.ensures ∙ first_value-rows (found_of c.args.found.now) c.args.name.now)
