use Rattle.std.proofs.Common.{◌∙◌, ap, is_some}
use Rattle.clap.specs.Words.{found_of}
use Rattle.clap.proofs.WalkLemmas.{first_value-rows}
use Rattle.gu_words.proofs.WordLemmas.{is_some-text}
use Rattle.gu_words.proofs.found.has.Goals as goal

pub returns : goal.returns
returns c = c.is_some.ensures ∙ is_some-text c.get_str.result ∙ ap (λ v. is_some v) (c.get_str.ensures ∙ first_value-rows (found_of c.args.found.now) c.args.name.now)
