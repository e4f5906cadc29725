use Rattle.std.proofs.Common.{◌∙◌, ap, List, [], codes, map, unwrap_or, Option}
use Rattle.std.specs.Borrow.{Bor}
use Rattle.std.proofs.lemmas.Result.{IfOk-weaker}
use Rattle.clap.specs.Words.{Text, found_of}
use Rattle.clap.proofs.WalkLemmas.{raw_values-rows}
use Rattle.gu_words.proofs.found.lines_in.Goals as goal

abbrev texts_of : List (Bor Text) → List Text
texts_of = map (λ line. line.now)

abbrev or_none : Option (List Text) → List Text
or_none lines = unwrap_or lines []

pub returns-in-Some : goal.returns-in-Some
returns-in-Some c =
    IfOk-weaker c.from_slice.result _ _ (λ v is. ap texts_of is ∙ ap or_none (c.in-Some.ensures ∙ raw_values-rows (found_of c.args.found.now) (codes "LINE"))) c.from_slice.ensures.items

pub returns-in-None : goal.returns-in-None
returns-in-None c = ap texts_of c.new.ensures.items ∙ ap or_none (c.in-None.ensures ∙ raw_values-rows (found_of c.args.found.now) (codes "LINE"))
