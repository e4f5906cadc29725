use Rattle.std.proofs.Common.{◌≡◌, ◌++◌, ◌∷◌, [], rules}
use Rattle.gu_text.specs.Words.{words_of}
use Rattle.gu_text.proofs.FormLemmas.{lines_made, lines_whole, none_left, read_on}
use Rattle.gu_text.proofs.script_forms.lines_said.Goals as goal

pub pairs-preserved : goal.pairs-preserved
pairs-preserved c =
    let grown : c.push.new.self.items ≡ c.pairs.lines.items ++ c.in-Some.line ∷ [] = search rules in
    rw grown (read_on (words_of c.args.words.now) c.pairs.lines.items (words_of c.pairs.rest.now) (words_of c.in-Some.behind.now) c.in-Some.line c.pairs.invariant c.in-Some.ensures.line)

pub returns : goal.returns
returns c =
    let none : words_of c.pairs.rest.now ≡ [] = none_left c.has_words.result (words_of c.pairs.rest.now) c.has_words.ensures (search rules) in
    lines_whole (words_of c.args.words.now) c.pairs.lines.items (words_of c.pairs.rest.now) c.pairs.invariant none c.new.result
    (lines_made c.pairs.lines.items c.new.result c.new.ensures.sound c.new.ensures.same)
