use Rattle.std.proofs.Common.{◌∙◌, sym, codes}
use Rattle.clap.specs.Words.{found_of, rows_of}
use Rattle.clap.proofs.WalkLemmas.{first_value-rows}
use Rattle.gu_words.specs.ProgramWords.{text_of}
use Rattle.gu_words.proofs.WordLemmas.{counts, few_connections, numbered}
use Rattle.gu_words.proofs.found.span_in.Goals as goal

pub returns-else-is_set : goal.returns-else-is_set
returns-else-is_set c within fits =
    let found = found_of c.args.found.now in
    let counted = sym c.is_set.ensures ∙ c.if-is_set.false in
    counts (rows_of found) c.number-else-is_set.result (text_of c.get_str.result) counted
    (numbered (rows_of found) c.number-else-is_set.result 1 32 (codes "N") c.word-else-is_set.result.now c.number-else-is_set.ensures.number c.word-else-is_set.ensures
    (few_connections (rows_of found) counted fits within.connections))
    (c.get_str.ensures ∙ first_value-rows found (codes "console"))
