use Rattle.std.proofs.Common.{◌∙◌, codes}
use Rattle.clap.specs.Words.{found_of, rows_of}
use Rattle.clap.proofs.WalkLemmas.{first_value-rows}
use Rattle.gu_words.proofs.WordLemmas.{asks_to_serve, numbered}
use Rattle.gu_words.proofs.found.serving_in.Goals as goal

pub returns : goal.returns
returns c within fits =
    let found = found_of c.args.found.now in
    asks_to_serve (rows_of found) c.word.result.now c.port_in.result _ _ c.number.result _ _ _ _ _ c.number-2.result c.word.ensures
    (c.port_in.ensures.number fits)
    (c.get_str.ensures ∙ first_value-rows found (codes "script"))
    (c.span_in.ensures within fits)
    (numbered (rows_of found) c.number.result 0 1000 (codes "K") c.word-2.result.now c.number.ensures.number c.word-2.ensures within.every)
    c.journal_in.ensures
    (c.get_str-2.ensures ∙ first_value-rows found (codes "watch"))
    (c.get_str-3.ensures ∙ first_value-rows found (codes "doors"))
    (c.get_str-4.ensures ∙ first_value-rows found (codes "secrets"))
    c.is_set.ensures
    (numbered (rows_of found) c.number-2.result 1 100 (codes "PERCENT") c.word-3.result.now c.number-2.ensures.number c.word-3.ensures within.share)
