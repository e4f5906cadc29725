use Rattle.std.proofs.Common.{◌+◌, ◌-◌, ◌∙◌, length, drop, sym, arith}
use Rattle.std.proofs.lemmas.List.{take_all, length-drop}
use Rattle.gu_text.proofs.WordLemmas.{word_in_front}
use Rattle.gu_text.proofs.words.first_word.Goals as goal

pub returns-in-Some-clause-words : goal.returns-in-Some-clause-words
returns-in-Some-clause-words c =
    let text = c.without_blanks-text.result.now in
    let place = c.in-Some.place in
    let rest = take_all (length text - (place + 1)) (drop (place + 1) text) (omega (arith, length-drop (place + 1) text)) in
    rw rest (sym c.without_blanks-text.ensures.words ∙ word_in_front text place c.without_blanks-text.ensures.front (sym c.blank_place.ensures ∙ c.in-Some.is))
