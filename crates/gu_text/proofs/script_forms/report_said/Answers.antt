use Rattle.std.proofs.Common.{refl}
use Rattle.gu_text.specs.Words.{words_of}
use Rattle.gu_text.proofs.FormLemmas.{report_found, report_missed}
use Rattle.gu_text.proofs.script_forms.report_said.Goals as goal

pub returns-in-None-lots_of : goal.returns-in-None-lots_of
returns-in-None-lots_of c =
    let f = c.in-Some.value in
    let s = c.in-Some-first_three_words.value in
    ((refl, report_missed (words_of c.args.words.now) (words_of f.3.now) (words_of s.3.now) f.0.now f.1.now f.2.now s.0.now s.1.now s.2.now c.in-Some.ensures c.in-Some-first_three_words.ensures c.in-None-lots_of.ensures), refl)

pub returns : goal.returns
returns c =
    let f = c.in-Some.value in
    let s = c.in-Some-first_three_words.value in
    let p = c.in-Some-two_words.value in
    report_found (words_of c.args.words.now) (words_of f.3.now) (words_of s.3.now) f.0.now f.1.now f.2.now s.0.now s.1.now s.2.now p.0.now p.1.now
    (record { name = c.in-Some-name_of.value }) c.in-Some-new.value c.in-Some-new-2.value c.in-Some-side_of.value (record { name = c.in-Some-name_of-2.value }) c.in-Some-lots_of.value c.in-Some-price_of.value
    (record { name = c.in-Some-name_of-3.value })
    c.in-Some.ensures c.in-Some-first_three_words.ensures c.in-Some-two_words.ensures c.in-Some-name_of.ensures (c.in-Some-new.ensures.sound.0 refl) c.in-Some-new.ensures.same
    (c.in-Some-new-2.ensures.sound.0 refl) c.in-Some-new-2.ensures.same c.in-Some-side_of.ensures c.in-Some-name_of-2.ensures c.in-Some-lots_of.ensures c.in-Some-price_of.ensures c.in-Some-name_of-3.ensures
