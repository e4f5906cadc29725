use Rattle.std.proofs.Common.{◌∷◌, ◌∙◌, ℕ, List, ap}
use Rattle.gu_text.specs.Words.{words_of}
use Rattle.gu_text.proofs.FormLemmas.{limit_found}
use Rattle.gu_text.proofs.script_forms.limit_said.Goals as goal

pub returns : goal.returns
returns c =
    let g = c.in-Some.value in
    limit_found (words_of c.args.words.now) (record { name = c.in-Some-name_of.value }) g.0.now g.1.now g.2.now c.in-Some-only_word.value.now c.in-Some-key_said.value c.in-Some-number_of.value
    (c.in-Some.ensures ∙ ap (λ (ws : List (List ℕ)). g.0.now ∷ g.1.now ∷ g.2.now ∷ ws) c.in-Some-only_word.ensures)
    c.in-Some-name_of.ensures c.in-Some-key_said.ensures c.in-Some-number_of.ensures
