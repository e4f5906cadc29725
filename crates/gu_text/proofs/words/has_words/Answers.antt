use Rattle.gu_text.proofs.WordLemmas.{has_words}
use Rattle.gu_text.proofs.words.has_words.Goals as goal

pub returns : goal.returns
returns c =
    let rest = c.without_blanks.result.now in
    rw (← c.without_blanks.ensures.words) (has_words rest c.is_empty.result c.without_blanks.ensures.front c.is_empty.ensures)
