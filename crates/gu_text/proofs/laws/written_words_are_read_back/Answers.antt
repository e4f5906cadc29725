use Rattle.gu_text.proofs.ReadBackLemmas.{has_lines, read_back}
use Rattle.gu_text.proofs.laws.written_words_are_read_back.Goals as goal

pub returns-clause-words : goal.returns-clause-words
returns-clause-words c = λ words are. read_back words are

pub returns-clause-lines : goal.returns-clause-lines
returns-clause-lines c = λ rows each. has_lines rows each
