use Rattle.gu_text.proofs.SheetBack.{read_as_written}
use Rattle.gu_text.proofs.laws.a_written_sheet_says_what_it_is.Goals as goal

pub returns : goal.returns
returns c = λ view takes cut writable. read_as_written view takes cut writable
