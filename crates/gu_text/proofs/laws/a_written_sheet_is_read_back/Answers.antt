use Rattle.gu_text.proofs.SheetAgain.{written_sheet}
use Rattle.gu_text.proofs.Writable.{right_writable}
use Rattle.gu_text.proofs.WrittenTakes.{right_again, same_key, same_lots, same_number}
use Rattle.gu_text.proofs.laws.a_written_sheet_is_read_back.Goals as goal

pub returns : goal.returns
returns c = record { sheet = written_sheet; lots = same_lots; keys = same_key; numbers = same_number; right = right_again; writable = right_writable }
