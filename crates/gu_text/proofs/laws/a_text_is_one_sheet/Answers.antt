use Rattle.gu_text.proofs.SheetAgain.{not_refused, one_sheet}
use Rattle.gu_text.proofs.laws.a_text_is_one_sheet.Goals as goal

pub returns : goal.returns
returns c = record { one = one_sheet; accepted = not_refused }
