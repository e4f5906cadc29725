use Rattle.gu_script.proofs.OneSheet.{one_sheet}
use Rattle.gu_script.proofs.laws.a_sheet_follows_from_its_view.Goals as goal

pub returns : goal.returns
returns c = one_sheet
