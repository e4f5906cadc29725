use Rattle.std.proofs.Common.{sym, subst}
use Rattle.gu_text.specs.SheetPieces.{IsReadWhole}
use Rattle.gu_text.specs.declared.sheet_so_far.SheetSoFar.{SheetSoFar}
use Rattle.gu_text.proofs.PieceLemmas.{given_error, given_sheet}
use Rattle.gu_text.proofs.sheet_reading.SheetReading.end.Goals as goal

pub returns-clause-sheet : goal.returns-clause-sheet
returns-clause-sheet c =
    given_sheet c.into_sheet.result c.args.self c.into_so_far.result c.in_ok-count.count
    (λ text read. subst (λ (s : SheetSoFar). IsReadWhole text s c.in_ok-count.count) (sym c.into_so_far.ensures) (c.in_ok-count.ensures.read text read))
    c.into_sheet.ensures.sheet

pub returns-clause-refused : goal.returns-clause-refused
returns-clause-refused c =
    given_error c.into_sheet.result c.args.self c.into_so_far.result c.in_ok-count.count
    (λ text read. subst (λ (s : SheetSoFar). IsReadWhole text s c.in_ok-count.count) (sym c.into_so_far.ensures) (c.in_ok-count.ensures.read text read))
    c.into_sheet.ensures.missing
