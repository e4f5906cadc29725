use Rattle.std.proofs.Common.{refl, rules}
use Rattle.gu_streams.proofs.Writing.{wrote_all}
use Rattle.gu_program.proofs.Checkings.{checked_nothing, checked_part}
use Rattle.gu_program.proofs.checking.check.Goals as goal

pub returns-in_err-sheet-clause-part : goal.returns-in_err-sheet-clause-part
returns-in_err-sheet-clause-part g c = checked_nothing _ c.in_err-sheet.ensures.part refl

pub returns-in_err-line-clause-part : goal.returns-in_err-line-clause-part
returns-in_err-line-clause-part g c =
    let all = c.in_ok-sheet.ensures.sheet in
    checked_nothing _ (record { read = all.read; consumed = all.consumed }) refl

pub returns-clause-part : goal.returns-clause-part
returns-clause-part g c =
    checked_part _ c.in_ok-sheet.sheet c.deref.result.now c.verdict_on-verdict.result c.in_ok-sheet.ensures.sheet c.verdict_on-verdict.ensures.verdict c.verdict_on-verdict.ensures.greatest
    (search (rules, c.deref.ensures.value)) (wrote_all _ _ _ c.in_ok-send.ensures.ok)
