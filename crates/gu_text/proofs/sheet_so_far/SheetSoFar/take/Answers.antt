use Rattle.std.proofs.Common.{◌≡◌, ◌∙◌, ◌++◌, ◌∷◌, [], Err, true, false, refl, sym, ap, subst, rules}
use Rattle.gu_text.specs.Reading.{is_ended, IsReadTo}
use Rattle.gu_text.specs.declared.error.TextError.TheVariants.{BadLine}
use Rattle.gu_text.proofs.SheetLemmas.{none_made, on_ok_then, open_more, passed, sheet_made, silent_more, wrong_end}
use Rattle.gu_text.proofs.sheet_so_far.SheetSoFar.take.Goals as goal

pub returns-in_err-take_open-in-Open-clause-bad : goal.returns-in_err-take_open-in-Open-clause-bad
returns-in_err-take_open-in-Open-clause-bad c n is before read =
    let error = passed c.from_residual.result c.in_err-take_open-in-Open.field-0.0 (BadLine n) c.from_residual.ensures.1 is in
    c.in_err-take_open-in-Open.ensures.bad n (ap Err error) before (subst (IsReadTo before) c.in-Open.is read)

pub returns-then-not-branch-clause-read : goal.returns-then-not-branch-clause-read
returns-then-not-branch-clause-read c before read =
    let goes_on : is_ended c.take_open.new.parts ≡ false = sym c.in_ok-take_open-in-Open.ensures.ended ∙ search rules in
    open_more before c.in-Open.parts (subst (IsReadTo before) c.in-Open.is read) c.args.line.now c.take_open.new.parts c.in_ok-take_open-in-Open.ensures.fits c.in_ok-take_open-in-Open.ensures.parts goes_on

pub returns-in-Ended-clause-read : goal.returns-in-Ended-clause-read
returns-in-Ended-clause-read c =
    on_ok_then c.take_ended.result
    (λ silent before read. subst (IsReadTo (before ++ c.args.line.now ∷ [])) (sym c.in-Ended.is)
    (silent_more before c.in-Ended.field-0 (subst (IsReadTo before) c.in-Ended.is read) c.args.line.now silent))
    c.take_ended.ensures.silent

pub returns-clause-read : goal.returns-clause-read
returns-clause-read c =
    let ended : is_ended c.take_open.new.parts ≡ true = sym c.in_ok-take_open-in-Open.ensures.ended ∙ search rules in
    on_ok_then c.close.result
    (λ made before read.
    let sheet = made c.take_open.new.parts refl in
    subst (IsReadTo (before ++ c.args.line.now ∷ [])) (sym sheet.1)
    (sheet_made before c.in-Open.parts (subst (IsReadTo before) c.in-Open.is read) c.args.line.now c.take_open.new.parts c.in_ok-take_open-in-Open.ensures.fits c.in_ok-take_open-in-Open.ensures.parts
    ended sheet.0 sheet.2))
    c.close.ensures.made

pub returns-clause-number : goal.returns-clause-number
returns-clause-number c n is = (none_made c.close.result _ _ n c.close.ensures.refused is).0

pub returns-clause-bad : goal.returns-clause-bad
returns-clause-bad c n is before read =
    let ended : is_ended c.take_open.new.parts ≡ true = sym c.in_ok-take_open-in-Open.ensures.ended ∙ search rules in
    wrong_end before c.in-Open.parts (subst (IsReadTo before) c.in-Open.is read) c.args.line.now c.take_open.new.parts c.in_ok-take_open-in-Open.ensures.fits c.in_ok-take_open-in-Open.ensures.parts ended
    (none_made c.close.result _ _ n c.close.ensures.refused is).1
