use Rattle.std.proofs.Common.{◌≡◌, ◌∙◌, ◌<◌, ◌+◌, ◌++◌, ◌∷◌, [], ℕ, List, Err, length, length-append, sym, ap, subst, arith, rules}
use Rattle.std.specs.Str.Lines.{strip_carriage_return}
use Rattle.gu_text.specs.Lines.{longest_line}
use Rattle.gu_text.specs.Reading.{IsReadTo}
use Rattle.gu_text.specs.SheetPieces.{SheetPlace}
use Rattle.gu_text.specs.Sheets.{IsRightAfter, said_in}
use Rattle.gu_text.specs.declared.error.TextError.TheVariants.{BadLine}
use Rattle.gu_text.proofs.LineFeedLaws.{length-stripped}
use Rattle.gu_text.proofs.PieceLemmas.{long_is_wrong}
use Rattle.gu_text.proofs.SheetLemmas.{passed}
use Rattle.gu_text.proofs.sheet_reading.SheetReading.end_line.Goals as goal

pub returns-then-goes_past_a_line-clause-bad : goal.returns-then-goes_past_a_line-clause-bad
returns-then-goes_past_a_line-clause-bad c n is before read =
    let rest : c.deref.result.now ≡ c.args.self.now.rest = c.deref.ensures.value ∙ ap (λ (p : SheetPlace). p.rest) c.self.view_is in
    let past : longest_line + 1 < length c.deref.result.now + length c.args.part.now = c.goes_past_a_line.ensures.0 (search rules) in
    let long : longest_line < length (strip_carriage_return (c.args.self.now.rest ++ c.args.part.now)) =
    omega (arith, past, ap length rest, length-append c.args.self.now.rest c.args.part.now, length-stripped (c.args.self.now.rest ++ c.args.part.now)) in
    long_is_wrong (said_in before) (strip_carriage_return (c.args.self.now.rest ++ c.args.part.now)) long

pub returns-in_err-take-clause-bad : goal.returns-in_err-take-clause-bad
returns-in_err-take-clause-bad c n is before read =
    let line : c.without_return-line.result.now ≡ strip_carriage_return (c.args.self.now.rest ++ c.args.part.now) =
    c.without_return-line.ensures ∙ ap strip_carriage_return (c.deref-2.ensures.value ∙ c.in_ok-extend_from_slice.ensures.items ∙ ap (λ (p : SheetPlace). p.rest ++ c.args.part.now) c.self.view_is) in
    let error = passed c.from_residual-in_err-take.result c.in_err-take.field-0.0 (BadLine n) c.from_residual-in_err-take.ensures.1 is in
    subst (λ (t : List ℕ). ¬ IsRightAfter (said_in before) t) line
    (c.in_err-take.ensures.bad n (ap Err error) before (subst (λ (p : SheetPlace). IsReadTo before p.so_far) (sym c.self.view_is) read))

pub returns-clause-read : goal.returns-clause-read
returns-clause-read c before read =
    let line : c.without_return-line.result.now ≡ strip_carriage_return (c.args.self.now.rest ++ c.args.part.now) =
    c.without_return-line.ensures ∙ ap strip_carriage_return (c.deref-2.ensures.value ∙ c.in_ok-extend_from_slice.ensures.items ∙ ap (λ (p : SheetPlace). p.rest ++ c.args.part.now) c.self.view_is) in
    subst (λ (t : List ℕ). IsReadTo (before ++ t ∷ []) c.take.new.self) line
    (c.in_ok-take.ensures.read before (subst (λ (p : SheetPlace). IsReadTo before p.so_far) (sym c.self.view_is) read))
