use Rattle.std.proofs.Common.{◌≡◌, ◌≢◌, ◌∙◌, ◌+◌, ◌==◌, ◌++◌, ◌∷◌, ℕ, List, [], Err, true, false, length, sym, ap, subst, arith, rules}
use Rattle.std.proofs.lemmas.List.{nil_from_length}
use Rattle.gu_text.specs.LineFeeds.{HasNoLineFeed}
use Rattle.gu_text.specs.Reading.{IsReadTo}
use Rattle.gu_text.specs.SheetPieces.{IsReadWhole, SheetPlace}
use Rattle.gu_text.specs.Sheets.{IsRightAfter, said_in}
use Rattle.gu_text.proofs.PieceLemmas.{last_refused, some_bytes, whole_ended, whole_last}
use Rattle.gu_text.proofs.sheet_reading.SheetReading.end_last.Goals as goal

pub returns-then-is_empty-clause-read : goal.returns-then-is_empty-clause-read
returns-then-is_empty-clause-read c text read =
    let empty : c.args.self.now.rest ≡ [] = sym (ap (λ (p : SheetPlace). p.rest) c.self.view_is) ∙ nil_from_length c.self.inside.rest.items (search rules) in
    subst (IsReadWhole text c.args.self.now.so_far) (sym (ap (λ (p : SheetPlace). p.count) c.self.view_is)) (whole_ended text c.args.self.now read empty)

pub returns-in_err-take-clause-refused : goal.returns-in_err-take-clause-refused
returns-in_err-take-clause-refused c =
    let rest : c.self.inside.rest.items ≡ c.args.self.now.rest = ap (λ (p : SheetPlace). p.rest) c.self.view_is in
    let read_is : c.deref.result.now ≡ c.args.self.now.rest = c.deref.ensures.value ∙ rest in
    let none = subst (λ (b : List ℕ). HasNoLineFeed b) rest c.self.invariant.0 in
    let some : c.args.self.now.rest ≢ [] = some_bytes c.args.self.now.rest (λ e.
    let empty : c.self.inside.rest.len ≡ 0 = omega (arith, c.deref.ensures.len, ap length read_is, e) in
    let both : true ≡ false = sym (ap (λ n. n == 0) empty) ∙ sym c.is_empty.ensures ∙ c.if-is_empty.false in
    cc) in
    last_refused c.from_residual.result c.in_err-take.field-0.0 c.args.self.now c.from_residual.ensures.1 none some
    (λ n is. (
      c.in_err-take.ensures.number n (ap Err is) ∙ ap (λ (p : SheetPlace). p.count + 1) c.self.view_is,
      λ before read. subst (λ (t : List ℕ). ¬ IsRightAfter (said_in before) t) read_is
          (c.in_err-take.ensures.bad n (ap Err is) before (subst (λ (p : SheetPlace). IsReadTo before p.so_far) (sym c.self.view_is) read)),
    ))

pub returns-clause-read : goal.returns-clause-read
returns-clause-read c text read =
    let rest : c.self.inside.rest.items ≡ c.args.self.now.rest = ap (λ (p : SheetPlace). p.rest) c.self.view_is in
    let read_is : c.deref.result.now ≡ c.args.self.now.rest = c.deref.ensures.value ∙ rest in
    let none = subst (λ (b : List ℕ). HasNoLineFeed b) rest c.self.invariant.0 in
    let some : c.args.self.now.rest ≢ [] = some_bytes c.args.self.now.rest (λ e.
    let empty : c.self.inside.rest.len ≡ 0 = omega (arith, c.deref.ensures.len, ap length read_is, e) in
    let both : true ≡ false = sym (ap (λ n. n == 0) empty) ∙ sym c.is_empty.ensures ∙ c.if-is_empty.false in
    cc) in
    subst (λ (n : ℕ). IsReadWhole text c.take.new.self (n + 1)) (sym (ap (λ (p : SheetPlace). p.count) c.self.view_is))
    (whole_last text c.args.self.now c.take.new.self read none some
    (λ before was. subst (λ (t : List ℕ). IsReadTo (before ++ t ∷ []) c.take.new.self) read_is
    (c.in_ok-take.ensures.read before (subst (λ (p : SheetPlace). IsReadTo before p.so_far) (sym c.self.view_is) was))))
