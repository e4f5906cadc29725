use Rattle.gu_script.proofs.Words.{◌≡◌, ◌≢◌, ◌∙◌, ◌+◌, ◌==◌, arith, true, false, ℕ, List, [], length, Err, sym, ap, subst, HasNoLineFeed, IsBad, Place}
use Rattle.gu_script.proofs.ReplayPieces.{end_refused, end_answered, some_bytes}
use Rattle.gu_script.proofs.ReplaySteps.{said_answered}
use Rattle.gu_script.proofs.script.Script.end.Goals as goal

pub returns-in_err-said : goal.returns-in_err-said
returns-in_err-said g c =
    let rest : c.self.inside.rest.items ≡ c.args.self.now.rest = ap (λ (p : Place). p.rest) c.self.view_is in
    let read : c.deref.result.now ≡ c.args.self.now.rest = c.deref.ensures.value ∙ rest in
    let none = subst (λ (b : List ℕ). HasNoLineFeed b) rest c.self.invariant in
    let some : c.args.self.now.rest ≢ [] = some_bytes c.args.self.now.rest (λ e.
    let empty : c.self.inside.rest.len ≡ 0 = omega (arith, c.deref.ensures.len, ap length read, e) in
    let both : true ≡ false = sym (ap (λ n. n == 0) empty) ∙ sym c.is_empty.ensures ∙ c.if-is_empty.false in
    cc) in
    record {
      answered = end_refused c.from_residual.result c.in_err-said.field-0.0 c.args.self.now c.args.self.now.course c.args.output.now.items c.from_residual.ensures.1
          (λ n is. let bad = c.in_err-said.ensures.bad n (ap Err is) in (bad.0 ∙ ap (λ (p : Place). p.count + 1) c.self.view_is, subst IsBad read bad.1)) none some;
    }

pub returns : goal.returns
returns g c =
    let rest : c.self.inside.rest.items ≡ c.args.self.now.rest = ap (λ (p : Place). p.rest) c.self.view_is in
    let read : c.deref.result.now ≡ c.args.self.now.rest = c.deref.ensures.value ∙ rest in
    let none = subst (λ (b : List ℕ). HasNoLineFeed b) rest c.self.invariant in
    let some : c.args.self.now.rest ≢ [] = some_bytes c.args.self.now.rest (λ e.
    let empty : c.self.inside.rest.len ≡ 0 = omega (arith, c.deref.ensures.len, ap length read, e) in
    let both : true ≡ false = sym (ap (λ n. n == 0) empty) ∙ sym c.is_empty.ensures ∙ c.if-is_empty.false in
    cc) in
    record {
      answered = end_answered c.args.self.now.course c.answer-answered.new.self.course c.args.self.now.rest c.args.output.now.items c.answer-answered.new.output.items none some
          (said_answered c.args.self.now.course c.answer-answered.new.self.course c.args.self.now.rest c.in_ok-said.said c.args.output.now.items c.answer-answered.new.output.items
          (rw read at c.in_ok-said.ensures.said) c.in_ok-answered.ensures.answered);
    }
