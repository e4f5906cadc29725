use Rattle.gu_script.proofs.Words.{◌≡◌, ◌∙◌, ◌+◌, ◌++◌, ℕ, List, sym, ap, subst, rules, IsTooLong, Place}
use Rattle.gu_text.specs.declared.error.TextError.TheVariants as text_error
use Rattle.gu_script.proofs.script.Script.keep.Goals as goal

number_of : {m n : ℕ} → text_error.BadLine m ≡ text_error.BadLine n → m ≡ n
number_of h = cc

pub returns-then-is_too_long-clause-bad : goal.returns-then-is_too_long-clause-bad
returns-then-is_too_long-clause-bad c n is =
    let bytes : c.deref.result.now ≡ c.args.self.now.rest ++ c.args.bytes.now =
    c.deref.ensures.value ∙ c.in_ok-extend_from_slice.ensures.items ∙ ap (λ (p : Place). p.rest ++ c.args.bytes.now) c.self.view_is in
    let count : c.self.inside.count + 1 ≡ c.args.self.now.count + 1 = ap (λ (p : Place). p.count + 1) c.self.view_is in
    let number : c.self.inside.count + 1 ≡ n = search (rules, is) in
    (sym number ∙ count, subst (λ (b : List ℕ). IsTooLong b) bytes (c.is_too_long.ensures.long (search (rules, c.if-is_too_long.true))))
