use Rattle.gu_keeping.proofs.Words.{◌≡◌, ◌+◌, ◌∙◌, ℕ, List, get_or, sym, ap, subst, arith, AllDigits, digits_value, digits_decimal, digits_value-decimal, take_all}
use Rattle.std.proofs.lemmas.Int.Digits.{digits_value_more}
use Rattle.std.proofs.lemmas.Str.{digit_value_digit}
use Rattle.std.proofs.lemmas.Str.Parse.{digit_at, digits_value-take-le}
use Rattle.gu_keeping.proofs.RowWords.{own}
use Rattle.gu_keeping.proofs.checking.number_of.Goals as goal

pub loop-digit-preserved : goal.loop-digit-preserved
loop-digit-preserved c = λ n small is.
    let digits = c.args.digits.now in
    let i = c.loop-digit.digit-index in
    let all : AllDigits 10 digits = subst (λ (ds : List ℕ). AllDigits 10 ds) (sym is) (digits_decimal own n small) in
    let digit = digit_at digits i all c.loop-digit-test.true in
    let off = digit_value_digit (get_or digits i 0) digit in
    let next = digits_value_more 10 digits i c.loop-digit-test.true in
    let below = digits_value-take-le 10 digits (i + 1) (omega arith) in
    let whole : digits_value 10 digits ≡ n = ap (λ (ds : List ℕ). digits_value 10 ds) is ∙ digits_value-decimal own n small in
    omega (
      arith,
      next,
      off,
      digit.0,
      digit.1,
      below,
      whole,
      small,
      c.loop-digit.invariant n small is,
      c.saturating_sub.ensures,
      c.from.ensures,
      c.saturating_mul.ensures,
      c.saturating_add-number.ensures,
    )

pub returns : goal.returns
returns c = λ n small is.
    let digits = c.args.digits.now in
    c.loop-digit.invariant n small is
    ∙ ap (λ (ds : List ℕ). digits_value 10 ds) (take_all c.loop-digit.digit-index digits c.loop-digit-test.false ∙ is)
    ∙ digits_value-decimal own n small
