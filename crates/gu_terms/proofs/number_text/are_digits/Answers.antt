use Rattle.std.proofs.Common.{◌<◌, get_or, arith, inl, inr}
use Rattle.std.proofs.lemmas.Int.Digits.{digits_more}
use Rattle.std.proofs.lemmas.Str.Parse.{digit_at}
use Rattle.std.specs.Char.{digit_value}
use Rattle.gu_terms.proofs.number_text.are_digits.Goals as goal

pub returns-then-not-is_ascii_digit : goal.returns-then-not-is_ascii_digit
returns-then-not-is_ascii_digit c = (
  λ t. cc,
  λ all. let digit = digit_at c.args.bytes.now c.loop-byte.byte-index all c.loop-byte-test.true in
      elim c.if-not-is_ascii_digit.ensures.cases [ inl low ↦ absurd (omega (arith, digit.0)) | inr high ↦ absurd (omega (arith, digit.1)) ],
)

pub loop-byte-preserved : goal.loop-byte-preserved
loop-byte-preserved c =
    let digit : digit_value (get_or c.args.bytes.now c.loop-byte.byte-index 0) < 10 = c.if-not-is_ascii_digit.ensures.bound in
    digits_more 10 c.args.bytes.now c.loop-byte.byte-index c.loop-byte-test.true c.loop-byte.invariant digit
