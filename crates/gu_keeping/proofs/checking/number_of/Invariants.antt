use Rattle.gu_keeping.proofs.Words.{◌≡◌, ◌<◌, ◌^◌, ℕ, take, decimal, digits_value}
use Rattle.gu_keeping.proofs.checking.number_of.Given as goal

abbrev pub invariant-loop-digit : goal.invariant-loop-digit
invariant-loop-digit l = (n : ℕ) → n < 2 ^ 64 → l.digits ≡ decimal n → l.number ≡ digits_value 10 (take l.digit-index l.digits)
