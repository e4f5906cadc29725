use Rattle.std.proofs.Common.{◌≡◌, take}
use Rattle.std.specs.Str.Parse.{AllDigits, digits_value}
use Rattle.gu_text.proofs.values.digits_said.Given as goal

abbrev pub invariant-loop-place : goal.invariant-loop-place
invariant-loop-place l = record {
  all : AllDigits 10 (take l.place l.word);
  value : l.value ≡ digits_value 10 (take l.place l.word);
}
