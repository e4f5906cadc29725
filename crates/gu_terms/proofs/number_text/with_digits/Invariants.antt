use Rattle.std.proofs.Common.{◌≡◌, ◌<◌, ◌+◌, ◌-◌, ◌^◌, length, take}
use Rattle.std.specs.Str.Parse.{AllDigits, digits_value_after}
use Rattle.gu_terms.proofs.number_text.with_digits.Given as goal

abbrev pub invariant-loop-place : goal.invariant-loop-place
invariant-loop-place l = record {
  all : AllDigits 10 (take l.place l.text);
  value : l.longer ≡ digits_value_after 10 l.number (take l.place l.text);
  few : l.longer < 10 ^ (12 - length l.text + l.place);
}
