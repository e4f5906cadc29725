use Rattle.std.proofs.Common.{◌≡◌, ◌≤◌, ◌<◌, take}
use Rattle.std.specs.Str.Parse.{AllDigits, digits_value}
use Rattle.gu_fix.proofs.prefix.read_length.Given as goal

abbrev pub invariant-loop-count : goal.invariant-loop-count
invariant-loop-count l = record {
  few : l.count ≤ 7;
  all : AllDigits 10 (take l.count l.bytes);
  value : l.value ≡ digits_value 10 (take l.count l.bytes);
  small : l.value < 10000000;
}
