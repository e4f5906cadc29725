use Rattle.std.proofs.Common.{◌≡◌, ◌≤◌, take}
use Rattle.std.specs.Str.Parse.{AllDigits, digits_value}
use Rattle.gu_fix.proofs.splitting.number_in_front.Given as goal

abbrev pub invariant-loop-count : goal.invariant-loop-count
invariant-loop-count l = record {
  all : AllDigits 10 (take l.count l.part);
  value : l.number ≡ digits_value 10 (take l.count l.part);
  short : l.count ≤ 9;
}
