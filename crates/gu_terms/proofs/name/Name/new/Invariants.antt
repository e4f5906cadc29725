use Rattle.std.proofs.Common.{◌≡◌, ◌-◌, ◌++◌, length, take}
use Rattle.std.specs.Prelude.{replicate}
use Rattle.std.specs.List.{AllPass}
use Rattle.gu_terms.specs.Names.{is_name_byte}
use Rattle.gu_terms.proofs.name.Name.new.Given as goal

abbrev pub invariant-loop-place : goal.invariant-loop-place
invariant-loop-place l = record {
  put : l.text ≡ take l.place l.bytes ++ replicate (length l.bytes - l.place) 0;
  pass : AllPass is_name_byte (take l.place l.bytes);
}
