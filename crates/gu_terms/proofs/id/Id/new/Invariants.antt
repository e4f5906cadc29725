use Rattle.std.proofs.Common.{◌≡◌, ◌-◌, ◌++◌, length, take}
use Rattle.std.specs.Prelude.{replicate}
use Rattle.std.specs.List.{AllPass}
use Rattle.gu_terms.specs.Names.{is_id_byte}
use Rattle.gu_terms.proofs.id.Id.new.Given as goal

abbrev pub invariant-loop-place : goal.invariant-loop-place
invariant-loop-place l = record {
  put : l.text ≡ take l.place l.bytes ++ replicate (length l.bytes - l.place) 0;
  pass : AllPass is_id_byte (take l.place l.bytes);
}
