use Rattle.std.proofs.Common.{◌≡◌, ◌++◌, List, ℕ, take}
use Rattle.std.specs.List.{flat_map}
use Rattle.gu_fix.proofs.body_text.extend_by_each.Given as goal

abbrev pub invariant-loop-part : goal.invariant-loop-part
invariant-loop-part l = record {
  so_far : l.bytes.items ≡ l.fn.bytes.items ++ flat_map (λ part. part.now) (take l.part-index l.parts);
  front : (text : List ℕ) × (l.bytes.items ≡ l.fn.bytes.items ++ text);
}
