use Rattle.std.proofs.Common.{◌≡◌, ◌+◌, ◌≤◌, ◌++◌, ◌∙◌, ℕ, List, ap, arith, length, take}
use Rattle.std.specs.Prelude.{min}
use Rattle.std.proofs.lemmas.List.{length-take}
use Rattle.gu_console.proofs.ShownLemmas.{kept_more, ok_then}
use Rattle.gu_console.proofs.line_buffer.LineBuffer.keep.Goals as goal

pub returns-clause-kept : goal.returns-clause-kept
returns-clause-kept c =
    let old = c.self.inside.kept.items in
    let part = c.args.part.now in
    let room = c.remaining_capacity.result in
    let size : room + length old ≡ 1026 = c.remaining_capacity.ensures in
    let count : c.min-count.result ≡ min room (length part) = c.min-count.ensures in
    let fits : length old + length (take c.min-count.result part) ≤ 1026 = omega (arith, length-take c.min-count.result part, size, count) in
    let kept : c.try_extend_from_slice.new.self.items ≡ old ++ take (min room (length part)) part =
    ok_then c.try_extend_from_slice.result (c.try_extend_from_slice.ensures.variant.1 fits) c.try_extend_from_slice.ensures.ok ∙ ap (λ (n : ℕ). old ++ take n part) count in
    kept_more old part c.try_extend_from_slice.new.self.items room size kept ∙ ap (λ (l : List ℕ). take 1026 (l ++ part)) c.self.view_is
