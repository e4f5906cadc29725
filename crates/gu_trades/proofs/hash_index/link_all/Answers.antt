use Rattle.std.proofs.Common.{◌∙◌, ◌<◌, ◌≤◌, subst, length, arith}
use Rattle.std.proofs.lemmas.List.{length-set, take_all}
use Rattle.gu_trades.specs.HashIndex.{IsLinked}
use Rattle.gu_trades.specs.declared.hash_index.Link.{Link}
use Rattle.gu_trades.proofs.Rows.{numbers-again, place-again}
use Rattle.gu_trades.proofs.hash_index.link_all.Goals as goal

pub loop-place-preserved : goal.loop-place-preserved
loop-place-preserved c =
    let d : Link = record { number = 0; before = 0 } in
    let kept = c.loop-place.invariant in
    let few : length c.loop-place.last ≤ 2147483648 = omega arith in
    let room : length c.loop-place.links < length c.loop-place.last = omega arith in
    let inside : c.loop-place.place < length c.loop-place.links = omega arith in
    let own_row = c.row_of-row.ensures in
    let again = place-again c.loop-place.links c.loop-place.last c.loop-place.place c.row_of-row.result d few room inside kept.linked kept.ends own_row in
    record {
      numbers = numbers-again c.loop-place.links c.loop-place.last c.loop-place.place c.row_of-row.result d few room inside kept.linked kept.ends own_row ∙ kept.numbers;
      rows = length-set c.loop-place.last _ _ ∙ kept.rows;
      linked = again.0;
      ends = again.1;
    }

pub returns-clause-linked : goal.returns-clause-linked
returns-clause-linked c =
    subst (λ links. IsLinked links (length c.loop-place.last)) (take_all c.loop-place.place c.loop-place.links (omega arith)) c.loop-place.invariant.linked
