use Rattle.std.proofs.Common.{◌∙◌, sym, ap, subst, ◌<◌, ◌-◌, ◌%◌, length, arith}
use Rattle.std.proofs.lemmas.List.{length-set}
use Rattle.std.specs.Int.{IsPowerOfTwo}
use Rattle.gu_trades.specs.Numbered.{Numbered}
use Rattle.gu_trades.proofs.Rows.{places-push}
use Rattle.gu_trades.proofs.hash_index.HashIndex.push.Goals as goal

pub push_reserved-requires : goal.push_reserved-requires
push_reserved-requires c =
    let room : 0 < length c.self.inside.last.items - length c.self.inside.links.items = subst (λ (n : Numbered). 0 < n.spare) (sym c.self.view_is) c.requires in
    omega (arith, c.self.invariant.room, c.self.inside.links.ok.0)

pub invariant_of-self : goal.invariant_of-self
invariant_of-self c =
    let links = c.self.inside.links.items in
    let last = c.self.inside.last.items in
    let room : 0 < length last - length links = subst (λ (n : Numbered). 0 < n.spare) (sym c.self.view_is) c.requires in
    let fits : length links < length last = omega arith in
    let count = c.self.inside.links.ok.0 in
    let full = c.self.invariant.room in
    let all = places-push links c.push_reserved.new.self.items last c.args.number c.row_of-row.result c.len-2.result c.index-before.result.now c.self.invariant.few c.self.invariant.linked c.self.invariant.ends fits
    (c.row_of-row.ensures ∙ ap (λ rows. c.args.number % rows) (c.len.ensures ∙ c.self.inside.last.ok.0)) c.index-before.ensures c.push_reserved.ensures.items (c.len-2.ensures ∙ c.push_reserved.new.self.ok.0) in
    let long = length-set last c.row_of-row.result c.len-2.result in
    record { few = all.0; power = λ some. subst IsPowerOfTwo (sym long) (c.self.invariant.power (omega arith)); within = all.1; room = omega (arith, long, c.push_reserved.ensures.capacity); linked = all.2; ends = all.3 }
