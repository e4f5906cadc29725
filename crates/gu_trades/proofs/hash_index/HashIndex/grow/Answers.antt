use Rattle.std.proofs.Common.{rules, ◌≡◌, ◌∙◌, sym, ap, subst, max, ◌*◌, ◌≤◌, length, arith}
use Rattle.std.proofs.lemmas.List.{length-map, with_items_is}
use Rattle.std.specs.Int.{IsPowerOfTwo}
use Rattle.std.specs.Prelude.{vec_capacity}
use Rattle.gu_trades.specs.declared.hash_index.Link.{Link}
use Rattle.gu_trades.proofs.RowCounts.{twice_rows}
use Rattle.gu_trades.proofs.hash_index.HashIndex.grow.Goals as goal

pub link_all-requires-clause-power : goal.link_all-requires-clause-power
link_all-requires-clause-power c = subst IsPowerOfTwo (search rules) (twice_rows (length c.self.inside.last.items) c.self.invariant.power)

pub invariant_of-self-2 : goal.invariant_of-self-2
invariant_of-self-2 c =
    let rows : length c.link_all.new.last ≡ max (2 * length c.self.inside.last.items) 16 = search rules in
    let links : length c.link_all.new.links ≡ length c.self.inside.links.items =
    sym (length-map c.link_all.new.links (λ (link : Link). link.number)) ∙ ap length c.link_all.ensures.numbers ∙ length-map _ _ ∙ search rules in
    let all_links = with_items_is c.reserve.new.self c.link_all.new.links (search rules) in
    let all_last = with_items_is c.resize.new.self c.link_all.new.last (search rules) in
    let room : length c.link_all.new.last ≤ vec_capacity c.reserve.new.self = search rules in
    record {
      few = rw all_last (omega arith);
      power = λ some. subst IsPowerOfTwo (sym (ap length all_last ∙ rows)) (twice_rows (length c.self.inside.last.items) c.self.invariant.power);
      within = rw (all_links, all_last) (omega (arith, rows, links, c.self.invariant.within));
      room = rw all_last room;
      linked = rw (all_links, all_last) c.link_all.ensures.linked;
      ends = rw (all_links, all_last) c.link_all.ensures.ends;
    }
