use Rattle.gu_offers.proofs.Words.{◌≡◌, ◌∙◌, sym, ap, ◌+◌, ◌++◌, ◌∷◌, [], append_assoc, add-one, arith, range_with_len}
use Rattle.gu_offers.proofs.NumberLists.{range_with_len-suc}
use Rattle.gu_offers.proofs.groups.append_to.Goals as goal

pub loop-i-preserved : goal.loop-i-preserved
loop-i-preserved c =
    let more : range_with_len c.args.first (c.loop-i.i + 1) ≡ range_with_len c.args.first c.loop-i.i ++ (c.args.first + c.loop-i.i) ∷ [] =
    ap (range_with_len c.args.first) (add-one c.loop-i.i) ∙ range_with_len-suc c.args.first c.loop-i.i in
    record {
      appended = c.push_reserved.ensures.items ∙ ap (λ l. l ++ (c.args.first + c.loop-i.i) ∷ []) c.loop-i.invariant.appended
          ∙ append_assoc c.args.numbers.now.items (range_with_len c.args.first c.loop-i.i) ((c.args.first + c.loop-i.i) ∷ [])
          ∙ sym (ap (λ l. c.args.numbers.now.items ++ l) more);
      room = omega arith;
    }
