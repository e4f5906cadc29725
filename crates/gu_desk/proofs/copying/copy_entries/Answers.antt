use Rattle.gu_desk.proofs.Words.{◌∙◌, ◌-◌, ◌++◌, ◌∷◌, [], List, ap, append_assoc, arith, drop, sym, take, Entry}
use Rattle.gu_desk.proofs.Fronts.{one_more}
use Rattle.gu_desk.proofs.copying.copy_entries.Goals as goal

pub loop-at-preserved : goal.loop-at-preserved
loop-at-preserved c =
    let i = c.loop-at.invariant in
    let history = c.args.history.now in
    let place = c.args.place.now in
    let before = c.args.entries.now.items in
    let entry = c.in_ok-at.field-0 in
    record {
      place = omega (arith, i.place);
      low = omega (arith, i.low);
      copied =
          c.push_reserved.ensures.items
          ∙ ap (λ (es : List Entry). es ++ entry ∷ []) (c.reserve.ensures.items ∙ i.copied)
          ∙ append_assoc before (take (c.loop-at.at - place) (drop place history)) (entry ∷ [])
          ∙ ap (λ (es : List Entry). before ++ es) (sym (one_more history place c.loop-at.at entry i.low c.in_ok-at.ensures));
    }
