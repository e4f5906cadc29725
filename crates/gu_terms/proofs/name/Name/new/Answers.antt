use Rattle.std.proofs.Common.{◌+◌, ◌++◌, ◌∷◌, ◌∙◌, List, ℕ, get_or, take, drop, ap, sym}
use Rattle.gu_terms.specs.Names.{is_name_byte}
use Rattle.gu_terms.proofs.PaddedLemmas.{next_passes, next_put}
use Rattle.gu_terms.proofs.name.Name.new.Goals as goal

pub loop-place-preserved : goal.loop-place-preserved
loop-place-preserved c =
    let bytes = c.args.bytes.now in
    let place = c.loop-place.place in
    record {
      put =
          c.put.ensures
          ∙ ap (λ (text : List ℕ). take place text ++ (get_or bytes place 0 ∷ drop (place + 1) text)) c.loop-place.invariant.put
          ∙ next_put bytes place c.loop-place-test.true;
      pass = next_passes is_name_byte bytes place c.loop-place-test.true c.loop-place.invariant.pass (sym c.is_name_byte.ensures ∙ c.if-not-is_name_byte.false);
    }
