use Rattle.gu_engine.proofs.Words.{arith, refl, take_rest, length-drop, sent_more, sent_part, keeps_from_zero}
use Rattle.gu_engine.proofs.gate.write_some.Goals as goal

pub parts-preserved : goal.parts-preserved
parts-preserved g c =
    let wrote = simp take_rest at c.in-Ok.ensures in
    record {
      within = omega (arith, wrote.bound, length-drop c.parts.at c.args.text.now);
      appended = sent_more c.args.text.now c.parts.at c.in-Ok.count _ _ _ c.parts.invariant.appended wrote.bytes;
      unasked = λ none. absurd (omega arith);
    }

pub returns-in-Ok-eq0-clause-err : goal.returns-in-Ok-eq0-clause-err
returns-in-Ok-eq0-clause-err g c = sent_part c.args.text.now c.parts.at _ _ _ c.parts.invariant.appended (keeps_from_zero _ _ c.in-Ok-eq0.field-0 _ c.in-Ok-eq0.field-0-test c.in-Ok-eq0.ensures.bytes)

pub returns-in_default : goal.returns-in_default
returns-in_default g c = record {
  within = tt;
  ok = tt;
  err = sent_part c.args.text.now c.parts.at _ _ _ c.parts.invariant.appended c.in-Err.ensures.bytes;
  fault = refl;
  unasked = λ none. absurd (omega arith);
}
