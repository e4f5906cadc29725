use Rattle.std.proofs.Common.{arith}
use Rattle.std.proofs.lemmas.List.{take_rest, length-drop}
use Rattle.gu_streams.proofs.Writing.{sent_more, sent_part, keeps_from_zero}
use Rattle.gu_streams.proofs.sending.send.Goals as goal

pub parts-preserved : goal.parts-preserved
parts-preserved g c =
    let wrote = simp take_rest at c.in-Ok.ensures in
    record {
      within = omega (arith, wrote.bound, length-drop c.parts.at c.args.text.now);
      appended = sent_more c.args.text.now c.parts.at c.in-Ok.count _ _ _ c.parts.invariant.appended wrote.bytes;
    }

pub returns-in-Ok-eq0-clause-err : goal.returns-in-Ok-eq0-clause-err
returns-in-Ok-eq0-clause-err g c = sent_part c.args.text.now c.parts.at _ _ _ c.parts.invariant.appended (keeps_from_zero _ _ c.in-Ok-eq0.field-0 _ c.in-Ok-eq0.field-0-test c.in-Ok-eq0.ensures.bytes)

pub returns-in-Err-clause-err : goal.returns-in-Err-clause-err
returns-in-Err-clause-err g c = sent_part c.args.text.now c.parts.at _ _ _ c.parts.invariant.appended c.in-Err.ensures.bytes
