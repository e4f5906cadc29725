use Rattle.std.proofs.Common.{◌∙◌, arith, sym}
use Rattle.std.proofs.lemmas.Bool.{ne_eqb}
use Rattle.gu_terms.proofs.WrittenLemmas.{other_stays, zero_goes}
use Rattle.gu_terms.proofs.digits.trimmed.Goals as goal

pub loop-end-preserved : goal.loop-end-preserved
loop-end-preserved c =
    let inv = c.loop-end.invariant in
    record {
      within = omega (arith, inv.within);
      same = inv.same ∙ zero_goes c.args.digits.now c.loop-end.end c.loop-end-test.true inv.within c.if-digits-end-ne48.false;
    }

pub returns-then-digits-end-ne48-clause-digits : goal.returns-then-digits-end-ne48-clause-digits
returns-then-digits-end-ne48-clause-digits c =
    let inv = c.loop-end.invariant in
    sym (inv.same ∙ other_stays c.args.digits.now c.loop-end.end c.loop-end-test.true inv.within (ne_eqb _ 48 c.if-digits-end-ne48.true))
