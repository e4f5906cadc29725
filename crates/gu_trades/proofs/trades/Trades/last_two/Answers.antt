use Rattle.std.proofs.Common.{◌≡◌, ◌∙◌, ℕ, ◌-◌, sym, ap, Bool, arith}
use Rattle.gu_terms.specs.Same.{same_id}
use Rattle.gu_terms.specs.declared.report.Report.{Report}
use Rattle.gu_trades.specs.Kept.{is_with_at}
use Rattle.gu_trades.specs.Numbered.{last_before}
use Rattle.gu_trades.proofs.LastPlaces.{at-is, walk-back}
use Rattle.gu_trades.proofs.ReportPlaces.{found-here}
use Rattle.gu_trades.proofs.Walks.{with-on, with-start}
use Rattle.gu_trades.proofs.trades.Trades.last_two.Goals as goal
use Rattle.gu_trades.proofs.trades.Trades.last_two.Goals.{then-is_with+else-last-gt0, else-is_with}

pub loop-at-init : goal.loop-at-init
loop-at-init c =
    let begun = with-start c.self.inside c.args.self.now c.self.invariant c.self.view_is c.args.match_id.now c.match_number.result c.last-at.result c.match_number.ensures c.last-at.ensures in
    record { none = λ _. begun.0; one = λ some. absurd (omega arith); left = λ some. absurd (omega arith); within = begun.1; number = begun.2 }

pub returns-then-last-gt0-clause-placed : goal.returns-then-last-gt0-clause-placed
returns-then-last-gt0-clause-placed c =
    let hit = at-is (λ (r : Report). same_id r.match_id c.args.match_id.now) c.args.self.now (c.loop-at.at - 1) c.kept.result (rw c.self.view_is at c.kept.ensures) ∙ sym c.is_with.ensures ∙ c.if-is_with.true in
    record {
      last_is = c.loop-at.invariant.one c.if-last-gt0.true;
      first_is = sym (c.loop-at.invariant.left c.if-last-gt0.true ∙ found-here (is_with_at c.args.self.now c.args.match_id.now) c.loop-at.at c.loop-at-test.true hit);
    }

pub loop-at-smaller : goal.loop-at-smaller
loop-at-smaller c = (with-on c.self.inside c.args.self.now c.self.invariant c.self.view_is c.args.match_id.now c.loop-at.at c.before-at.result c.loop-at-test.true (c.loop-at.invariant.number c.loop-at-test.true) c.before-at.ensures).1

pub loop-at-preserved : goal.loop-at-preserved
loop-at-preserved c =
    let on = with-on c.self.inside c.args.self.now c.self.invariant c.self.view_is c.args.match_id.now c.loop-at.at c.before-at.result c.loop-at-test.true (c.loop-at.invariant.number c.loop-at-test.true) c.before-at.ensures in
    let kept = c.loop-at.invariant in
    let within = kept.within in
    let smaller = on.1 in
    let test : ℕ → Bool = is_with_at c.args.self.now c.args.match_id.now in
    elim c.if-is_with.branch [
      | then-is_with+else-last-gt0 w ↦
          let hit = at-is (λ (r : Report). same_id r.match_id c.args.match_id.now) c.args.self.now (c.loop-at.at - 1) c.kept.result (rw c.self.view_is at c.kept.ensures) ∙ sym c.is_with.ensures ∙ w.if-is_with.true in
          let none : c.loop-at.last ≡ 0 = omega (arith, w.if-last-gt0.false) in
          record {
            none = λ zeroth. absurd (omega (arith, w.last-is, c.loop-at-test.true, zeroth));
            one = λ some. w.last-is ∙ sym (kept.none none ∙ found-here test c.loop-at.at c.loop-at-test.true hit);
            left = λ some. ap (λ n. last_before test (n - 1)) w.last-is ∙ on.0;
            within = omega arith;
            number = on.2;
          }
      | else-is_with w ↦
          let miss = at-is (λ (r : Report). same_id r.match_id c.args.match_id.now) c.args.self.now (c.loop-at.at - 1) c.kept.result (rw c.self.view_is at c.kept.ensures) ∙ sym c.is_with.ensures ∙ w.if-is_with.false in
          let back = walk-back (λ (r : Report). same_id r.match_id c.args.match_id.now) c.args.self.now c.loop-at.at c.before-at.result c.loop-at-test.true miss on.0 in
          record {
            none = λ zeroth. kept.none (sym w.last-is ∙ zeroth) ∙ back;
            one = λ some. w.last-is ∙ kept.one (omega (arith, w.last-is, some));
            left = λ some. ap (λ n. last_before test (n - 1)) w.last-is ∙ kept.left (omega (arith, w.last-is, some)) ∙ back;
            within = omega arith;
            number = on.2;
          }
    ]
