use Rattle.gu_terms.specs.declared.report.Report.{Report}
use Rattle.gu_terms.proofs.Found.{by_names, found_by_own_name}
use Rattle.gu_trades.specs.Rules.{same_report}
use Rattle.gu_trades.proofs.trades.Trades.rules.Goals as goal

pub returns : goal.returns
returns c =
    let sound = rw c.self.view_is at c.self.invariant.sound in
    record {
      sound = sound;
      own = λ report there.
          found_by_own_name same_report (λ r. (by_names (λ (k : Report). k.firm.name) (λ k. k.id)).refl r) c.args.self.now report sound.once there;
    }
