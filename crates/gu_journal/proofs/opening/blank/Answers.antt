use Rattle.std.proofs.Common.{ℕ, replicate, sym, subst, arith}
use Rattle.std.proofs.lemmas.List.{length-replicate}
use Rattle.gu_journal.specs.Device.{Mixes}
use Rattle.gu_journal.proofs.Moments.{started}
use Rattle.gu_journal.proofs.Steps.{mixes_none}
use Rattle.gu_journal.proofs.opening.blank.Goals as goal

pub returns-in_err-blanks-clause-any_moment : goal.returns-in_err-blanks-clause-any_moment
returns-in_err-blanks-clause-any_moment g c honest =
    let only = c.requires.synced honest in
    let seen = g.D.Device.seen c.args.device.now in
    let zeros = replicate c.args.count 0 in
    let none = mixes_none c.args.at zeros seen (omega (arith, c.requires.within honest, length-replicate {A = ℕ} c.args.count 0)) in
    started g.D.Device.moment g.D.Device.left_since c.args.device.now (Mixes c.args.at zeros seen)
    (λ f left. subst (Mixes c.args.at zeros seen) (sym (only f (g.met.D.Device.only_now c.args.device.now f left))) none)
