use Rattle.std.proofs.Common.{◌+◌, ℕ, take, subst, sym, arith}
use Rattle.gu_log.specs.Lines.{GoesOn}
use Rattle.gu_log.proofs.GoingOn.{ended_line, goes_on-cut}
use Rattle.gu_log.proofs.rows.end_line.Goals as goal

pub returns-clause-line : goal.returns-clause-line
returns-clause-line c start is on =
    let cut = subst (λ (n : ℕ). GoesOn start (take (n + 4095) c.args.line.now.items)) is (goes_on-cut start c.args.line.now.items 4095 on) in
    ended_line start c.truncate.new.self.items c.push.new.self.items (subst (GoesOn start) (sym c.truncate.ensures.items) cut)
    (omega (arith, c.truncate.ensures.len, is)) c.in_ok-push.ensures.items
