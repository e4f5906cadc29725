use Rattle.std.proofs.Common.{length, arith}
use Rattle.gu_journal.proofs.Scans.{eq_of, no_zero_found, none_within, zero_found}
use Rattle.gu_journal.proofs.scanning.zero_at.Goals as goal

pub returns-in-Some-clause-before : goal.returns-in-Some-clause-before
returns-in-Some-clause-before c =
    let found = c.in-Some.ensures in
    let before = none_within c.args.bytes.now c.in-Some.place (omega (arith, found.0.high)) found.0.before in
    zero_found c.args.bytes.now c.in-Some.place found.0.high before (eq_of _ 0 found.1)

pub returns-in-None-clause-before : goal.returns-in-None-clause-before
returns-in-None-clause-before c = no_zero_found c.args.bytes.now (none_within c.args.bytes.now (length c.args.bytes.now) (omega arith) c.in-None.ensures)
