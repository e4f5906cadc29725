use Rattle.gu_program.proofs.ready.made_ready.Goals as goal

pub invariant_of-result : goal.invariant_of-result
invariant_of-result g c = record { journaled = c.in_ok-world-in-Some.ensures }
