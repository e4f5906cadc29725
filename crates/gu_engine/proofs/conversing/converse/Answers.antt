use Rattle.gu_engine.proofs.Words.{Err, inl, inr, ap, error_passed, on_err_from}
use Rattle.gu_engine.proofs.conversing.converse.Goals as goal

pub returns-in_err-run-clause-answered : goal.returns-in_err-run-clause-answered
returns-in_err-run-clause-answered g c read =
    let same = error_passed c.from_residual.result _ _ c.from_residual.ensures.1 read in
    c.in_err-run.ensures.answered (ap Err same)

pub returns-in_err-run-clause-stopped : goal.returns-in_err-run-clause-stopped
returns-in_err-run-clause-stopped g c read =
    let same = error_passed c.from_residual.result _ _ c.from_residual.ensures.1 read in
    elim (c.in_err-run.ensures.stopped (ap Err same)) [ inl stopped ↦ inl stopped | inr fails ↦ inr (fails.1).failed ]

pub returns-in_err-run-clause-part : goal.returns-in_err-run-clause-part
returns-in_err-run-clause-part g c = on_err_from _ c.run.ensures.part

pub returns-clause-exchanged : goal.returns-clause-exchanged
returns-clause-exchanged g c = record { mid = c.run.new.answerer; served = c.in_ok-run.ensures.done; ended = c.end.ensures }
