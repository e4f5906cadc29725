use Rattle.gu_world.proofs.Words.{[], subst, Refuses}
use Rattle.gu_world.proofs.CommitLemmas.{committed-stale, committed-swept, never_foreign, still_true}
use Rattle.gu_world.proofs.committing.commit.Goals as goal

pub returns-in-Ok-clause-committed : goal.returns-in-Ok-clause-committed
returns-in-Ok-clause-committed c = λ seen looks one.
    committed-swept c.args.book.now c.commit_seen.new.self seen looks c.args.proposal one c.in-Ok.receipt c.in-Ok.ensures.current c.commit_seen.ensures.reference c.in-Ok.ensures.entered c.in-Ok.ensures.number c.in-Ok.ensures.entry

pub returns-in-Stale-clause-committed : goal.returns-in-Stale-clause-committed
returns-in-Stale-clause-committed c = λ seen looks one.
    committed-stale c.args.book.now c.commit_seen.new.self seen looks c.args.proposal one c.in-Stale.seen c.in-Stale.now (subst (Refuses c.args.book.now c.args.proposal.view) c.in-Stale.is c.in-Err.ensures.why) c.commit_seen.ensures.reference c.in-Err.ensures.refused

pub returns-in-Foreign-clause-committed : goal.returns-in-Foreign-clause-committed
returns-in-Foreign-clause-committed c = λ seen looks one.
    absurd (never_foreign c.args.book.now c.commit_seen.new.self seen looks c.args.proposal one c.history.ensures.legal (subst (Refuses c.args.book.now c.args.proposal.view) c.in-Foreign.is c.in-Err.ensures.why))

pub commit_seen-requires-clause-known : goal.commit_seen-requires-clause-known
commit_seen-requires-clause-known c = c.requires.1.known

pub commit_seen-requires-clause-honest : goal.commit_seen-requires-clause-honest
commit_seen-requires-clause-honest c = still_true c.args.book.now c.args.book.now c.requires.0 [] c.args.proposal c.requires.1 c.history.ensures.legal
