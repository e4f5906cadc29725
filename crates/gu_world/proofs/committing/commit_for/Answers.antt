use Rattle.gu_world.proofs.Words.{sym, subst, ap, ◌∙◌, None, slice_set, BookState, AreTrue, IsTrueLook, looks_in, Work, Looking, Ready}
use Rattle.gu_world.proofs.Holding.{commits-no_look, commits-nothing, commits-proposal, left-true, nothing-held, put-back}
use Rattle.gu_world.proofs.committing.commit_for.Goals as goal

pub returns-in_default-clause-commits : goal.returns-in_default-clause-commits
returns-in_default-clause-commits c = commits-nothing c.args.looks.now c.take.new.self c.args.worker c.take.ensures.left c.args.book.now (sym c.take.ensures.held ∙ c.in_default.is)

pub returns-in_default-clause-still : goal.returns-in_default-clause-still
returns-in_default-clause-still c =
    subst (AreTrue c.args.book.now) (sym (nothing-held c.args.looks.now c.take.new.self c.args.worker c.take.ensures.left (sym c.take.ensures.held ∙ c.in_default.is))) c.requires

pub returns-in-Looking-clause-commits : goal.returns-in-Looking-clause-commits
returns-in-Looking-clause-commits c =
    let at = sym c.in-Some.ensures.held in
    commits-no_look c.args.looks.now c.take.new.self c.args.worker c.take.ensures.left c.in-Some.held.seen c.in-Some.held.work at c.args.book.now c.in-Looking.view c.put.new.self c.in-Looking.is
    (put-back c.args.looks.now c.take.new.self c.args.worker c.take.ensures.left c.in-Some.held.seen c.in-Some.held.work at c.put.new.self (Looking c.in-Looking.view) c.in-Looking.is c.put.ensures)

pub returns-in-Looking-clause-still : goal.returns-in-Looking-clause-still
returns-in-Looking-clause-still c =
    subst (AreTrue c.args.book.now)
    (sym
    (put-back c.args.looks.now c.take.new.self c.args.worker c.take.ensures.left c.in-Some.held.seen c.in-Some.held.work (sym c.in-Some.ensures.held) c.put.new.self (Looking c.in-Looking.view) c.in-Looking.is
    c.put.ensures))
    c.requires

pub returns-in-Ok-clause-commits : goal.returns-in-Ok-clause-commits
returns-in-Ok-clause-commits c =
    let at = sym c.in-Some.ensures.held in
    commits-proposal c.args.looks.now c.take.new.self c.args.worker c.take.ensures.left c.in-Some.held.seen c.in-Some.held.work at c.args.book.now c.commit.new.book c.in-Ready.proposal c.in-Ok.outcome
    c.in-Ready.is c.in-Some.ensures.made
    (c.in-Ok.ensures.committed c.in-Some.held.seen (slice_set (looks_in c.args.looks.now) c.args.worker None)
    (subst (λ (w : Work). IsTrueLook c.args.book.now (record { seen = c.in-Some.held.seen; work = w })) c.in-Ready.is (c.requires c.args.worker c.in-Some.held at)))

pub returns-in-Ok-clause-still : goal.returns-in-Ok-clause-still
returns-in-Ok-clause-still c = left-true c.args.looks.now c.take.new.self c.args.worker c.take.ensures.left c.args.book.now c.commit.new.book c.commit.ensures.grows c.requires

pub returns-in-Err-clause-still : goal.returns-in-Err-clause-still
returns-in-Err-clause-still c =
    let same = put-back c.args.looks.now c.take.new.self c.args.worker c.take.ensures.left c.in-Some.held.seen c.in-Some.held.work (sym c.in-Some.ensures.held) c.put-in-Err.new.self (Ready c.in-Err.proposal)
    (c.in-Ready.is ∙ ap Ready (sym c.in-Err.ensures.handed_back)) c.put-in-Err.ensures in
    subst (λ (book : BookState). AreTrue book c.put-in-Err.new.self) (sym c.in-Err.ensures.refused) (subst (AreTrue c.args.book.now) (sym same) c.requires)

pub returns-in-Err-clause-refused : goal.returns-in-Err-clause-refused
returns-in-Err-clause-refused c = (
  c.in-Err.ensures.refused,
  put-back c.args.looks.now c.take.new.self c.args.worker c.take.ensures.left c.in-Some.held.seen c.in-Some.held.work (sym c.in-Some.ensures.held) c.put-in-Err.new.self (Ready c.in-Err.proposal)
      (c.in-Ready.is ∙ ap Ready (sym c.in-Err.ensures.handed_back)) c.put-in-Err.ensures,
)

pub commit-requires : goal.commit-requires
commit-requires c = (
  c.in-Some.held.seen,
  subst (λ (w : Work). IsTrueLook c.args.book.now (record { seen = c.in-Some.held.seen; work = w })) c.in-Ready.is (c.requires c.args.worker c.in-Some.held (sym c.in-Some.ensures.held)),
)
