use Rattle.worker_tests.proofs.FreeHouse.{adds_any}
use Rattle.worker_tests.proofs.book_house.BookHouseHouse.answer.Goals as goal

pub returns-in_default-try_borrow_mut-clause-answered :
    goal.returns-in_default-try_borrow_mut-clause-answered
returns-in_default-try_borrow_mut-clause-answered c = record {
  mid = c.if-matches.self;
  answers = tt;
  tells = adds_any c.if-matches.self c.args.ask.firm c.args.from c.left_out.result.stretch;
}

pub returns-clause-answered : goal.returns-clause-answered
returns-clause-answered c = record {
  mid = c.if-matches.self;
  answers = tt;
  tells = adds_any c.if-matches.self c.args.ask.firm c.args.from c.in_ok-answered.answered.stretch;
}
