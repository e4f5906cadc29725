use Rattle.gu_book.proofs.Words.{◌≡◌, false, is_none, take, list_any, Line, account_row}
use Rattle.gu_book.proofs.answering.has_unknown_account.Given as goal

abbrev pub invariant-loop-line : goal.invariant-loop-line
invariant-loop-line l = list_any (λ (x : Line). is_none (account_row l.reference x.account)) (take l.line-index l.lines) ≡ false
