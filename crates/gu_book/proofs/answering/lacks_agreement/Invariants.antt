use Rattle.gu_book.proofs.Words.{◌≡◌, false, is_none, take, list_any, Line, agreement_between}
use Rattle.gu_book.proofs.answering.lacks_agreement.Given as goal

abbrev pub invariant-loop-line : goal.invariant-loop-line
invariant-loop-line l = list_any (λ (x : Line). is_none (agreement_between l.reference l.firm x.account)) (take l.line-index l.lines) ≡ false
