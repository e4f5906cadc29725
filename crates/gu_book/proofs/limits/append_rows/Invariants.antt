use Rattle.gu_book.proofs.Words.{◌≡◌, ◌++◌, take, filter_map, row_in, LimitKey}
use Rattle.std.specs.Fn.{FnReturnsAt}
use Rattle.gu_book.proofs.limits.append_rows.Given as goal

abbrev pub invariant-loop-item : goal.invariant-loop-item
invariant-loop-item g l =
    (key : _ → LimitKey) → ((item : _) (k : LimitKey) → FnReturnsAt g.F.Fn l.key_of item k → k ≡ key item)
    → l.rows.items ≡ l.initial.rows.items ++ filter_map (λ item. row_in l.limits l.group (key item)) (take l.item-index l.items)
