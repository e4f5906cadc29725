use Rattle.gu_limits.proofs.Words.{◌≡◌, ◌∙◌, ◌<◌, ℕ, List, [], ◌∷◌, None, Some, nat_lt, refl, arith, le-ltb, LimitKey, room_in}
use Rattle.std.proofs.Common.{find}
use Rattle.gu_limits.proofs.table.LimitTable.limits_of.Goals as goal

-- no key has less room than 0 lots
none_short : (room : LimitKey → ℕ) (keys : List LimitKey) → find (λ key. nat_lt (room key) 0) keys ≡ None
none_short room [] = refl
none_short room (k ∷ keys) = rw (le-ltb (room k) 0 (omega arith)) (none_short room keys)

pub returns-in-Err : goal.returns-in-Err
returns-in-Err c =
    let never : Some c.in-Err.field-0 ≡ None = c.in-Err.ensures.short ∙ none_short (room_in c.args.self.now c.args.group.now) c.args.path.now in
    cc
