-- The stored outcome of a step fits in 32 bits: a book has at most 1,000,000 entries, and no version is above their number.
use Rattle.gu_world.proofs.Words.{ℕ, ◌≤◌, arith, Bool, true, false, length, Option, Some, None, sym, subst, if◌then◌else◌, option_map_or, length-take, SweepEntry, is_group, version-le, kept_of, IsShort, LeadsTo, Look, ProposesOn, State, committed_for, committed_on, is_full, is_overtaken, look_of, seen_history, with_look, Outcome, Nothing, Step, Enter, See, Propose, Commit}
use Rattle.std.proofs.lemmas.List.{length-append}

-- if the book has at most that many
abbrev IsKeptShort : Outcome × State → Type 0
IsKeptShort end = length end.1.book.history ≤ 1000000 → IsShort (kept_of end.0)

either : (b : Bool) (x y : Outcome × State) → IsKeptShort x → IsKeptShort y → IsKeptShort (if b then x else y)
either true x y h k = h
either false x y h k = k

committed_for-short : (state : State) (look : Look) (sweep : SweepEntry) → IsKeptShort (committed_for state look sweep)
committed_for-short state look sweep =
    either (is_full state) _ _ (λ most. tt)
    (either (is_overtaken state look) _ _
    (λ most. (omega (arith, most, version-le (seen_history state look) look.group, seen), omega (arith, most, version-le state.book.history look.group)))
    (λ most. omega (arith, most, length-append state.book.history)))
  where
    seen : length (seen_history state look) ≤ length state.book.history
    seen = omega (arith, length-take look.seen state.book.history)

committed_on-short : (look : Option Look) (state : State) (worker : ℕ) → IsKeptShort (committed_on look state worker)
committed_on-short None state worker = λ most. tt
committed_on-short (Some look) state worker = of look.proposal
  where
    of : (proposal : Option SweepEntry) → IsKeptShort (option_map_or {U = Outcome × State} (committed_for (with_look state worker None) look) proposal (Nothing, state))
    of None = λ most. tt
    of (Some sweep) = committed_for-short (with_look state worker None) look sweep

proposes-short : (look : Option Look) (old : State) (worker : ℕ) (outcome : Outcome) (new : State) → ProposesOn look old worker outcome new → IsShort (kept_of outcome)
proposes-short None old worker outcome new h = subst (λ (o : Outcome). IsShort (kept_of o)) (sym h.0) tt
proposes-short (Some look) old worker outcome new h = subst (λ (o : Outcome). IsShort (kept_of o)) (sym h.outcome_is) tt

pub leads-short : (old : State) (step : Step) (outcome : Outcome) (new : State) → LeadsTo old step outcome new → length new.book.history ≤ 1000000 → IsShort (kept_of outcome)
leads-short old (Enter command) outcome new h = subst IsKeptShort (sym h.1) (either (is_full old) _ _ (λ most. tt) (λ most. omega (arith, most, length-append old.book.history)))
leads-short old (See worker group) outcome new h =
    subst IsKeptShort (sym h) (either (is_group old.book.reference group) _ _ (λ most. omega (arith, most, version-le old.book.history group)) (λ most. tt))
leads-short old (Propose worker) outcome new h = λ most. proposes-short (look_of old worker) old worker outcome new h
leads-short old (Commit worker) outcome new h = subst IsKeptShort (sym h) (committed_on-short (look_of old worker) old worker)
