-- Facts about the book that a run leads to.
use Rattle.gu_world.proofs.Words.{◌≡◌, ◌≢◌, ℕ, Bool, true, false, List, [], ◌∷◌, Option, Some, None, sym, ap, ◌∙◌, arith, if◌then◌else◌, All, AllByRecursion, option_map_or, All-from_recursion, Entry, Swept as SweptEntry, SweepEntry, is_group, Tables, IsLegal, IsRun, LeadsTo, Look, ProposesOn, State, committed_for, committed_on, is_full, is_overtaken, look_of, with_look, Outcome, Foreign, Nothing, Proposed, Step, Enter, See, Propose, Commit}
use Rattle.gu_terms.specs.declared.side.Side.TheVariants.{Buy, Sell}
use Rattle.gu_rules.specs.Offers.{standing_of}
use Rattle.gu_rules.specs.Orderly.{IsOrderly}
use Rattle.gu_rules.specs.Reports.{reports_of}
use Rattle.gu_rules.proofs.ChangedSums.{moved_out-le-traded}
use Rattle.gu_world.specs.Headline.{AreGreatestSweeps, ArePositionsSums}
use Rattle.gu_world.proofs.RunLemmas.{leads-reference}

-- a run keeps its reference
pub run-reference : (old : State) (steps : List Step) (outcomes : List Outcome) (new : State) → IsRun old steps outcomes new → new.book.reference ≡ old.book.reference
run-reference old [] [] new h = ap (λ (s : State). s.book.reference) h
run-reference old [] (o ∷ outcomes) new h = absurd h
run-reference old (s ∷ steps) [] new h = absurd h
run-reference old (s ∷ steps) (o ∷ outcomes) new h = run-reference h.0 steps outcomes new h.2 ∙ leads-reference old s o h.0 h.1

-- each sweep of a legal history is greatest
pub sweeps_are_greatest : (reference : Tables) (history : List Entry) → IsLegal reference history → AreGreatestSweeps reference history
sweeps_are_greatest reference history legal k sweep at =
    let may = legal.each k (SweptEntry sweep) at in
    let right = may.sweeps.right in
    record {
      known = right.takes_known;
      within = right.admissible;
      oldest_first = right.oldest_first;
      taken = right.taken;
      greatest = λ others admissible. omega (arith, may.sweeps.oldest.greatest.greatest others admissible, right.taken);
      oldest = may.sweeps.oldest.oldest;
      keys = right.keys_known;
      offers = right.offers_known;
      covers = right.covers;
      room = right.room;
      nearest = may.sweeps.nearest;
    }

-- each position of an orderly history is a sum
pub positions_are_sums : (history : List Entry) → IsOrderly history → ArePositionsSums history
positions_are_sums history orderly = record {
  long = λ account symbol. omega (arith, moved_out-le-traded (reports_of history) (standing_of history) Buy account symbol orderly.covered orderly.within);
  short = λ account symbol. omega (arith, moved_out-le-traded (reports_of history) (standing_of history) Sell account symbol orderly.covered orderly.within);
}

-- ---- no outcome is foreign

either : (b : Bool) (x y : Outcome × State) → x.0 ≢ Foreign → y.0 ≢ Foreign → (if b then x else y).0 ≢ Foreign
either true x y h k = h
either false x y h k = k

proposes-known : (look : Option Look) (old : State) (worker : ℕ) (outcome : Outcome) (new : State) → ProposesOn look old worker outcome new → outcome ≢ Foreign
proposes-known None old worker outcome new h foreign = let e : Nothing ≡ Foreign = sym h.0 ∙ foreign in cc
proposes-known (Some look) old worker outcome new h foreign = let e : Proposed h.sweep.lots ≡ Foreign = sym h.outcome_is ∙ foreign in cc

commits-known : (look : Option Look) (state : State) (worker : ℕ) → (committed_on look state worker).0 ≢ Foreign
commits-known None state worker = λ e. cc
commits-known (Some look) state worker = of look.proposal
  where
    of : (proposal : Option SweepEntry) → (option_map_or {U = Outcome × State} (committed_for (with_look state worker None) look) proposal (Nothing, state)).0 ≢ Foreign
    of None = λ e. cc
    of (Some sweep) = either (is_full (with_look state worker None)) _ _ (λ e. cc) (either (is_overtaken (with_look state worker None) look) _ _ (λ e. cc) (λ e. cc))

leads-known : (old : State) (step : Step) (outcome : Outcome) (new : State) → LeadsTo old step outcome new → outcome ≢ Foreign
leads-known old (Enter command) outcome new h foreign = either (is_full old) _ _ (λ e. cc) (λ e. cc) (sym (ap (λ (p : Outcome × State). p.0) h.1) ∙ foreign)
leads-known old (See worker group) outcome new h foreign = either (is_group old.book.reference group) _ _ (λ e. cc) (λ e. cc) (sym (ap (λ (p : Outcome × State). p.0) h) ∙ foreign)
leads-known old (Propose worker) outcome new h foreign = proposes-known (look_of old worker) old worker outcome new h foreign
leads-known old (Commit worker) outcome new h foreign = commits-known (look_of old worker) old worker (sym (ap (λ (p : Outcome × State). p.0) h) ∙ foreign)

known-each : (old : State) (steps : List Step) (outcomes : List Outcome) (new : State) → IsRun old steps outcomes new → AllByRecursion (λ (o : Outcome). o ≢ Foreign) outcomes
known-each old [] [] new h = tt
known-each old [] (o ∷ outcomes) new h = absurd h
known-each old (s ∷ steps) [] new h = absurd h
known-each old (s ∷ steps) (o ∷ outcomes) new h = (leads-known old s o h.0 h.1, known-each h.0 steps outcomes new h.2)

pub never_foreign : (old : State) (steps : List Step) (outcomes : List Outcome) (new : State) → IsRun old steps outcomes new → All (λ (o : Outcome). o ≢ Foreign) outcomes
never_foreign old steps outcomes new h = All-from_recursion (λ (o : Outcome). o ≢ Foreign) outcomes (known-each old steps outcomes new h)
