use Rattle.gu_world.proofs.Words.{◌≡◌, drop, slice_get, all_outcomes}
use Rattle.gu_world.proofs.kept_outcomes.outcome_at.Given as goal

abbrev pub invariant-loop-series : goal.invariant-loop-series
invariant-loop-series l = slice_get (all_outcomes l.list) l.place ≡ slice_get (all_outcomes (drop l.series-index l.list)) l.left
