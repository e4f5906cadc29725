-- What an etcd counts, to say why a call failed.
use Rattle.std.specs.Prelude.{◌≤◌, ℕ}

-- how many exchanges got no answer, how many calls etcd refused, and how many allocations failed
pub record Counts (N : Type 0) : Type 0 where
  pub failures : N → ℕ
  pub refusals : N → ℕ
  pub shortages : N → ℕ

-- no count falls
pub record CountsStay {N : Type 0} (counts : Counts N) (old new : N) : Type 0 where
  pub failures : counts.failures old ≤ counts.failures new
  pub refusals : counts.refusals old ≤ counts.refusals new
  pub shortages : counts.shortages old ≤ counts.shortages new
