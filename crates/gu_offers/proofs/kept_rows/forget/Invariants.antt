use Rattle.gu_offers.proofs.Words.{◌≡◌, ℕ, ◌<◌, ◌≤◌, get_or, without_today}
use Rattle.gu_offers.specs.declared.given.Given.{Given}
use Rattle.gu_offers.proofs.kept_rows.forget.Given as goal

abbrev pub invariant-loop-given : goal.invariant-loop-given
invariant-loop-given l = record {
  done : (k : ℕ) (d : Given) → k < l.given-index → get_or l.given-items k d ≡ without_today (get_or l.fn.list.items k d);
  rest : (k : ℕ) (d : Given) → l.given-index ≤ k → get_or l.given-items k d ≡ get_or l.fn.list.items k d;
}
