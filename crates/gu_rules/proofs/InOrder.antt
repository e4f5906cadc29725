-- Orderly histories, whatever the number of offers.
use Rattle.gu_rules.proofs.Words.{◌*◌, ◌≤◌, List, length, [], refl, arith, Entry, offers_of, standing_of, AreFound, AreOwn, AreWithin, IsBalanced, IsCovered, IsNamed, IsOrderly, reports_of}

-- everything except the number of offers
pub record IsInOrder (history : List Entry) : Type 0 where
  pub balanced : IsBalanced history
  pub named : IsNamed history
  pub covered : IsCovered (reports_of history) (standing_of history)
  pub found : AreFound (reports_of history) (standing_of history)
  pub within : AreWithin (standing_of history)
  pub own : AreOwn (reports_of history)

pub in_order : (history : List Entry) → IsOrderly history → IsInOrder history
in_order history o = record { balanced = o.balanced; named = o.named; covered = o.covered; found = o.found; within = o.within; own = o.own }

-- together with that number
pub whole : (history : List Entry) → IsInOrder history → length (offers_of history) ≤ 16 * length history → IsOrderly history
whole history o few = record { balanced = o.balanced; named = o.named; covered = o.covered; found = o.found; within = o.within; own = o.own; few = few }

-- the empty history is orderly
pub nothing-orderly : IsOrderly []
nothing-orderly = record {
  balanced = record { all = λ n. omega arith; today = λ n. omega arith; within = λ n. omega arith };
  named = record { takes = λ n beyond. refl; today = λ n beyond. refl; closed = λ n beyond. refl };
  covered = tt;
  found = tt;
  within = tt;
  own = tt;
  few = omega arith;
}
