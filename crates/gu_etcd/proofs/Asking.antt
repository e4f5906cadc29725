-- A desk asks for an entry, perhaps several times.
use Rattle.std.proofs.Common.{◌≡◌, ℕ, ◌+◌, List, length, inl, inr, ⊎_elim, refl, ◌∙◌, subst, arith}
use Rattle.gu_journal.specs.Crashes.{Elapses, LeavesOnly}
use Rattle.gu_etcd.specs.declared.node.Node.{Ghosts}
use Rattle.gu_etcd.specs.Counts.{CountsStay}
use Rattle.gu_etcd.specs.Log.{IsSettled, HasBegun}
use Rattle.gu_etcd.specs.Node.{Follows, Puts}
use Rattle.gu_etcd.proofs.Histories.{begun_goes_on}

module _ {N : Type 0} (g : Ghosts N) where
  -- what is known of an honest etcd after it was asked
  pub record HasAsked (entry : List ℕ) (old new : N) : Type 0 where
    pub before : g.is_honest old
    pub leader : g.leader new ≡ g.leader old
    pub begun : (log : List (List ℕ)) → g.may_hold new log → HasBegun (g.known old) (g.leader old) entry log
    pub moments : LeavesOnly g.moment g.held_since old new (HasBegun (g.known old) (g.leader old) entry)
    pub stay : CountsStay g.counts old new

  -- before it is asked
  pub not_yet_asked : (entry : List ℕ) (node : N) → g.is_honest node → ((log : List (List ℕ)) → g.may_hold node log → IsSettled (g.known node) (g.leader node) log)
      → ((log : List (List ℕ)) → g.held_since node (g.moment node) log → g.may_hold node log) → HasAsked entry node node
  not_yet_asked entry node honest settled only_now = record {
    before = honest;
    leader = refl;
    begun = λ log may. inl (settled log may);
    moments = record {
      later = omega arith;
      each = λ log held. inl (settled log (only_now log held));
      before = λ t log le held. inl held;
    };
    stay = record { failures = omega arith; refusals = omega arith; shortages = omega arith };
  }

  -- asked once more
  pub asked_again : (number : ℕ) (entry : List ℕ) (old mid new : N) → number ≡ length (g.known old) + 1 → HasAsked entry old mid
      → g.leader new ≡ g.leader mid → Follows (Puts (g.leader mid) number entry) (g.may_hold mid) (g.may_hold new)
      → Elapses g.moment g.held_since mid new (g.may_hold new) → CountsStay g.counts mid new → HasAsked entry old new
  asked_again number entry old mid new next so_far leader order time stay =
      let begun : (log : List (List ℕ)) → g.may_hold new log → HasBegun (g.known old) (g.leader old) entry log =
      λ (log : List (List ℕ)) (may : g.may_hold new log).
      let from = order log may in
      begun_goes_on (g.known old) (g.leader old) number entry next from.0 log (so_far.begun from.0 from.1)
      (subst (λ (l : List ℕ). Puts l number entry from.0 log) so_far.leader from.2) in
      record {
        before = so_far.before;
        leader = leader ∙ so_far.leader;
        begun = begun;
        moments = record {
          later = omega (arith, so_far.moments.later, time.later);
          each = λ log held. ⊎_elim (so_far.moments.each log) (begun log) (time.nothing_else (g.moment old) log so_far.moments.later held);
          before = λ t log le held. ⊎_elim (so_far.moments.before t log le) (λ may. inr (begun log may))
              (time.nothing_else t log (omega (arith, le, so_far.moments.later)) held);
        };
        stay = record {
          failures = omega (arith, so_far.stay.failures, stay.failures);
          refusals = omega (arith, so_far.stay.refusals, stay.refusals);
          shortages = omega (arith, so_far.stay.shortages, stay.shortages);
        };
      }
