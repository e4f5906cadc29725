-- A legal history extended by a committed sweep.
use Rattle.gu_book.proofs.Words.{◌≡◌, ◌+◌, ◌≤◌, List, [], ◌∷◌, ◌++◌, length, if◌then◌else◌, refl, sym, ap, ◌∙◌, arith, subst, AllByRecursion, Entry, Swept, Group, Take, Tables, GroupView, ViewOffer, BookState, StandsLast, IsSweepOf, MaySweep, offers_shown, legal_push, stands_last, IsKept, IsKeptLegal, IsCurrent, sweep_of, is_touched, version_in, SameAnswers, AreReady, IsShownOpen, MayMove, MayTake, MovesAll, Totals, Transfer, Versions}
use Rattle.gu_flow.specs.Proposals.{ProposedSweep}
use Rattle.gu_book.specs.declared.versions.Touched.TheVariants.{Only}
use Rattle.gu_book.proofs.Beginning.{still-kept}
use Rattle.gu_book.proofs.CountedLemmas.{versions-push, versions-same}
use Rattle.gu_book.proofs.KeptParts.{kept-whole}
use Rattle.gu_book.proofs.SweptMoves.{sweep-shown, sweep-takes}

-- the sweep of a current proposal may follow
pub may-sweep : (book : BookState) (proposal : ProposedSweep) → IsCurrent book proposal.view → IsSweepOf proposal.view (sweep_of proposal) → MaySweep book.reference book.history (sweep_of proposal)
may-sweep book proposal current right = record { known = current.known; sweeps = subst (λ (v : GroupView). IsSweepOf v (sweep_of proposal)) current.same right }

-- its view shows the offers of its takes
pub shows-takes : (book : BookState) (proposal : ProposedSweep) (totals : Totals) (view : GroupView) (takes : List Take) → IsKept book.reference book.history totals → IsCurrent book proposal.view
    → IsSweepOf proposal.view (sweep_of proposal) → view ≡ proposal.view → takes ≡ proposal.takes → AllByRecursion (IsShownOpen book.reference totals view.offers) takes
shows-takes book proposal totals view takes kept current right of_view are =
    let shown = ap (λ (v : GroupView). v.offers) (of_view ∙ current.same) in
    subst (λ (offers : List ViewOffer). AllByRecursion (IsShownOpen book.reference totals offers) takes) (sym shown)
    (subst (AllByRecursion (IsShownOpen book.reference totals (offers_shown book.reference book.history proposal.view.group))) (sym are)
    (sweep-shown book.reference book.history totals (sweep_of proposal) kept (may-sweep book proposal current right).sweeps))

-- its transfers, made ready, may be carried out
pub may-move : (book : BookState) (proposal : ProposedSweep) (old mid : Totals) (takes : List Take) (transfers : List Transfer) → IsKept book.reference book.history old
    → IsCurrent book proposal.view → IsSweepOf proposal.view (sweep_of proposal) → SameAnswers old mid → takes ≡ proposal.takes → AreReady book.reference mid takes transfers
    → MayMove book.reference mid transfers
may-move book proposal old mid takes transfers kept current right same are ready =
    let may = sweep-takes book.reference book.history mid (sweep_of proposal) (still-kept book.reference book.history old mid kept same) (may-sweep book proposal current right).sweeps in
    record { may = subst (MayTake book.reference mid) (sym (ready.takes_are ∙ are)) may; ready = ready.each }

-- if an allocation failed, everything is unchanged
pub legal-still : (reference : Tables) (history : List Entry) (old mid : Totals) (old_counts new_counts : Versions) → IsKeptLegal reference history old old_counts → SameAnswers old mid
    → new_counts.days ≡ old_counts.days → ((group : Group) → version_in new_counts group ≡ version_in old_counts group)
    → IsKeptLegal reference history mid new_counts
legal-still reference history old mid old_counts new_counts kept same days counts = record {
  legal = kept.legal;
  kept = still-kept reference history old mid kept.kept same;
  counted = versions-same history old_counts new_counts kept.counted days counts;
}

-- the history followed by the sweep
pub legal-swept : (book : BookState) (proposal : ProposedSweep) (mid new : Totals) (counts new_counts : Versions) → IsKeptLegal book.reference book.history mid counts → IsCurrent book proposal.view
    → IsSweepOf proposal.view (sweep_of proposal) → MovesAll book.reference mid new proposal.takes → new_counts.days ≤ counts.days + 1
    → ((group : Group) → version_in new_counts group ≡ (if is_touched (Only proposal.view.group) group then version_in counts group + 1 else version_in counts group))
    → IsKeptLegal book.reference (book.history ++ Swept (sweep_of proposal) ∷ []) new new_counts
legal-swept book proposal mid new counts new_counts kept current right moves days touched =
    let sweep = sweep_of proposal in record {
      legal = legal_push book.reference book.history (Swept sweep) kept.legal current.room tt (may-sweep book proposal current right);
      kept = kept-whole book.reference book.history sweep new right.ascending kept.kept.orderly.few (λ side symbol. omega (arith, moves.sums side symbol, kept.kept.beside.sums side symbol))
          (moves.kept book.history sweep kept.kept);
      counted = versions-push book.history (Swept sweep) counts new_counts (Only proposal.view.group) kept.counted (λ group. refl) touched days;
    }

-- the sweep is its last entry
pub swept-last : (book : BookState) (proposal : ProposedSweep) (totals : Totals) (versions : Versions) → IsKeptLegal book.reference book.history totals versions → IsCurrent book proposal.view
    → IsSweepOf proposal.view (sweep_of proposal) → StandsLast book.reference (length book.history + 1) (Swept (sweep_of proposal))
swept-last book proposal totals versions kept current right = stands_last book.reference book.history (Swept (sweep_of proposal)) kept.legal current.room tt (may-sweep book proposal current right)
