-- Work in hand of a worker that proposes.
use Rattle.gu_world.proofs.Words.{◌≡◌, ℕ, List, length, take, Option, Some, None, refl, sym, ap, ◌∙◌, subst, slice_index_or, slice_set, option_map, length-set, is_group, GroupView, IsNested, BookState, group_view, sweep_of, AreTrue, Grows, IsTrueLook, look_by, look_in, looks_in, state_in, view_in, Look, ProposesOn, committed_for, committed_on, look_of, with_proposal, Held, Work, Looking, Ready, Outcome, Nothing, Proposed}
use Rattle.gu_flow.specs.Proposals.{ProposedSweep}
use Rattle.gu_rules.specs.Sweeps.{IsSweepOf}
use Rattle.gu_world.proofs.SlotLemmas.{look_of-held, looks_in-put, looks_in-taken, set-own, set-twice, true-grown, true-put, true-taken}

-- a look has the group of its view, and the number of entries seen
pub look_by-group : (seen : ℕ) (work : Work) → (look_by seen work).group ≡ (view_in work).group
look_by-group seen (Looking view) = refl
look_by-group seen (Ready proposal) = refl

pub look_by-seen : (seen : ℕ) (work : Work) → (look_by seen work).seen ≡ seen
look_by-seen seen (Looking view) = refl
look_by-seen seen (Ready proposal) = refl

-- work with the same view as a true one, and as many entries seen, is true
pub true-alike : (book : BookState) (seen : ℕ) (work other : Work) → view_in other ≡ view_in work → IsTrueLook book (record { seen = seen; work = work }) → IsTrueLook book (record { seen = seen; work = other })
true-alike book seen work other same one = record {
  known = ap (λ (v : GroupView). is_group book.reference v.group) same ∙ one.known;
  seen = one.seen;
  view = same ∙ one.view ∙ (λ i. group_view book.reference (take seen book.history) (sym same i).group);
  nested = subst IsNested (sym same) one.nested;
}

module _ (old left : List (Option Held)) (worker : ℕ) (is_left : left ≡ slice_set old worker None) where
  -- a worker without work has none
  pub nothing-held : slice_index_or old worker None ≡ None → left ≡ old
  nothing-held at = is_left ∙ set-own old worker None at

  pub proposes-nothing : (book : BookState) → slice_index_or old worker None ≡ None → ProposesOn (look_of (state_in book old) worker) (state_in book old) worker Nothing (state_in book left)
  proposes-nothing book at =
      subst (λ (look : Option Look). ProposesOn look (state_in book old) worker Nothing (state_in book left)) (sym (look_of-held book old worker ∙ ap (option_map look_in) at))
      (refl, ap (state_in book) (nothing-held at))

  module _ (seen : ℕ) (work : Work) (at : slice_index_or old worker None ≡ Some (record { seen = seen; work = work })) where
    -- it may have its work back
    pub put-back : (new : List (Option Held)) (other : Work) → work ≡ other → new ≡ slice_set left worker (Some (record { seen = seen; work = other })) → new ≡ old
    put-back new other same put =
        put
        ∙ (λ i. slice_set (is_left i) worker (Some (record { seen = seen; work = sym same i })))
        ∙ set-twice old worker None (Some (record { seen = seen; work = work }))
        ∙ set-own old worker (Some (record { seen = seen; work = work })) at

    module _ (proposal : ProposedSweep) (new : List (Option Held)) (of_view : proposal.view ≡ view_in work) (put : new ≡ slice_set left worker (Some (record { seen = seen; work = Ready proposal }))) where
      -- a proposal is true if the view was
      pub proposal-true : (book : BookState) → AreTrue book old → AreTrue book new
      proposal-true book trues =
          subst (AreTrue book) (sym put)
          (true-put book left worker (record { seen = seen; work = Ready proposal }) (subst (AreTrue book) (sym is_left) (true-taken book old worker trues))
          (true-alike book seen work (Ready proposal) of_view (trues worker (record { seen = seen; work = work }) at)))

      -- and may be committed after what was seen
      pub proposes : (book : BookState) (lots : ℕ) → length left ≡ 64 → lots ≡ proposal.lots → IsSweepOf proposal.view (sweep_of proposal) → AreTrue book old
          → ProposesOn (look_of (state_in book old) worker) (state_in book old) worker (Proposed lots) (state_in book new)
      proposes book lots made is_lots sweeps trues =
          subst (λ (look : Option Look). ProposesOn look (state_in book old) worker (Proposed lots) (state_in book new)) (sym (look_of-held book old worker ∙ ap (option_map look_in) at)) (
          record {
            sweep = sweep_of proposal;
            own = own;
            right = record {
              known = ap (λ (v : GroupView). is_group book.reference v.group) of_view ∙ one.known;
              sweeps = subst (λ (v : GroupView). IsSweepOf v (sweep_of proposal)) same sweeps;
            };
            outcome_is = ap Proposed is_lots;
            new_is = λ i. record { book = book; looks = looks i };
          }
          )
        where
          one : IsTrueLook book (record { seen = seen; work = work })
          one = trues worker (record { seen = seen; work = work }) at

          look : Look
          look = look_by seen work

          own : proposal.view.group ≡ (look_by seen work).group
          own = ap (λ (v : GroupView). v.group) of_view ∙ sym (look_by-group seen work)

          same : proposal.view ≡ group_view book.reference (take (look_by seen work).seen book.history) proposal.view.group
          same = of_view ∙ one.view ∙ (λ i. group_view book.reference (take (sym (look_by-seen seen work) i) book.history) (sym of_view i).group)

          full : length old ≡ 64
          full = sym (length-set old worker None) ∙ ap {A = List (Option Held)} length (sym is_left) ∙ made

          looks : looks_in new ≡ slice_set (looks_in old) worker (Some (with_proposal (look_by seen work) (sweep_of proposal)))
          looks =
              ap looks_in (put ∙ ap (λ (slots : List (Option Held)). slice_set slots worker (Some (record { seen = seen; work = Ready proposal }))) is_left ∙ set-twice old worker None (Some (record { seen = seen; work = Ready proposal })))
              ∙ looks_in-put old worker (record { seen = seen; work = Ready proposal }) full
              ∙ (λ i. slice_set (looks_in old) worker (Some (record { group = own i; seen = sym (look_by-seen seen work) i; proposal = Some (sweep_of proposal) })))

-- ---- commits

module _ (old left : List (Option Held)) (worker : ℕ) (is_left : left ≡ slice_set old worker None) where
  -- without a look nothing is committed
  pub commits-nothing : (book : BookState) → slice_index_or old worker None ≡ None → (Nothing, state_in book left) ≡ committed_on (look_of (state_in book old) worker) (state_in book old) worker
  commits-nothing book at =
      subst (λ (look : Option Look). (Nothing, state_in book left) ≡ committed_on look (state_in book old) worker) (sym (look_of-held book old worker ∙ ap (option_map look_in) at))
      (λ i. (Nothing, state_in book (nothing-held old left worker is_left at i)))

  module _ (seen : ℕ) (work : Work) (at : slice_index_or old worker None ≡ Some (record { seen = seen; work = work })) where
    abbrev look_is : (book : BookState) → look_of (state_in book old) worker ≡ Some (look_by seen work)
    look_is book = look_of-held book old worker ∙ ap (option_map look_in) at

    -- nor with only a look, which stays
    pub commits-no_look : (book : BookState) (view : GroupView) (new : List (Option Held)) → work ≡ Looking view → new ≡ old → (Nothing, state_in book new) ≡ committed_on (look_of (state_in book old) worker) (state_in book old) worker
    commits-no_look book view new is same =
        subst (λ (look : Option Look). (Nothing, state_in book new) ≡ committed_on look (state_in book old) worker) (sym (look_is book ∙ ap (λ (w : Work). Some (look_by seen w)) is))
        (λ i. (Nothing, state_in book (same i)))

    -- with a proposal the look is gone, whatever the outcome
    pub commits-proposal : (book after : BookState) (proposal : ProposedSweep) (outcome : Outcome) → work ≡ Ready proposal → length left ≡ 64
        → (outcome, record { book = after; looks = slice_set (looks_in old) worker None })
        ≡ committed_for (record { book = book; looks = slice_set (looks_in old) worker None }) (look_by seen (Ready proposal)) (sweep_of proposal)
        → (outcome, state_in after left) ≡ committed_on (look_of (state_in book old) worker) (state_in book old) worker
    commits-proposal book after proposal outcome is made committed =
        subst (λ (look : Option Look). (outcome, state_in after left) ≡ committed_on look (state_in book old) worker) (sym (look_is book ∙ ap (λ (w : Work). Some (look_by seen w)) is))
        ((λ i. (outcome, record { book = after; looks = looks i })) ∙ committed)
      where
        looks : looks_in left ≡ slice_set (looks_in old) worker None
        looks = ap looks_in is_left ∙ looks_in-taken old worker (ap {A = List (Option Held)} length (sym is_left) ∙ made)

  -- the work of others stays true
  pub left-true : (book after : BookState) → Grows book after → AreTrue book old → AreTrue after left
  left-true book after grows trues = true-grown book after left grows (subst (AreTrue book) (sym is_left) (true-taken book old worker trues))
