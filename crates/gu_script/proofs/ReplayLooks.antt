-- Looks in a run: a worker proposes a sweep of the group that it looked at.
use Rattle.gu_script.proofs.Words.{◌≡◌, length, ◌∙◌, ◌⊎◌, ℕ, zero, suc, Bool, true, false, List, [], ◌∷◌, Option, Some, None, replicate, refl, sym, ap, subst, cond, inl, inr, slice_index_or, slice_set, option_map_or, Asked as AskedEntry, Swept as SweptEntry, SweepEntry, Group, is_group, Course, IsReached, IsRun, LeadsTo, Look, ProposesOn, State, committed_for, committed_on, is_full, is_overtaken, look_of, next_receipt, seen_history, start, with_entry, with_look, with_proposal, Outcome, Enter, See, Propose, Commit}
use Rattle.gu_terms.specs.declared.command.Command.{Command}
use Rattle.gu_terms.specs.declared.receipt.Receipt.{Receipt}
use Rattle.gu_rules.specs.Answer.{answer}
use Rattle.gu_rules.specs.Versions.{version_of}
use Rattle.gu_world.specs.declared.outcome.Outcome.TheVariants.{Asked, Full, Seen, NoGroup, Proposed, Swept, Stale, Nothing}
use Rattle.gu_world.specs.declared.step.Step.{Step}

-- ---- looks with proposals for their own groups

-- a look's proposal is for its group
abbrev pub IsOwn : Option Look → Type 0
IsOwn held = (look : Look) (sweep : SweepEntry) → held ≡ Some look → look.proposal ≡ Some sweep → sweep.group ≡ look.group

-- for each worker
abbrev pub AreOwn : List (Option Look) → Type 0
AreOwn looks = (worker : ℕ) → IsOwn (slice_index_or looks worker None)

own_none : IsOwn None
own_none look sweep is has = cc

-- a look without a proposal
own_unproposed : (held : Look) → held.proposal ≡ None → IsOwn (Some held)
own_unproposed held none look sweep is has =
    let both : None ≡ Some sweep = sym none ∙ ap (λ (h : Option Look). option_map_or (λ (l : Look). l.proposal) h None) is ∙ has in
    cc

-- a look with a proposal for its group
own_proposed : (held : Look) (proposed : SweepEntry) → held.proposal ≡ Some proposed → proposed.group ≡ held.group → IsOwn (Some held)
own_proposed held proposed has own look sweep is same =
    let looks : held ≡ look = ap (λ (h : Option Look). option_map_or (λ (l : Look). l) h held) is in
    let both : Some proposed ≡ Some sweep = sym has ∙ ap (λ (l : Look). l.proposal) looks ∙ same in
    let sweeps : proposed ≡ sweep = ap (λ (s : Option SweepEntry). option_map_or (λ (x : SweepEntry). x) s proposed) both in
    ap (λ (x : SweepEntry). x.group) (sym sweeps) ∙ own ∙ ap (λ (l : Look). l.group) looks

-- initially there is none
own_start : (n worker : ℕ) → IsOwn (slice_index_or (replicate {A = Option Look} n None) worker None)
own_start zero worker = own_none
own_start (suc n) zero = own_none
own_start (suc n) (suc worker) = own_start n worker

-- a worker has another look
own_set : (looks : List (Option Look)) (place : ℕ) (held : Option Look) → AreOwn looks → IsOwn held → (worker : ℕ) → IsOwn (slice_index_or (slice_set looks place held) worker None)
own_set [] place held own is worker = own worker
own_set (first ∷ looks) zero held own is zero = is
own_set (first ∷ looks) zero held own is (suc worker) = own (suc worker)
own_set (first ∷ looks) (suc place) held own is zero = own 0
own_set (first ∷ looks) (suc place) held own is (suc worker) = own_set looks place held (λ v. own (suc v)) is worker

-- ---- outcomes of a step

-- an outcome and a state are these
abbrev IsResult : Outcome → State → Outcome × State → Type 0
IsResult outcome new result = ◌≡◌ {A = Outcome × State} (outcome, new) result

-- a command was entered, or the book was full
abbrev pub IsEntered : State → Outcome → State → Type 0
IsEntered old outcome new = (((receipt : Receipt) × (outcome ≡ Asked receipt)) ⊎ (outcome ≡ Full)) × (new.looks ≡ old.looks)

pub step_entered : (old new : State) (command : Command) (outcome : Outcome) → LeadsTo old (Enter command) outcome new → IsEntered old outcome new
step_entered old new command outcome leads = along (is_full old) leads.1
  where
    along : (full : Bool) → IsResult outcome new (cond full (Full, old) (Asked (next_receipt old (AskedEntry command (answer old.book.reference old.book.history command))), with_entry old (AskedEntry command (answer old.book.reference old.book.history command)))) → IsEntered old outcome new
    along true is = (inr (ap (λ (p : Outcome × State). p.0) is), ap (λ (p : Outcome × State). p.1.looks) is)
    along false is = (inl (_, ap (λ (p : Outcome × State). p.0) is), ap (λ (p : Outcome × State). p.1.looks) is)

-- a worker saw its group, which is known, or the group is unknown
pub record IsSeen (old : State) (worker : ℕ) (group : Group) (outcome : Outcome) (new : State) : Type 0 where
  pub known : is_group old.book.reference group ≡ true
  pub outcome_is : (version : ℕ) × (outcome ≡ Seen version)
  pub book : new.book ≡ old.book
  pub look : (held : Look) × (held.proposal ≡ None) × (new.looks ≡ slice_set old.looks worker (Some held))

pub record IsUnseen (old : State) (group : Group) (outcome : Outcome) (new : State) : Type 0 where
  pub unknown : is_group old.book.reference group ≡ false
  pub outcome_is : outcome ≡ NoGroup
  pub same : new ≡ old

pub step_looked : (old new : State) (worker : ℕ) (group : Group) (outcome : Outcome) → LeadsTo old (See worker group) outcome new → IsSeen old worker group outcome new ⊎ IsUnseen old group outcome new
step_looked old new worker group outcome leads = along (is_group old.book.reference group) refl leads
  where
    along : (known : Bool) → is_group old.book.reference group ≡ known
        → IsResult outcome new (cond known (Seen (version_of old.book.history group), with_look old worker (Some (record { group = group; seen = length old.book.history; proposal = None }))) (NoGroup, old))
        → IsSeen old worker group outcome new ⊎ IsUnseen old group outcome new
    along true known is = inl (record {
      known = known;
      outcome_is = (_, ap (λ (p : Outcome × State). p.0) is);
      book = ap (λ (p : Outcome × State). p.1.book) is;
      look = (record { group = group; seen = length old.book.history; proposal = None }, refl, ap (λ (p : Outcome × State). p.1.looks) is);
    })
    along false unknown is = inr (record {
      unknown = unknown;
      outcome_is = ap (λ (p : Outcome × State). p.0) is;
      same = ap (λ (p : Outcome × State). p.1) is;
    })

-- a worker proposes, or it hasn't looked
pub record IsProposed (old : State) (worker : ℕ) (outcome : Outcome) (new : State) : Type 0 where
  pub outcome_is : (outcome ≡ Nothing) ⊎ ((lots : ℕ) × (outcome ≡ Proposed lots))
  pub book : new.book ≡ old.book
  pub own : AreOwn old.looks → AreOwn new.looks

pub step_proposed : (old new : State) (worker : ℕ) (outcome : Outcome) → LeadsTo old (Propose worker) outcome new → IsProposed old worker outcome new
step_proposed old new worker outcome leads = along (look_of old worker) leads
  where
    along : (held : Option Look) → ProposesOn held old worker outcome new → IsProposed old worker outcome new
    along None is = record {
      outcome_is = inl is.0;
      book = ap (λ (s : State). s.book) is.1;
      own = λ own. subst (λ (s : State). AreOwn s.looks) (sym is.1) own;
    }
    along (Some look) is = record {
      outcome_is = inr (_, is.outcome_is);
      book = ap (λ (s : State). s.book) is.new_is;
      own = λ own. subst (λ (s : State). AreOwn s.looks) (sym is.new_is)
          (own_set old.looks worker (Some (with_proposal look is.sweep)) own (own_proposed (with_proposal look is.sweep) is.sweep refl is.own));
    }

-- a worker's proposal is committed: its look wasn't overtaken
pub record IsCommitted (old : State) (worker : ℕ) (outcome : Outcome) : Type 0 where
  pub look : Look
  pub sweep : SweepEntry
  pub found : look_of old worker ≡ Some look
  pub has : look.proposal ≡ Some sweep
  pub fresh : is_overtaken old look ≡ false
  pub swept : outcome ≡ Swept (next_receipt (with_look old worker None) (SweptEntry sweep))

-- or it wasn't
abbrev pub IsUncommitted : Outcome → Type 0
IsUncommitted outcome = (outcome ≡ Nothing) ⊎ ((outcome ≡ Full) ⊎ ((seen : ℕ) × (now : ℕ) × (outcome ≡ Stale seen now)))

-- its look is gone, or it stays
abbrev pub KeepsLook : State → ℕ → State → Type 0
KeepsLook old worker new = (new.looks ≡ old.looks) ⊎ (new.looks ≡ slice_set old.looks worker None)

pub step_committed : (old new : State) (worker : ℕ) (outcome : Outcome) → LeadsTo old (Commit worker) outcome new → (IsCommitted old worker outcome ⊎ IsUncommitted outcome) × KeepsLook old worker new
step_committed old new worker outcome leads = by_look (look_of old worker) refl leads
  where
    by_test : (look : Look) (sweep : SweepEntry) → look_of old worker ≡ Some look → look.proposal ≡ Some sweep → (full overtaken : Bool) → is_overtaken old look ≡ overtaken
        → IsResult outcome new (cond full (Full, with_look old worker None)
        (cond overtaken (Stale (version_of (seen_history (with_look old worker None) look) look.group) (version_of old.book.history look.group), with_look old worker None)
        (Swept (next_receipt (with_look old worker None) (SweptEntry sweep)), with_entry (with_look old worker None) (SweptEntry sweep))))
        → (IsCommitted old worker outcome ⊎ IsUncommitted outcome) × KeepsLook old worker new
    by_test look sweep found has true overtaken at is = (inr (inr (inl (ap (λ (p : Outcome × State). p.0) is))), inr (ap (λ (p : Outcome × State). p.1.looks) is))
    by_test look sweep found has false true at is = (inr (inr (inr (_, _, ap (λ (p : Outcome × State). p.0) is))), inr (ap (λ (p : Outcome × State). p.1.looks) is))
    by_test look sweep found has false false at is =
        (inl (record { look = look; sweep = sweep; found = found; has = has; fresh = at; swept = ap (λ (p : Outcome × State). p.0) is }), inr (ap (λ (p : Outcome × State). p.1.looks) is))

    by_proposal : (look : Look) → look_of old worker ≡ Some look → (proposal : Option SweepEntry) → look.proposal ≡ proposal
        → IsResult outcome new (option_map_or (committed_for (with_look old worker None) look) proposal (Nothing, old))
        → (IsCommitted old worker outcome ⊎ IsUncommitted outcome) × KeepsLook old worker new
    by_proposal look found None has is = (inr (inl (ap (λ (p : Outcome × State). p.0) is)), inl (ap (λ (p : Outcome × State). p.1.looks) is))
    by_proposal look found (Some sweep) has is = by_test look sweep found has (is_full old) (is_overtaken old look) refl is

    by_look : (held : Option Look) → look_of old worker ≡ held → IsResult outcome new (committed_on held old worker)
        → (IsCommitted old worker outcome ⊎ IsUncommitted outcome) × KeepsLook old worker new
    by_look None found is = (inr (inl (ap (λ (p : Outcome × State). p.0) is)), inl (ap (λ (p : Outcome × State). p.1.looks) is))
    by_look (Some look) found is = by_proposal look found look.proposal refl is

-- ---- runs

own_step : (old new : State) (step : Step) (outcome : Outcome) → LeadsTo old step outcome new → AreOwn old.looks → AreOwn new.looks
own_step old new (Enter command) outcome leads own = subst AreOwn (sym (step_entered old new command outcome leads).1) own
own_step old new (See worker group) outcome leads own =
    elim (step_looked old new worker group outcome leads) [
      | inl seen ↦ subst AreOwn (sym seen.look.2) (own_set old.looks worker (Some seen.look.0) own (own_unproposed seen.look.0 seen.look.1))
      | inr unseen ↦ subst (λ (s : State). AreOwn s.looks) (sym unseen.same) own
    ]
own_step old new (Propose worker) outcome leads own = (step_proposed old new worker outcome leads).own own
own_step old new (Commit worker) outcome leads own =
    elim ((step_committed old new worker outcome leads).1) [
      | inl kept ↦ subst AreOwn (sym kept) own
      | inr gone ↦ subst AreOwn (sym gone) (own_set old.looks worker None own own_none)
    ]

own_run : (old new : State) (steps : List Step) (outcomes : List Outcome) → IsRun old steps outcomes new → AreOwn old.looks → AreOwn new.looks
own_run old new [] [] run own = subst (λ (s : State). AreOwn s.looks) (sym run) own
own_run old new [] (o ∷ outcomes) run own = absurd run
own_run old new (s ∷ steps) [] run own = absurd run
own_run old new (s ∷ steps) (o ∷ outcomes) run own = own_run run.0 new steps outcomes run.2 (own_step old run.0 s o run.1 own)

-- in any course that is reached, each proposal is for the group that its worker looked at
pub own_reached : (course : Course) → IsReached course → AreOwn course.state.looks
own_reached course reached = own_run (start course.state.book.reference) course.state reached.steps course.outcomes reached.run (own_start 64)
