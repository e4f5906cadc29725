-- Outcomes as a world stores them: the stored form gives them back, however many entries follow.
use Rattle.gu_world.proofs.Words.{◌≡◌, ℕ, zero, suc, ◌+◌, ◌≤◌, arith, Bool, true, false, List, [], ◌∷◌, ◌++◌, length, map, Option, Some, None, refl, sym, ap, subst, ◌∙◌, get_or, if◌then◌else◌, slice_get, option_map_or, map-append, All-push, Entry, Swept as SweptEntry, SweepEntry, is_group, Grows, AreNumbered, IsNumbered, kept_of, outcome_in, LeadsTo, Look, ProposesOn, State, committed_for, committed_on, is_full, is_overtaken, look_of, next_receipt, with_entry, with_look, Outcome, Full, NoGroup, Nothing, Proposed, KeptOutcome, Step, Enter, See, Propose, Commit}
use Rattle.std.proofs.lemmas.List.{length-append}
use Rattle.gu_terms.specs.Histories.{entry_at}
use Rattle.gu_world.specs.declared.outcome.Outcome.TheVariants.{Asked, Swept}
use Rattle.gu_world.specs.declared.outcomes.KeptOutcome.TheVariants as kept
use Rattle.gu_world.proofs.LookLemmas.{leads-grow}

-- an entry stays at its index
slice_get-front : (history more : List Entry) (place : ℕ) → suc place ≤ length history → slice_get (history ++ more) place ≡ slice_get history place
slice_get-front [] more place within = absurd (omega (arith, within))
slice_get-front (e ∷ history) more zero within = refl
slice_get-front (e ∷ history) more (suc place) within = slice_get-front history more place (omega (arith, within))

entry_at-front : (history more : List Entry) (n : ℕ) → n ≤ length history → entry_at (history ++ more) n ≡ entry_at history n
entry_at-front history more zero within = refl
entry_at-front history more (suc place) within = slice_get-front history more place within

entry_at-last : (history : List Entry) (entry : Entry) → entry_at (history ++ entry ∷ []) (length history + 1) ≡ Some entry
entry_at-last history entry = ap (entry_at (history ++ entry ∷ [])) next ∙ at history
  where
    next : length history + 1 ≡ suc (length history)
    next = omega arith

    at : (front : List Entry) → slice_get (front ++ entry ∷ []) (length front) ≡ Some entry
    at [] = refl
    at (e ∷ front) = at front

outcome_in-front : (history more : List Entry) (k : KeptOutcome) → IsNumbered (length history) k → outcome_in (history ++ more) k ≡ outcome_in history k
outcome_in-front history more (kept.Asked n) h = ap (λ (found : Option Entry). option_map_or (λ (e : Entry). Asked (record { number = n; entry = e })) found Nothing) (entry_at-front history more n h.1)
outcome_in-front history more (kept.Swept n) h = ap (λ (found : Option Entry). option_map_or (λ (e : Entry). Swept (record { number = n; entry = e })) found Nothing) (entry_at-front history more n h.1)
outcome_in-front history more kept.Full h = refl
outcome_in-front history more (kept.Seen version) h = refl
outcome_in-front history more kept.NoGroup h = refl
outcome_in-front history more (kept.Proposed lots) h = refl
outcome_in-front history more (kept.Stale seen now) h = refl
outcome_in-front history more kept.Foreign h = refl
outcome_in-front history more kept.Nothing h = refl

outcomes-front : (history more : List Entry) (outcomes : List KeptOutcome) → AreNumbered (length history) outcomes → map (outcome_in (history ++ more)) outcomes ≡ map (outcome_in history) outcomes
outcomes-front history more [] h = refl
outcomes-front history more (k ∷ ks) h =
    ap (λ (o : Outcome). o ∷ map (outcome_in (history ++ more)) ks) (outcome_in-front history more k (h 0 k (omega arith)))
    ∙ ap (λ (os : List Outcome). outcome_in history k ∷ os) (outcomes-front history more ks (λ i d within. h (suc i) d (omega (arith, within))))

IsNumbered-more : (count more : ℕ) (k : KeptOutcome) → count ≤ more → IsNumbered count k → IsNumbered more k
IsNumbered-more count more (kept.Asked n) le h = (h.0, omega (arith, h.1, le))
IsNumbered-more count more (kept.Swept n) le h = (h.0, omega (arith, h.1, le))
IsNumbered-more count more kept.Full le h = tt
IsNumbered-more count more (kept.Seen version) le h = tt
IsNumbered-more count more kept.NoGroup le h = tt
IsNumbered-more count more (kept.Proposed lots) le h = tt
IsNumbered-more count more (kept.Stale seen now) le h = tt
IsNumbered-more count more kept.Foreign le h = tt
IsNumbered-more count more kept.Nothing le h = tt

-- the stored form of an outcome gives it back, from the entries of a state
pub record IsToldBy (outcome : Outcome) (state : State) : Type 0 where
  pub back : outcome_in state.book.history (kept_of outcome) ≡ outcome
  pub numbered : IsNumbered (length state.book.history) (kept_of outcome)

abbrev IsTold : Outcome × State → Type 0
IsTold end = IsToldBy end.0 end.1

-- for an outcome without an entry
no_entry : (outcome : Outcome) (state : State) → ((history : List Entry) → outcome_in history (kept_of outcome) ≡ outcome) → ((count : ℕ) → IsNumbered count (kept_of outcome)) → IsToldBy outcome state
no_entry outcome state back numbered = record { back = back state.book.history; numbered = numbered (length state.book.history) }

-- for a receipt
asked_entry : (old : State) (entry : Entry) → IsTold (Asked (next_receipt old entry), with_entry old entry)
asked_entry old entry = record {
  back = ap (λ (found : Option Entry). option_map_or (λ (e : Entry). Asked (record { number = length old.book.history + 1; entry = e })) found Nothing) (entry_at-last old.book.history entry);
  numbered = (omega arith, omega (arith, length-append old.book.history (entry ∷ [])));
}

swept_entry : (old : State) (entry : Entry) → IsTold (Swept (next_receipt old entry), with_entry old entry)
swept_entry old entry = record {
  back = ap (λ (found : Option Entry). option_map_or (λ (e : Entry). Swept (record { number = length old.book.history + 1; entry = e })) found Nothing) (entry_at-last old.book.history entry);
  numbered = (omega arith, omega (arith, length-append old.book.history (entry ∷ [])));
}

either : (b : Bool) (x y : Outcome × State) → IsTold x → IsTold y → IsTold (if b then x else y)
either true x y h k = h
either false x y h k = k

committed_on-told : (look : Option Look) (state : State) (worker : ℕ) → IsTold (committed_on look state worker)
committed_on-told None state worker = no_entry Nothing state (λ history. refl) (λ count. tt)
committed_on-told (Some look) state worker = of look.proposal
  where
    of : (proposal : Option SweepEntry) → IsTold (option_map_or {U = Outcome × State} (committed_for (with_look state worker None) look) proposal (Nothing, state))
    of None = no_entry Nothing state (λ history. refl) (λ count. tt)
    of (Some sweep) =
        either (is_full (with_look state worker None)) _ _ (no_entry Full (with_look state worker None) (λ history. refl) (λ count. tt))
        (either (is_overtaken (with_look state worker None) look) _ _ (no_entry _ (with_look state worker None) (λ history. refl) (λ count. tt)) (swept_entry (with_look state worker None) (SweptEntry sweep)))

proposes-told : (look : Option Look) (old : State) (worker : ℕ) (outcome : Outcome) (new : State) → ProposesOn look old worker outcome new → IsToldBy outcome new
proposes-told None old worker outcome new h = subst (λ (o : Outcome). IsToldBy o new) (sym h.0) (no_entry Nothing new (λ history. refl) (λ count. tt))
proposes-told (Some look) old worker outcome new h =
    subst (λ (o : Outcome). IsToldBy o new) (sym h.outcome_is) (no_entry (Proposed h.sweep.lots) new (λ history. refl) (λ count. tt))

pub leads-told : (old : State) (step : Step) (outcome : Outcome) (new : State) → LeadsTo old step outcome new → IsToldBy outcome new
leads-told old (Enter command) outcome new h = subst IsTold (sym h.1) (either (is_full old) _ _ (no_entry Full old (λ history. refl) (λ count. tt)) (asked_entry old _))
leads-told old (See worker group) outcome new h =
    subst IsTold (sym h) (either (is_group old.book.reference group) _ _ (no_entry _ _ (λ history. refl) (λ count. tt)) (no_entry NoGroup old (λ history. refl) (λ count. tt)))
leads-told old (Propose worker) outcome new h = proposes-told (look_of old worker) old worker outcome new h
leads-told old (Commit worker) outcome new h = subst IsTold (sym h) (committed_on-told (look_of old worker) old worker)

-- the outcomes so far, and that of one more step
module _ (outcomes : List KeptOutcome) (old : State) (step : Step) (outcome : Outcome) (new : State) (leads : LeadsTo old step outcome new)
    (numbered : AreNumbered (length old.book.history) outcomes) where
  told : IsToldBy outcome new
  told = leads-told old step outcome new leads

  grows : Grows old.book new.book
  grows = leads-grow old step outcome new leads

  pub outcomes-one_more : map (outcome_in new.book.history) (outcomes ++ kept_of outcome ∷ []) ≡ map (outcome_in old.book.history) outcomes ++ outcome ∷ []
  outcomes-one_more =
      map-append (outcome_in new.book.history) outcomes (kept_of outcome ∷ [])
      ∙ ap (λ (o : Outcome). map (outcome_in new.book.history) outcomes ++ o ∷ []) told.back
      ∙ ap (λ (history : List Entry). map (outcome_in history) outcomes ++ outcome ∷ []) grows.history
      ∙ ap (λ (os : List Outcome). os ++ outcome ∷ []) (outcomes-front old.book.history grows.later outcomes numbered)

  pub numbered-one_more : AreNumbered (length new.book.history) (outcomes ++ kept_of outcome ∷ [])
  numbered-one_more =
      let longer : length old.book.history ≤ length new.book.history = omega (arith, ap length grows.history, length-append old.book.history grows.later) in
      All-push (IsNumbered (length new.book.history)) outcomes (kept_of outcome)
      (λ i d within. IsNumbered-more (length old.book.history) (length new.book.history) (get_or outcomes i d) longer (numbered i d within)) told.numbered
