-- Looks as steps are taken.
use Rattle.gu_world.proofs.Words.{◌≡◌, ℕ, ◌<◌, ◌≤◌, Bool, true, false, nat_lt, List, [], ◌∷◌, ◌++◌, length, take, Option, Some, None, is_some, refl, sym, ap, ◌∙◌, subst, if◌then◌else◌, append-nil, inl, inr, find, option_and_then, option_map_or, cases_Bool, ltb-true, take-append-le, Entry, SweepEntry, Receipt, is_group, BookState, touching, group_view, Grows, blamed, LeadsTo, Look, ProposesOn, State, committed_for, committed_on, first_touch_above, is_full, is_overtaken, look_of, seen_history, view_seen, with_look, Outcome, Full, Nothing, Stale, Step, Enter, See, Propose, Commit}
use Rattle.gu_world.specs.declared.outcome.Outcome.TheVariants.{Swept}

-- ---- the book grows

stays : (book : BookState) → Grows book book
stays book = record { later = []; reference = refl; history = sym (append-nil book.history) }

adds : (book : BookState) (entry : Entry) → Grows book (record { reference = book.reference; history = book.history ++ entry ∷ [] })
adds book entry = record { later = entry ∷ []; reference = refl; history = refl }

either : (b : Bool) (book : BookState) (x y : Outcome × State) → Grows book x.1.book → Grows book y.1.book → Grows book (if b then x else y).1.book
either true book x y h k = h
either false book x y h k = k

proposes-grows : (look : Option Look) (old : State) (worker : ℕ) (outcome : Outcome) (new : State) → ProposesOn look old worker outcome new → Grows old.book new.book
proposes-grows None old worker outcome new h = subst (λ (s : State). Grows old.book s.book) (sym h.1) (stays old.book)
proposes-grows (Some look) old worker outcome new h = subst (λ (s : State). Grows old.book s.book) (sym h.new_is) (stays old.book)

commits-grow : (look : Option Look) (state : State) (worker : ℕ) → Grows state.book (committed_on look state worker).1.book
commits-grow None state worker = stays state.book
commits-grow (Some look) state worker = of look.proposal
  where
    of : (proposal : Option SweepEntry) → Grows state.book (option_map_or {U = Outcome × State} (committed_for (with_look state worker None) look) proposal (Nothing, state)).1.book
    of None = stays state.book
    of (Some sweep) =
        either (is_full (with_look state worker None)) state.book _ _ (stays state.book) (either (is_overtaken (with_look state worker None) look) state.book _ _ (stays state.book) (adds state.book _))

pub leads-grow : (old : State) (step : Step) (outcome : Outcome) (new : State) → LeadsTo old step outcome new → Grows old.book new.book
leads-grow old (Enter command) outcome new h =
    subst (λ (p : Outcome × State). Grows old.book p.1.book) (sym h.1) (either (is_full old) old.book _ _ (stays old.book) (adds old.book _))
leads-grow old (See worker group) outcome new h =
    subst (λ (p : Outcome × State). Grows old.book p.1.book) (sym h) (either (is_group old.book.reference group) old.book _ _ (stays old.book) (stays old.book))
leads-grow old (Propose worker) outcome new h = proposes-grows (look_of old worker) old worker outcome new h
leads-grow old (Commit worker) outcome new h = subst (λ (p : Outcome × State). Grows old.book p.1.book) (sym h) (commits-grow (look_of old worker) old worker)

-- so what was seen is unchanged
pub seen-stays : (old new : State) (step : Step) (outcome : Outcome) (look : Look) → look.seen ≤ length old.book.history → LeadsTo old step outcome new
    → (seen_history new look ≡ seen_history old look) × (view_seen new look ≡ view_seen old look)
seen-stays old new step outcome look within leads =
    let grows = leads-grow old step outcome new leads in
    let same : take look.seen new.book.history ≡ take look.seen old.book.history = ap (take look.seen) grows.history ∙ take-append-le look.seen old.book.history grows.later within in
    (same, λ i. group_view (grows.reference i) (same i) look.group)

-- ---- stale commits

-- a number found above another is greater
found-above : (n : ℕ) (ns : List ℕ) → is_some (find (nat_lt n) ns) ≡ true → (k : ℕ) × (find (nat_lt n) ns ≡ Some k) × (n < k)
found-above n [] h = cc
found-above n (m ∷ ns) h =
    elim (cases_Bool (nat_lt n m)) [
      | inl hit ↦ (m, rw hit refl, ltb-true n m hit)
      | inr miss ↦
          let rest : is_some (find (nat_lt n) ns) ≡ true = rw miss at h in
          let found = found-above n ns rest in
          (found.0, rw miss found.1, found.2)
    ]

-- a commit is stale if the look was overtaken
overtaken : (look : Option Look) (before : State) (worker seen now : ℕ) → (committed_on look before worker).0 ≡ Stale seen now → (it : Look) × (look ≡ Some it) × (is_overtaken before it ≡ true)
overtaken None before worker seen now h = cc
overtaken (Some look) before worker seen now h = of look.proposal h
  where
    of : (proposal : Option SweepEntry) → (option_map_or {U = Outcome × State} (committed_for (with_look before worker None) look) proposal (Nothing, before)).0 ≡ Stale seen now
        → (it : Look) × (Some look ≡ Some it) × (is_overtaken before it ≡ true)
    of None e = cc
    of (Some sweep) e = by (is_full before) (is_overtaken before look) refl _ _ _ _ _ _ e
      where
        by : (full touched : Bool) → is_overtaken before look ≡ touched → (x y z : State) (v w : ℕ) (r : Receipt) → (if◌then◌else◌ {A = Outcome × State} full (Full, x) (if◌then◌else◌ {A = Outcome × State} touched (Stale v w, y) (Swept r, z))).0 ≡ Stale seen now
            → (it : Look) × (Some look ≡ Some it) × (is_overtaken before it ≡ true)
        by true touched is x y z v w r e = cc
        by false true is x y z v w r e = (look, refl, is)
        by false false is x y z v w r e = cc

pub stale-blamed : (before after : State) (worker seen now : ℕ) → LeadsTo before (Commit worker) (Stale seen now) after
    → (look : Look) × (k : ℕ) × (look_of before worker ≡ Some look) × (look.seen < k) × (blamed before (Commit worker) (Stale seen now) ≡ Some k)
stale-blamed before after worker seen now leads =
    let found = overtaken (look_of before worker) before worker seen now (sym (ap (λ (p : Outcome × State). p.0) leads)) in
    let first = found-above found.0.seen (touching before.book.history found.0.group) found.2 in (
      found.0,
      first.0,
      found.1,
      first.2,
      ap (option_and_then (λ (it : Look). first_touch_above before.book.history it.group it.seen)) found.1 ∙ first.1,
    )

-- ---- looks that weren't overtaken

-- a sweep is committed only if the look wasn't overtaken
not_overtaken : (look : Option Look) (before : State) (worker : ℕ) (receipt : Receipt) → (committed_on look before worker).0 ≡ Swept receipt → (it : Look) × (look ≡ Some it) × (is_overtaken before it ≡ false)
not_overtaken None before worker receipt h = cc
not_overtaken (Some look) before worker receipt h = of look.proposal h
  where
    of : (proposal : Option SweepEntry) → (option_map_or {U = Outcome × State} (committed_for (with_look before worker None) look) proposal (Nothing, before)).0 ≡ Swept receipt
        → (it : Look) × (Some look ≡ Some it) × (is_overtaken before it ≡ false)
    of None e = cc
    of (Some sweep) e = by (is_full before) (is_overtaken before look) refl _ _ _ _ _ _ e
      where
        by : (full touched : Bool) → is_overtaken before look ≡ touched → (x y z : State) (v w : ℕ) (r : Receipt)
            → (if◌then◌else◌ {A = Outcome × State} full (Full, x) (if◌then◌else◌ {A = Outcome × State} touched (Stale v w, y) (Swept r, z))).0 ≡ Swept receipt
            → (it : Look) × (Some look ≡ Some it) × (is_overtaken before it ≡ false)
        by true touched is x y z v w r e = cc
        by false true is x y z v w r e = cc
        by false false is x y z v w r e = (look, refl, is)

pub swept-current : (before after : State) (worker : ℕ) (receipt : Receipt) → LeadsTo before (Commit worker) (Swept receipt) after
    → (look : Look) × (look_of before worker ≡ Some look) × (is_overtaken before look ≡ false)
swept-current before after worker receipt leads = not_overtaken (look_of before worker) before worker receipt (sym (ap (λ (p : Outcome × State). p.0) leads))
