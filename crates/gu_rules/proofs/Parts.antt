-- A sweep has the same effect as its takes, one after another.
use Rattle.gu_rules.proofs.Words.{◌≡◌, ℕ, ◌+◌, ◌<◌, ◌==◌, List, [], ◌∷◌, ◌++◌, length, sum_by, if◌then◌else◌, refl, sym, ap, ◌∙◌, arith, append-nil, append_assoc, subst, inl, inr, cases_Bool, Decides-eqb, sum_by-append, sum_by-cons, sum_by_push, AllByRecursion, Later, Later-from_AllPairs, IsAscending, lots_of, Entry, Swept, SweepEntry, FirmId, Group, Id, LimitKey, Offer, Report, Take, Row, limit_set, part, parts, given_back_by, has_give_up, is_shut, moved_of, offers_of, standing_from, standing_of, taken_by, AreFound, AreOwn, AreWithin, IsCovered, entries_today, open_day, reports_of}
use Rattle.gu_rules.proofs.InOrder.{IsInOrder}
use Rattle.gu_rules.proofs.OrderlyLemmas.{reports_of-kept}
use Rattle.gu_rules.proofs.Quiet.{has_give_up-kept, limit_set-kept, open_day-kept}
use Rattle.gu_rules.proofs.StandingLemmas.{either-false, is_shut-push, offers_of-push}
use Rattle.gu_rules.proofs.Takers.{OnlyTakes, apart, part-takes, sweep-takes}
use Rattle.gu_rules.proofs.Today.{entries_today-kept}

-- ---- all but what is taken

-- two histories agree on everything except what is taken
pub record IsAlike (one two : List Entry) : Type 0 where
  pub day : open_day one ≡ open_day two
  pub reports : reports_of one ≡ reports_of two
  pub offers : offers_of one ≡ offers_of two
  pub give_ups : (firm : FirmId) (id : Id) → has_give_up one firm id ≡ has_give_up two firm id
  pub sets : (group : Group) (key : LimitKey) → limit_set one group key ≡ limit_set two group key
  pub given : (n : ℕ) → sum_by (given_back_by n) one ≡ sum_by (given_back_by n) two
  pub given_today : (n : ℕ) → sum_by (given_back_by n) (entries_today one) ≡ sum_by (given_back_by n) (entries_today two)
  pub shut : (n : ℕ) → is_shut one n ≡ is_shut two n

alike-self : (history : List Entry) → IsAlike history history
alike-self history = record {
  day = refl;
  reports = refl;
  offers = refl;
  give_ups = λ firm id. refl;
  sets = λ group key. refl;
  given = λ n. refl;
  given_today = λ n. refl;
  shut = λ n. refl;
}

-- agreement is transitive
alike-on : (one two three : List Entry) → IsAlike one two → IsAlike two three → IsAlike one three
alike-on one two three a b = record {
  day = a.day ∙ b.day;
  reports = a.reports ∙ b.reports;
  offers = a.offers ∙ b.offers;
  give_ups = λ firm id. a.give_ups firm id ∙ b.give_ups firm id;
  sets = λ group key. a.sets group key ∙ b.sets group key;
  given = λ n. a.given n ∙ b.given n;
  given_today = λ n. a.given_today n ∙ b.given_today n;
  shut = λ n. a.shut n ∙ b.shut n;
}

alike-back : (one two : List Entry) → IsAlike one two → IsAlike two one
alike-back one two a = record {
  day = sym a.day;
  reports = sym a.reports;
  offers = sym a.offers;
  give_ups = λ firm id. sym (a.give_ups firm id);
  sets = λ group key. sym (a.sets group key);
  given = λ n. sym (a.given n);
  given_today = λ n. sym (a.given_today n);
  shut = λ n. sym (a.shut n);
}

-- an entry that only takes
pub alike-push : (history : List Entry) (entry : Entry) → OnlyTakes entry → IsAlike (history ++ entry ∷ []) history
alike-push history entry only = record {
  day = open_day-kept history entry only.opens;
  reports = reports_of-kept history entry (only.reports (open_day history));
  offers = offers_of-push history entry ∙ ap (λ (made : List Offer). offers_of history ++ made) only.lines ∙ append-nil (offers_of history);
  give_ups = λ firm id. has_give_up-kept history entry firm id (only.gives_up firm id);
  sets = λ group key. limit_set-kept history entry group key (only.sets group key);
  given = λ n. omega (arith, sum_by_push (given_back_by n) history entry, only.gives n);
  given_today = λ n.
      ap (sum_by (given_back_by n)) (entries_today-kept history entry only.opens) ∙ omega (arith, sum_by_push (given_back_by n) (entries_today history) entry, only.gives n);
  shut = λ n. is_shut-push history entry n ∙ rw (only.closed n) (either-false (is_shut history n));
}

-- one take after another
parts-alike : (sweep : SweepEntry) (takes : List Take) (history : List Entry) → IsAlike (history ++ parts sweep takes) history
parts-alike sweep [] history = subst (λ (h : List Entry). IsAlike h history) (sym (append-nil history)) (alike-self history)
parts-alike sweep (take ∷ takes) history =
    subst (λ (h : List Entry). IsAlike h history) (append_assoc history (part sweep take ∷ []) (parts sweep takes))
    (alike-on ((history ++ part sweep take ∷ []) ++ parts sweep takes) (history ++ part sweep take ∷ []) history
    (parts-alike sweep takes (history ++ part sweep take ∷ []))
    (alike-push history (part sweep take) (part-takes sweep take).only))

-- ---- what is taken

-- the lots that all takes take from an offer
abbrev lots_in_takes : List Take → ℕ → ℕ
lots_in_takes takes n = sum_by (λ (t : Take). if t.offer == n then t.lots else 0) takes

-- one take from it
one-take : (sweep : SweepEntry) (take : Take) (n : ℕ) → taken_by n (part sweep take) ≡ (if take.offer == n then take.lots else 0)
one-take sweep take n =
    elim (cases_Bool (take.offer == n)) [
      | inl hit ↦ rw hit refl
      | inr miss ↦ rw miss refl
    ]

parts-taken : (sweep : SweepEntry) (takes : List Take) (n : ℕ) → sum_by (taken_by n) (parts sweep takes) ≡ lots_in_takes takes n
parts-taken sweep [] n = refl
parts-taken sweep (take ∷ takes) n =
    omega (
      arith,
      sum_by-cons (taken_by n) (part sweep take) (parts sweep takes),
      sum_by-cons (λ (t : Take). if t.offer == n then t.lots else 0) take takes,
      one-take sweep take n,
      parts-taken sweep takes n,
    )

-- takes from later offers take none of it
none-later : (takes : List Take) (n : ℕ) → AllByRecursion (λ (t : Take). n < t.offer) takes → lots_in_takes takes n ≡ 0
none-later [] n later = refl
none-later (take ∷ takes) n later =
    let miss : (if take.offer == n then take.lots else 0) ≡ 0 = rw (apart take.offer n (λ same. absurd (omega (arith, later.0, same)))) refl in
    omega (arith, sum_by-cons (λ (t : Take). if t.offer == n then t.lots else 0) take takes, miss, none-later takes n later.1)

-- if offers ascend, an offer has at most one take
pub lots_of-sum : (takes : List Take) (n : ℕ) → Later (λ (a b : Take). a.offer < b.offer) takes → lots_of takes n ≡ sum_by (λ (t : Take). if t.offer == n then t.lots else 0) takes
lots_of-sum [] n later = refl
lots_of-sum (take ∷ takes) n later =
    let sum = sum_by-cons (λ (t : Take). if t.offer == n then t.lots else 0) take takes in
    elim (cases_Bool (take.offer == n)) [
      | inl hit ↦
          let one : take.offer ≡ n = (Decides-eqb take.offer n).0 hit in
          let rest = none-later takes n (subst (λ (m : ℕ). AllByRecursion (λ (t : Take). m < t.offer) takes) one later.0) in
          let mine : (if take.offer == n then take.lots else 0) ≡ take.lots = rw hit refl in
          let all : lots_of (take ∷ takes) n ≡ take.lots = rw hit refl in
          omega (arith, sum, rest, mine, all)
      | inr miss ↦
          let none : (if take.offer == n then take.lots else 0) ≡ 0 = rw miss refl in
          let on : lots_of (take ∷ takes) n ≡ lots_of takes n = rw miss refl in
          omega (arith, sum, none, on, lots_of-sum takes n later.1)
    ]

-- the entries of today, after takes
parts-today : (sweep : SweepEntry) (takes : List Take) (history : List Entry) → entries_today (history ++ parts sweep takes) ≡ entries_today history ++ parts sweep takes
parts-today sweep [] history = ap entries_today (append-nil history) ∙ sym (append-nil (entries_today history))
parts-today sweep (take ∷ takes) history =
    ap entries_today (sym (append_assoc history (part sweep take ∷ []) (parts sweep takes)))
    ∙ parts-today sweep takes (history ++ part sweep take ∷ [])
    ∙ ap (λ (h : List Entry). h ++ parts sweep takes) (entries_today-kept history (part sweep take) (part-takes sweep take).only.opens)
    ∙ append_assoc (entries_today history) (part sweep take ∷ []) (parts sweep takes)

-- ---- two histories with the same result

pub record ComeToSame (one two : List Entry) : Type 0 where
  pub alike : IsAlike one two
  pub taken : (n : ℕ) → sum_by (taken_by n) one ≡ sum_by (taken_by n) two
  pub taken_today : (n : ℕ) → sum_by (taken_by n) (entries_today one) ≡ sum_by (taken_by n) (entries_today two)

-- the takes of a sweep and the sweep agree
pub parts-same : (history : List Entry) (sweep : SweepEntry) → IsAscending sweep.takes → ComeToSame (history ++ parts sweep sweep.takes) (history ++ Swept sweep ∷ [])
parts-same history sweep ascending =
    let later = Later-from_AllPairs (λ (a b : Take). a.offer < b.offer) sweep.takes ascending in
    let swept = alike-push history (Swept sweep) (sweep-takes sweep) in
    record {
      alike = alike-on (history ++ parts sweep sweep.takes) history (history ++ Swept sweep ∷ []) (parts-alike sweep sweep.takes history) (alike-back (history ++ Swept sweep ∷ []) history swept);
      taken = λ n.
          omega (
            arith,
            sum_by-append (taken_by n) history (parts sweep sweep.takes),
            parts-taken sweep sweep.takes n,
            sum_by_push (taken_by n) history (Swept sweep),
            lots_of-sum sweep.takes n later,
          );
      taken_today = λ n.
          omega (
            arith,
            ap (sum_by (taken_by n)) (parts-today sweep sweep.takes history),
            ap (sum_by (taken_by n)) (entries_today-kept history (Swept sweep) (sweep-takes sweep).opens),
            sum_by-append (taken_by n) (entries_today history) (parts sweep sweep.takes),
            parts-taken sweep sweep.takes n,
            sum_by_push (taken_by n) (entries_today history) (Swept sweep),
            lots_of-sum sweep.takes n later,
          );
    }

module _ (one two : List Entry) (same : ComeToSame one two) where
  -- the same is moved from each offer
  moved : (n : ℕ) → moved_of one n ≡ moved_of two n
  moved n = omega (arith, same.taken n, same.alike.given n)

  moved_today : (n : ℕ) → moved_of (entries_today one) n ≡ moved_of (entries_today two) n
  moved_today n = omega (arith, same.taken_today n, same.alike.given_today n)

  standing_from-same : (n : ℕ) (offers : List Offer) → standing_from one n offers ≡ standing_from two n offers
  standing_from-same n [] = refl
  standing_from-same n (offer ∷ offers) =
      let rest = standing_from-same (n + 1) offers in
      λ i. record { offer = offer; moved = moved n i; today = moved_today n i; is_shut = same.alike.shut n i } ∷ rest i

  -- the offers are the same
  pub standing_of-same : standing_of one ≡ standing_of two
  standing_of-same = standing_from-same 1 (offers_of one) ∙ ap (standing_from two 1) same.alike.offers

  count : length (offers_of two) ≡ length (offers_of one)
  count = ap {A = List Offer} length (sym same.alike.offers)

  -- if one is orderly, so is the other
  pub ordered-same : IsInOrder one → IsInOrder two
  ordered-same o =
      let reports = same.alike.reports in
      let rows = standing_of-same in
      record {
        balanced = record {
          all = λ n. omega (arith, o.balanced.all n, same.taken n, same.alike.given n);
          today = λ n. omega (arith, o.balanced.today n, same.taken_today n, same.alike.given_today n);
          within = λ n. omega (arith, o.balanced.within n, moved n, moved_today n);
        };
        named = record {
          takes = λ n beyond. sym (same.taken n) ∙ o.named.takes n (omega (arith, beyond, count));
          today = λ n beyond. sym (same.taken_today n) ∙ o.named.today n (omega (arith, beyond, count));
          closed = λ n beyond. sym (same.alike.shut n) ∙ o.named.closed n (omega (arith, beyond, count));
        };
        covered = subst (λ (rs : List Row). IsCovered (reports_of two) rs) rows (subst (λ (qs : List Report). IsCovered qs (standing_of one)) reports o.covered);
        found = subst (λ (rs : List Row). AreFound (reports_of two) rs) rows (subst (λ (qs : List Report). AreFound qs (standing_of one)) reports o.found);
        within = subst AreWithin rows o.within;
        own = subst AreOwn reports o.own;
      }
