-- The effect of one more report.
use Rattle.gu_rules.proofs.Words.{◌≡◌, ℕ, ◌+◌, ◌≤◌, ◌&&◌, nat_le, Bool, true, false, List, [], ◌∷◌, ◌++◌, length, filter, sum_by, Option, Some, None, is_some, refl, sym, ap, ◌∙◌, arith, append-nil, length-append, if◌then◌else◌, inl, inr, find, option_or, cases_Bool, le-leb, leb-true, filter-append, find-append, sum_by-append, sum_by-cons, same_id-own, same_id-true, same_id-turned, same_account, same_id, same_side, same_symbol, AccountId, Id, Report, Side, Symbol, sum_by-add, sum_by-agree, is_of_trade, is_by, with_match, lots_at, Row, AreFound, brought, is_from, is_on, moved_into, moved_out, report_after, traded}

-- the reports with a match id, after one more report
with_match-push : (match_id : Id) (reports : List Report) (r : Report) → with_match match_id (reports ++ r ∷ []) ≡ with_match match_id reports ++ (if same_id r.match_id match_id then r ∷ [] else [])
with_match-push match_id reports r =
    filter-append (λ (q : Report). same_id q.match_id match_id) reports (r ∷ [])
    ∙ elim (cases_Bool (same_id r.match_id match_id)) [
      | inl hit ↦ rw hit refl
      | inr miss ↦ rw miss refl
    ]

-- a report with another match id is a side of a trade if it was before
other_trade : (reports : List Report) (r q : Report) → same_id q.match_id r.match_id ≡ false → is_of_trade (reports ++ r ∷ []) q ≡ is_of_trade reports q
other_trade reports r q miss =
    ap (λ (with : List Report). nat_le 2 (length with)) (with_match-push q.match_id reports r ∙ rw (same_id-turned r.match_id q.match_id, miss) (append-nil (with_match q.match_id reports)))

-- one with the same match id, together with those that had it before
one_trade : (reports : List Report) (r q : Report) → same_id q.match_id r.match_id ≡ true → is_of_trade (reports ++ r ∷ []) q ≡ nat_le 2 (length (with_match r.match_id reports ++ r ∷ []))
one_trade reports r q hit =
    let ids : q.match_id ≡ r.match_id = same_id-true q.match_id r.match_id hit in
    ap (λ (with : List Report). nat_le 2 (length with))
    (ap (λ (id : Id). with_match id (reports ++ r ∷ [])) ids ∙ with_match-push r.match_id reports r ∙ rw (same_id-own r.match_id) refl)

was_trade : (reports : List Report) (r q : Report) → same_id q.match_id r.match_id ≡ true → is_of_trade reports q ≡ nat_le 2 (length (with_match r.match_id reports))
was_trade reports r q hit =
    let ids : q.match_id ≡ r.match_id = same_id-true q.match_id r.match_id hit in
    ap (λ (id : Id). nat_le 2 (length (with_match id reports))) ids

-- a side of a trade stays one
pub is_of_trade-grows : (reports : List Report) (r q : Report) → is_of_trade reports q ≡ true → is_of_trade (reports ++ r ∷ []) q ≡ true
is_of_trade-grows reports r q was =
    elim (cases_Bool (same_id q.match_id r.match_id)) [
      | inl hit ↦
          let two : 2 ≤ length (with_match r.match_id reports) = leb-true 2 (length (with_match r.match_id reports)) (sym (was_trade reports r q hit) ∙ was) in
          one_trade reports r q hit ∙ le-leb 2 (length (with_match r.match_id reports ++ r ∷ [])) (omega (arith, two, length-append (with_match r.match_id reports) (r ∷ [])))
      | inr miss ↦ other_trade reports r q miss ∙ was
    ]

-- the lots of a report on this side of this instrument, for this account
abbrev own_lots : Side → AccountId → Symbol → Report → ℕ
own_lots side account symbol q = if same_side q.side side && same_account q.account account && same_symbol q.symbol symbol then q.lots else 0

own_lots-at : (side : Side) (account : AccountId) (symbol : Symbol) (q : Report) → own_lots side account symbol q ≡ lots_at q.side q.account q.symbol q.lots side account symbol
own_lots-at side account symbol q = by (same_side q.side side) (same_account q.account account) (same_symbol q.symbol symbol) q.lots
  where
    by : (p a s : Bool) (n : ℕ) → (if (p && a) && s then n else 0) ≡ (if p && (a && s) then n else 0)
    by true a s n = refl
    by false a s n = refl

brought-traded : (reports : List Report) (side : Side) (account : AccountId) (symbol : Symbol) (q : Report) → is_of_trade reports q ≡ true → brought reports side account symbol q ≡ own_lots side account symbol q
brought-traded reports side account symbol q is = rw is (by (same_side q.side side && same_account q.account account && same_symbol q.symbol symbol) q.lots)
  where
    by : (b : Bool) (n : ℕ) → (if b && true then n else 0) ≡ (if b then n else 0)
    by true n = refl
    by false n = refl

brought-waiting : (reports : List Report) (side : Side) (account : AccountId) (symbol : Symbol) (q : Report) → is_of_trade reports q ≡ false → brought reports side account symbol q ≡ 0
brought-waiting reports side account symbol q is = rw is (by (same_side q.side side && same_account q.account account && same_symbol q.symbol symbol) q.lots)
  where
    by : (b : Bool) (n : ℕ) → (if b && false then n else 0) ≡ 0
    by true n = refl
    by false n = refl

-- a report for which none is waiting brings nothing
pub traded-opened : (reports : List Report) (r : Report) (side : Side) (account : AccountId) (symbol : Symbol) → with_match r.match_id reports ≡ []
    → traded (reports ++ r ∷ []) side account symbol ≡ traded reports side account symbol
traded-opened reports r side account symbol none =
    let new = reports ++ r ∷ [] in
    let each : (q : Report) → brought new side account symbol q ≡ brought reports side account symbol q =
    λ q. elim (cases_Bool (same_id q.match_id r.match_id)) [
      | inl hit ↦
          let waits : is_of_trade new q ≡ false = one_trade reports r q hit ∙ rw none refl in
          let waited : is_of_trade reports q ≡ false = was_trade reports r q hit ∙ rw none refl in
          brought-waiting new side account symbol q waits ∙ sym (brought-waiting reports side account symbol q waited)
      | inr miss ↦ rw (other_trade reports r q miss) refl
    ] in
    let own : brought new side account symbol r ≡ 0 = brought-waiting new side account symbol r (one_trade reports r r (same_id-own r.match_id) ∙ rw none refl) in
    omega (
      arith,
      sum_by-append (brought new side account symbol) reports (r ∷ []),
      sum_by-agree (brought new side account symbol) (brought reports side account symbol) reports each,
      own,
      sum_by-cons (brought new side account symbol) r [],
    )

-- a sum over the elements that pass
sum-filter : {X : Type 0} (test : X → Bool) (f : X → ℕ) (xs : List X) → sum_by f (filter test xs) ≡ sum_by (λ x. if test x then f x else 0) xs
sum-filter test f [] = refl
sum-filter {X} test f (x ∷ xs) =
    omega (arith, sum_by-cons (λ (y : X). if test y then f y else 0) x xs, by (test x), sum-filter test f xs)
  where
    by : (b : Bool) → sum_by f (if b then x ∷ filter test xs else filter test xs) ≡ (if b then f x else 0) + sum_by f (filter test xs)
    by true = sum_by-cons f x (filter test xs)
    by false = omega arith

-- a matched report brings its lots and those of the waiting one
pub traded-matched : (reports : List Report) (waiting r : Report) (side : Side) (account : AccountId) (symbol : Symbol) → with_match r.match_id reports ≡ waiting ∷ []
    → traded (reports ++ r ∷ []) side account symbol
    ≡ traded reports side account symbol + lots_at waiting.side waiting.account waiting.symbol waiting.lots side account symbol + lots_at r.side r.account r.symbol r.lots side account symbol
traded-matched reports waiting r side account symbol one =
    let new = reports ++ r ∷ [] in
    let extra : Report → ℕ = λ q. if same_id q.match_id r.match_id then own_lots side account symbol q else 0 in
    let each : (q : Report) → brought new side account symbol q ≡ brought reports side account symbol q + extra q =
    λ q. elim (cases_Bool (same_id q.match_id r.match_id)) [
      | inl hit ↦
          let trades : is_of_trade new q ≡ true = one_trade reports r q hit ∙ rw one refl in
          let waited : is_of_trade reports q ≡ false = was_trade reports r q hit ∙ rw one refl in
          let all : extra q ≡ own_lots side account symbol q = rw hit refl in
          omega (arith, brought-traded new side account symbol q trades, brought-waiting reports side account symbol q waited, all)
      | inr miss ↦
          let nothing : extra q ≡ 0 = rw miss refl in
          let same : brought new side account symbol q ≡ brought reports side account symbol q = rw (other_trade reports r q miss) refl in
          omega (arith, same, nothing)
    ] in
    let own : brought new side account symbol r ≡ own_lots side account symbol r = brought-traded new side account symbol r (one_trade reports r r (same_id-own r.match_id) ∙ rw one refl) in
    let waited : sum_by extra reports ≡ own_lots side account symbol waiting =
    sym (sum-filter (λ (q : Report). same_id q.match_id r.match_id) (own_lots side account symbol) reports)
    ∙ ap (sum_by (own_lots side account symbol)) one
    ∙ omega (arith, sum_by-cons (own_lots side account symbol) waiting []) in
    omega (
      arith,
      sum_by-append (brought new side account symbol) reports (r ∷ []),
      sum_by-agree (brought new side account symbol) (λ q. brought reports side account symbol q + extra q) reports each,
      sum_by-add (brought reports side account symbol) extra reports,
      own,
      waited,
      own_lots-at side account symbol waiting,
      own_lots-at side account symbol r,
      sum_by-cons (brought new side account symbol) r [],
    )

-- the report that an offer gives up is unchanged
pub behind-push : (reports : List Report) (r : Report) (row : Row) → is_some (report_after reports row) ≡ true → report_after (reports ++ r ∷ []) row ≡ report_after reports row
behind-push reports r row there =
    find-append (is_by row.offer.firm row.offer.report) reports (r ∷ []) ∙ by (report_after reports row) (find (is_by row.offer.firm row.offer.report) (r ∷ [])) there
  where
    by : (a b : Option Report) → is_some a ≡ true → option_or a b ≡ a
    by (Some q) b h = refl
    by None b h = cc

-- so lots were moved as before
pub held_in-reported : (reports : List Report) (rows : List Row) (r : Report) (side : Side) (account : AccountId) (symbol : Symbol) → AreFound reports rows
    → (moved_into (reports ++ r ∷ []) rows side account symbol ≡ moved_into reports rows side account symbol) × (moved_out (reports ++ r ∷ []) rows side account symbol ≡ moved_out reports rows side account symbol)
held_in-reported reports [] r side account symbol found = (refl, refl)
held_in-reported reports (row ∷ rows) r side account symbol found =
    let same = behind-push reports r row found.0 in
    let others = held_in-reported reports rows r side account symbol found.1 in
    let new = reports ++ r ∷ [] in
    let into : List Report → Row → ℕ = λ rs q. if is_on rs side symbol q && same_account q.offer.account account then q.moved else 0 in
    let out : List Report → Row → ℕ = λ rs q. if is_on rs side symbol q && is_from rs account q then q.moved else 0 in
    let one : into new row ≡ into reports row = rw same refl in
    let two : out new row ≡ out reports row = rw same refl in (
      omega (arith, sum_by-cons (into new) row rows, sum_by-cons (into reports) row rows, one, others.0),
      omega (arith, sum_by-cons (out new) row rows, sum_by-cons (out reports) row rows, two, others.1),
    )
