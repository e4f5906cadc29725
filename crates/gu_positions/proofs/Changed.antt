-- Rows after the one for an account and instrument is changed: their lots, and what they keep.
use Rattle.gu_positions.proofs.Words.{◌≡◌, ◌∙◌, sym, refl, ap, subst, ℕ, ◌+◌, ◌-◌, ◌≤◌, Bool, true, false, cond, ◌&&◌, ◌||◌, List, [], ◌∷◌, map, Option, Some, None, arith, if◌then◌else◌, AllByRecursion, IsDistinct, find, list_any, sum_by, option_map_or, AccountId, Side, Buy, Sell, Symbol, same_side, same_symbol, less_in, lots_at, lots_at_side, more_in, same_place, with_less, with_more, Row, has_row, is_of, lots_in, lots_of, lots_on, open_interest_in, same_row, same_symbol-own}
use Rattle.std.proofs.lemmas.List.Sums.{sum_by-cons}
use Rattle.gu_positions.proofs.Places.{same_place-true, same_place-own}

-- the first element that passes a test passes it
pub find-passes : {X : Type 0} (test : X → Bool) (xs : List X) (x : X) → find test xs ≡ Some x → test x ≡ true
find-passes test [] x h = cc
find-passes {X} test (y ∷ xs) x h = by (test y) refl h (find-passes test xs x)
  where
    by : (b : Bool) → test y ≡ b → cond b (Some y) (find test xs) ≡ Some x → (find test xs ≡ Some x → test x ≡ true) → test x ≡ true
    by true e k rest = let one : y ≡ x = cc in ap test (sym one) ∙ e
    by false e k rest = rest k

-- an element that was found is at most the sum
pub found_within_sum : {X : Type 0} (test : X → Bool) (f : X → ℕ) (xs : List X) (x : X) → find test xs ≡ Some x → f x ≤ sum_by f xs
found_within_sum test f [] x h = cc
found_within_sum {X} test f (y ∷ xs) x h = by (test y) h (found_within_sum test f xs x)
  where
    by : (b : Bool) → cond b (Some y) (find test xs) ≡ Some x → (find test xs ≡ Some x → f x ≤ sum_by f xs) → f x ≤ sum_by f (y ∷ xs)
    by true k rest = let one : f y ≡ f x = let same : y ≡ x = cc in ap f same in omega (arith, sum_by-cons f y xs)
    by false k rest = omega (arith, sum_by-cons f y xs, rest k)

-- an element of the list is found
pub found-among : {X : Type 0} (test : X → Bool) (xs : List X) → list_any test xs ≡ true → (x : X) × (find test xs ≡ Some x)
found-among test [] h = cc
found-among {X} test (y ∷ xs) h = by (test y) h (found-among test xs)
  where
    by : (b : Bool) → (b || list_any test xs) ≡ true → (list_any test xs ≡ true → (x : X) × (find test xs ≡ Some x)) → (x : X) × (cond b (Some y) (find test xs) ≡ Some x)
    by true k rest = (y, refl)
    by false k rest = rest k

module _ (account : AccountId) (symbol : Symbol) (g : Row → Row) (keeps : (r : Row) → ((g r).account ≡ r.account) × ((g r).symbol ≡ r.symbol)) where
  -- the rows after the one for this account and instrument is changed
  abbrev pub changed : List Row → List Row
  changed rows = map (λ r. if is_of account symbol r then g r else r) rows

  -- a changed row keeps its account and instrument
  pub is_of-changed : (a : AccountId) (s : Symbol) (b : Bool) (r : Row) → is_of a s (cond b (g r) r) ≡ is_of a s r
  is_of-changed a s true r = λ i. same_place a s ((keeps r).0 i) ((keeps r).1 i)
  is_of-changed a s false r = refl

  -- the same rows are there
  pub has_row-changed : (rows : List Row) (a : AccountId) (s : Symbol) → has_row (changed rows) a s ≡ has_row rows a s
  has_row-changed [] a s = refl
  has_row-changed (r ∷ rows) a s = λ i. is_of-changed a s (is_of account symbol r) r i || has_row-changed rows a s i

  picked : (t : Side) (p q : Bool) (new old : Row) (news olds : Option Row) → p ≡ q → (q ≡ true → lots_of t new ≡ lots_of t old)
      → option_map_or (lots_of t) news 0 ≡ option_map_or (lots_of t) olds 0
      → option_map_or (lots_of t) (cond p (Some new) news) 0 ≡ option_map_or (lots_of t) (cond q (Some old) olds) 0
  picked t true true new old news olds e one rest = one refl
  picked t false false new old news olds e one rest = rest
  picked t true false new old news olds e one rest = cc
  picked t false true new old news olds e one rest = cc

  -- another account or instrument keeps its lots
  pub lots_in-others : (t : Side) (a : AccountId) (s : Symbol) → same_place account symbol a s ≡ false → (rows : List Row) → lots_in (changed rows) t a s ≡ lots_in rows t a s
  lots_in-others t a s apart [] = refl
  lots_in-others t a s apart (r ∷ rows) =
      picked t _ _ _ _ _ _ (is_of-changed a s (is_of account symbol r) r) (own (is_of account symbol r) refl) (lots_in-others t a s apart rows)
    where
      own : (b : Bool) → is_of account symbol r ≡ b → is_of a s r ≡ true → lots_of t (cond b (g r) r) ≡ lots_of t r
      own true e h =
          let here = same_place-true account symbol r.account r.symbol e in
          let there = same_place-true a s r.account r.symbol h in
          let one : same_place account symbol a s ≡ true = (λ i. same_place (here.0 i) (here.1 i) (there.0 i) (there.1 i)) ∙ same_place-own r.account r.symbol in
          cc
      own false e h = refl

  -- the lots of the account change
  pub lots_in-own : (t : Side) (f : ℕ → ℕ) → ((r : Row) → lots_of t (g r) ≡ f (lots_of t r)) → (rows : List Row) → has_row rows account symbol ≡ true
      → lots_in (changed rows) t account symbol ≡ f (lots_in rows t account symbol)
  lots_in-own t f each [] there = cc
  lots_in-own t f each (r ∷ rows) there = by (is_of account symbol r) refl there (lots_in-own t f each rows)
    where
      by : (b : Bool) → is_of account symbol r ≡ b → (b || has_row rows account symbol) ≡ true
          → (has_row rows account symbol ≡ true → lots_in (changed rows) t account symbol ≡ f (lots_in rows t account symbol))
          → option_map_or (lots_of t) (cond (is_of account symbol (cond b (g r) r)) (Some (cond b (g r) r)) (find (is_of account symbol) (changed rows))) 0
          ≡ f (option_map_or (lots_of t) (cond b (Some r) (find (is_of account symbol) rows)) 0)
      by true e h rest = rw (is_of-changed account symbol true r, e) (each r)
      by false e h rest = rw e (rest h)

  -- if a row is this one, none after it is
  pub rest_unchanged : (x : Row) (rows : List Row) → is_of account symbol x ≡ true → AllByRecursion (λ r. same_row x r ≡ false) rows → changed rows ≡ rows
  rest_unchanged x [] own apart = refl
  rest_unchanged x (r ∷ rows) own apart =
      let here = same_place-true account symbol x.account x.symbol own in
      let other : is_of account symbol r ≡ false = (λ i. same_place (here.0 i) (here.1 i) r.account r.symbol) ∙ apart.0 in
      rw (other, rest_unchanged x rows own apart.1) refl

  -- a sum over the rows changes as that row does
  pub sum_by-changed : (f : Row → ℕ) (n m : ℕ) (rows : List Row) → IsDistinct same_row rows → has_row rows account symbol ≡ true
      → ((r : Row) → find (is_of account symbol) rows ≡ Some r → f (g r) + n ≡ f r + m) → sum_by f (changed rows) + n ≡ sum_by f rows + m
  unfolding IsDistinct
  sum_by-changed f n m [] once there one = cc
  sum_by-changed f n m (r ∷ rows) once there one = by (is_of account symbol r) refl there one (sum_by-changed f n m rows once.1)
    where
      by : (b : Bool) → is_of account symbol r ≡ b → (b || has_row rows account symbol) ≡ true
          → ((x : Row) → cond b (Some r) (find (is_of account symbol) rows) ≡ Some x → f (g x) + n ≡ f x + m)
          → (has_row rows account symbol ≡ true → ((x : Row) → find (is_of account symbol) rows ≡ Some x → f (g x) + n ≡ f x + m) → sum_by f (changed rows) + n ≡ sum_by f rows + m)
          → sum_by f (cond b (g r) r ∷ changed rows) + n ≡ sum_by f (r ∷ rows) + m
      by true e h own rest =
          let same : sum_by f (changed rows) ≡ sum_by f rows = ap (sum_by f) (rest_unchanged r rows e once.0) in
          omega (arith, own r refl, same, sum_by-cons f (g r) (changed rows), sum_by-cons f r rows)
      by false e h own rest =
          omega (arith, rest h own, sum_by-cons f r (changed rows), sum_by-cons f r rows)

  apart-changed : (x y : Row) → x.account ≡ y.account → x.symbol ≡ y.symbol → (rows : List Row) → AllByRecursion (λ r. same_row y r ≡ false) rows → AllByRecursion (λ r. same_row x r ≡ false) (changed rows)
  apart-changed x y ea es [] apart = tt
  apart-changed x y ea es (r ∷ rows) apart =
      ((λ i. is_of (ea i) (es i) (cond (is_of account symbol r) (g r) r)) ∙ is_of-changed y.account y.symbol (is_of account symbol r) r ∙ apart.0, apart-changed x y ea es rows apart.1)

  -- no row occurs twice
  pub distinct-changed : (rows : List Row) → IsDistinct same_row rows → IsDistinct same_row (changed rows)
  unfolding IsDistinct
  distinct-changed [] once = tt
  distinct-changed (r ∷ rows) once = (by (is_of account symbol r), distinct-changed rows once.1)
    where
      by : (b : Bool) → AllByRecursion (λ x. same_row (cond b (g r) r) x ≡ false) (changed rows)
      by true = apart-changed (g r) r (keeps r).0 (keeps r).1 rows once.0
      by false = apart-changed r r refl refl rows once.0

-- a row with more or fewer lots keeps its account and instrument
pub keeps-more : (side : Side) (lots : ℕ) (r : Row) → ((more_in side lots r).account ≡ r.account) × ((more_in side lots r).symbol ≡ r.symbol)
keeps-more Buy lots r = (refl, refl)
keeps-more Sell lots r = (refl, refl)

pub keeps-less : (side : Side) (lots : ℕ) (r : Row) → ((less_in side lots r).account ≡ r.account) × ((less_in side lots r).symbol ≡ r.symbol)
keeps-less Buy lots r = (refl, refl)
keeps-less Sell lots r = (refl, refl)

-- the lots of a row on a side, with more of them
pub lots_of-more : (side : Side) (lots : ℕ) (t : Side) (r : Row) → lots_of t (more_in side lots r) ≡ lots_of t r + (if same_side side t then lots else 0)
lots_of-more Buy lots Buy r = refl
lots_of-more Buy lots Sell r = omega arith
lots_of-more Sell lots Buy r = omega arith
lots_of-more Sell lots Sell r = refl

-- and with fewer lots
pub lots_of-less : (side : Side) (lots : ℕ) (t : Side) (r : Row) → lots_of t (less_in side lots r) ≡ lots_of t r - (if same_side side t then lots else 0)
lots_of-less Buy lots Buy r = refl
lots_of-less Buy lots Sell r = omega arith
lots_of-less Sell lots Buy r = omega arith
lots_of-less Sell lots Sell r = refl

here : (p q : Bool) (lots : ℕ) → q ≡ true → (if p then lots else 0) ≡ (if p && q then lots else 0)
here true true lots e = refl
here false true lots e = refl
here p false lots e = cc

elsewhere : (p q : Bool) (lots : ℕ) → q ≡ false → (if p && q then lots else 0) ≡ 0
elsewhere true false lots e = refl
elsewhere false false lots e = refl
elsewhere p true lots e = cc

module _ (rows : List Row) (side : Side) (account : AccountId) (symbol : Symbol) (lots : ℕ) (there : has_row rows account symbol ≡ true) where
  -- lots are added only at their place
  pub lots_in-with_more : (t : Side) (a : AccountId) (s : Symbol) → lots_in (with_more rows side account symbol lots) t a s ≡ lots_in rows t a s + lots_at side account symbol lots t a s
  lots_in-with_more t a s = by (same_place account symbol a s) refl
    where
      by : (b : Bool) → same_place account symbol a s ≡ b → lots_in (with_more rows side account symbol lots) t a s ≡ lots_in rows t a s + lots_at side account symbol lots t a s
      by true e =
          let one = same_place-true account symbol a s e in
          let own : lots_in (with_more rows side account symbol lots) t account symbol ≡ lots_in rows t account symbol + (if same_side side t then lots else 0) =
          lots_in-own account symbol (more_in side lots) (keeps-more side lots) t (λ n. n + (if same_side side t then lots else 0)) (lots_of-more side lots t) rows there in
          (λ i. lots_in (with_more rows side account symbol lots) t (sym one.0 i) (sym one.1 i)) ∙ own
          ∙ (λ i. lots_in rows t (one.0 i) (one.1 i) + here (same_side side t) (same_place account symbol a s) lots e i)
      by false e =
          let same = lots_in-others account symbol (more_in side lots) (keeps-more side lots) t a s e rows in
          omega (arith, same, elsewhere (same_side side t) (same_place account symbol a s) lots e)

  -- lots are taken only at their place
  pub lots_in-with_less : (t : Side) (a : AccountId) (s : Symbol) → lots_in (with_less rows side account symbol lots) t a s ≡ lots_in rows t a s - lots_at side account symbol lots t a s
  lots_in-with_less t a s = by (same_place account symbol a s) refl
    where
      by : (b : Bool) → same_place account symbol a s ≡ b → lots_in (with_less rows side account symbol lots) t a s ≡ lots_in rows t a s - lots_at side account symbol lots t a s
      by true e =
          let one = same_place-true account symbol a s e in
          let own : lots_in (with_less rows side account symbol lots) t account symbol ≡ lots_in rows t account symbol - (if same_side side t then lots else 0) =
          lots_in-own account symbol (less_in side lots) (keeps-less side lots) t (λ n. n - (if same_side side t then lots else 0)) (lots_of-less side lots t) rows there in
          (λ i. lots_in (with_less rows side account symbol lots) t (sym one.0 i) (sym one.1 i)) ∙ own
          ∙ (λ i. lots_in rows t (one.0 i) (one.1 i) - here (same_side side t) (same_place account symbol a s) lots e i)
      by false e =
          let same = lots_in-others account symbol (less_in side lots) (keeps-less side lots) t a s e rows in
          omega (arith, same, elsewhere (same_side side t) (same_place account symbol a s) lots e)

-- the lots on a side of an instrument, of a row with more of them
more_on : (side : Side) (lots : ℕ) (t : Side) (p : Bool) (r : Row)
    → (if p then lots_of t (more_in side lots r) else 0) + 0 ≡ (if p then lots_of t r else 0) + (if same_side side t && p then lots else 0)
more_on Buy lots Buy true r = omega arith
more_on Buy lots Sell true r = omega arith
more_on Sell lots Buy true r = omega arith
more_on Sell lots Sell true r = omega arith
more_on Buy lots Buy false r = refl
more_on Buy lots Sell false r = refl
more_on Sell lots Buy false r = refl
more_on Sell lots Sell false r = refl

-- and with fewer lots
less_on : (side : Side) (lots : ℕ) (t : Side) (p : Bool) (r : Row) → lots ≤ lots_of side r
    → (if p then lots_of t (less_in side lots r) else 0) + (if same_side side t && p then lots else 0) ≡ (if p then lots_of t r else 0) + 0
less_on Buy lots Buy true r h = omega arith
less_on Buy lots Sell true r h = omega arith
less_on Sell lots Buy true r h = omega arith
less_on Sell lots Sell true r h = omega arith
less_on Buy lots Buy false r h = refl
less_on Buy lots Sell false r h = refl
less_on Sell lots Buy false r h = refl
less_on Sell lots Sell false r h = refl

module _ (rows : List Row) (side : Side) (account : AccountId) (symbol : Symbol) (lots : ℕ) (once : IsDistinct same_row rows) (there : has_row rows account symbol ≡ true) where
  of_symbol : (r : Row) → find (is_of account symbol) rows ≡ Some r → symbol ≡ r.symbol
  of_symbol r at = (same_place-true account symbol r.account r.symbol (find-passes (is_of account symbol) rows r at)).1

  -- lots are added only on their side of the instrument
  pub lots_on-with_more : (t : Side) (s : Symbol) → lots_on (with_more rows side account symbol lots) t s ≡ lots_on rows t s + lots_at_side side symbol lots t s
  lots_on-with_more t s =
      let one : lots_on (with_more rows side account symbol lots) t s + 0 ≡ lots_on rows t s + lots_at_side side symbol lots t s =
      sum_by-changed account symbol (more_in side lots) (keeps-more side lots) (λ r. if same_symbol r.symbol s then lots_of t r else 0) 0 (lots_at_side side symbol lots t s) rows once there
      (λ r at. (λ i. (if same_symbol ((keeps-more side lots r).1 i) s then lots_of t (more_in side lots r) else 0) + 0)
      ∙ more_on side lots t (same_symbol r.symbol s) r
      ∙ (λ i. (if same_symbol r.symbol s then lots_of t r else 0) + lots_at_side side (sym (of_symbol r at) i) lots t s)) in
      omega (arith, one)

  -- lots are taken only on their side of the instrument
  pub lots_on-with_less : lots ≤ lots_in rows side account symbol → (t : Side) (s : Symbol)
      → lots_on (with_less rows side account symbol lots) t s + lots_at_side side symbol lots t s ≡ lots_on rows t s
  lots_on-with_less enough t s =
      let one : lots_on (with_less rows side account symbol lots) t s + lots_at_side side symbol lots t s ≡ lots_on rows t s + 0 =
      sum_by-changed account symbol (less_in side lots) (keeps-less side lots) (λ r. if same_symbol r.symbol s then lots_of t r else 0) (lots_at_side side symbol lots t s) 0 rows once there
      (λ r at. (λ i. (if same_symbol ((keeps-less side lots r).1 i) s then lots_of t (less_in side lots r) else 0) + lots_at_side side (of_symbol r at i) lots t s)
      ∙ less_on side lots t (same_symbol r.symbol s) r (subst (λ n. lots ≤ n) (ap (λ o. option_map_or (lots_of side) o 0) at) enough)) in
      omega (arith, one)

chosen : (p : Bool) (a b n m : ℕ) → a ≡ m → b ≡ n → (if p then a else 0) + (if p then n else 0) ≡ (if p then b else 0) + (if p then m else 0)
chosen true a b n m old new = omega arith
chosen false a b n m old new = refl

module _ (account : AccountId) (symbol : Symbol) (g : Row → Row) (keeps : (r : Row) → ((g r).account ≡ r.account) × ((g r).symbol ≡ r.symbol))
    (rows : List Row) (once : IsDistinct same_row rows) (there : has_row rows account symbol ≡ true) where
  -- the open interest changes by the change of the excess
  pub open_interest-changed : (before after : ℕ)
      → ((r : Row) → find (is_of account symbol) rows ≡ Some r → (r.long - r.short ≡ before) × ((g r).long - (g r).short ≡ after))
      → (s : Symbol) → open_interest_in (changed account symbol g keeps rows) s + (if same_symbol symbol s then before else 0) ≡ open_interest_in rows s + (if same_symbol symbol s then after else 0)
  open_interest-changed before after own s =
      sum_by-changed account symbol g keeps (λ r. if same_symbol r.symbol s then r.long - r.short else 0)
      (if same_symbol symbol s then before else 0) (if same_symbol symbol s then after else 0) rows once there
      (λ r at.
      let one = (same_place-true account symbol r.account r.symbol (find-passes (is_of account symbol) rows r at)).1 in
      (λ i. (if same_symbol ((keeps r).1 i) s then (g r).long - (g r).short else 0) + (if same_symbol (one i) s then before else 0))
      ∙ chosen (same_symbol r.symbol s) ((g r).long - (g r).short) (r.long - r.short) before after (own r at).1 (own r at).0
      ∙ (λ i. (if same_symbol r.symbol s then r.long - r.short else 0) + (if same_symbol (sym one i) s then after else 0)))

-- an account's lots are at most the total
pub lots_in-within : (rows : List Row) (t : Side) (a : AccountId) (s : Symbol) → lots_in rows t a s ≤ lots_on rows t s
lots_in-within rows t a s = by (find (is_of a s) rows) refl
  where
    by : (o : Option Row) → find (is_of a s) rows ≡ o → option_map_or (lots_of t) o 0 ≤ lots_on rows t s
    by None e = omega arith
    by (Some r) e =
        let one = (same_place-true a s r.account r.symbol (find-passes (is_of a s) rows r e)).1 in
        let own : (if same_symbol r.symbol s then lots_of t r else 0) ≡ lots_of t r =
        ap (λ b. if b then lots_of t r else 0) ((λ i. same_symbol r.symbol (one i)) ∙ same_symbol-own r.symbol) in
        omega (arith, own, found_within_sum (is_of a s) (λ x. if same_symbol x.symbol s then lots_of t x else 0) rows r e)

excess_within : (p : Bool) (long short : ℕ) → (if p then long - short else 0) ≤ (if p then long else 0)
excess_within true long short = omega arith
excess_within false long short = omega arith

-- the open interest is at most the long lots
pub open_interest-within : (rows : List Row) (s : Symbol) → open_interest_in rows s ≤ lots_on rows Buy s
open_interest-within [] s = omega arith
open_interest-within (r ∷ rows) s =
    omega (
      arith,
      open_interest-within rows s,
      excess_within (same_symbol r.symbol s) r.long r.short,
      sum_by-cons (λ x. if same_symbol x.symbol s then x.long - x.short else 0) r rows,
      sum_by-cons (λ x. if same_symbol x.symbol s then lots_of Buy x else 0) r rows,
    )

more_of_less : (side : Side) (lots : ℕ) (r : Row) → lots ≤ lots_of side r → more_in side lots (less_in side lots r) ≡ r
more_of_less Buy lots r h = let e : r.long - lots + lots ≡ r.long = omega arith in λ i. record { account = r.account; symbol = r.symbol; long = e i; short = r.short }
more_of_less Sell lots r h = let e : r.short - lots + lots ≡ r.short = omega arith in λ i. record { account = r.account; symbol = r.symbol; long = r.long; short = e i }

-- lots taken from an account and added again leave the rows unchanged
pub with_more-with_less : (side : Side) (account : AccountId) (symbol : Symbol) (lots : ℕ) (rows : List Row) → IsDistinct same_row rows → lots ≤ lots_in rows side account symbol
    → with_more (with_less rows side account symbol lots) side account symbol lots ≡ rows
unfolding IsDistinct
with_more-with_less side account symbol lots [] once enough = refl
with_more-with_less side account symbol lots (r ∷ rows) once enough =
    by (is_of account symbol r) refl enough (with_more-with_less side account symbol lots rows once.1)
  where
    by : (b : Bool) → is_of account symbol r ≡ b → lots ≤ option_map_or (lots_of side) (cond b (Some r) (find (is_of account symbol) rows)) 0
        → (lots ≤ lots_in rows side account symbol → with_more (with_less rows side account symbol lots) side account symbol lots ≡ rows)
        → with_more (cond b (less_in side lots r) r ∷ with_less rows side account symbol lots) side account symbol lots ≡ r ∷ rows
    by true e has rest =
        let own : is_of account symbol (less_in side lots r) ≡ true = (λ i. same_place account symbol ((keeps-less side lots r).0 i) ((keeps-less side lots r).1 i)) ∙ e in
        let less_rest : with_less rows side account symbol lots ≡ rows = rest_unchanged account symbol (less_in side lots) (keeps-less side lots) r rows e once.0 in
        let more_rest : with_more rows side account symbol lots ≡ rows = rest_unchanged account symbol (more_in side lots) (keeps-more side lots) r rows e once.0 in
        let first : cond (is_of account symbol (less_in side lots r)) (more_in side lots (less_in side lots r)) (less_in side lots r) ≡ r =
        (λ i. cond (own i) (more_in side lots (less_in side lots r)) (less_in side lots r)) ∙ more_of_less side lots r has in
        let others : with_more (with_less rows side account symbol lots) side account symbol lots ≡ rows = ap (λ l. with_more l side account symbol lots) less_rest ∙ more_rest in
        λ i. first i ∷ others i
    by false e has rest =
        let first : cond (is_of account symbol r) (more_in side lots r) r ≡ r = λ i. cond (e i) (more_in side lots r) r in
        λ i. first i ∷ rest has i
