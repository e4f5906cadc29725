-- The counterpart of a report among those with its match id, and what the report adds to positions.
use Rattle.gu_book.proofs.Words.{◌≡◌, ◌+◌, ◌≤◌, Bool, true, false, List, [], ◌∷◌, Option, None, Some, unwrap_or, refl, sym, ap, ◌∙◌, arith, subst, inl, inr, if◌then◌else◌, cases_Bool, AccountId, MatchConflict, Reported, Report, Side, Symbol, KeepsLots, lots_at, lots_in, lots_on, counterpart_of, conflicts, have_other_sides, is_other_side, is_waiting, terms_of, Terms, first_standing, answer_to_match, waiting_of, HoldsMore, made_a_trade}
use Rattle.gu_positions.specs.Rows.{Row}
use Rattle.gu_trades.specs.declared.counterpart.Counterpart.TheVariants.{Conflicting, Waiting}

-- the last test of a report, given its counterpart
pub answer-met : (sides : List Report) (report : Report)
    → answer_to_match (counterpart_of sides (terms_of report)) ≡ first_standing ((conflicts sides report, MatchConflict) ∷ []) (Reported (is_waiting sides))
answer-met [] report = refl
answer-met (first ∷ []) report =
    elim (cases_Bool (have_other_sides (terms_of first) (terms_of report))) [
      | inl hit ↦ rw hit refl
      | inr miss ↦ rw miss refl
    ]
answer-met (first ∷ second ∷ more) report = refl

-- if there isn't exactly one report, none is waiting
pub nobody_waits : (sides : List Report) (terms : Terms) → is_waiting sides ≡ false → waiting_of (counterpart_of sides terms) ≡ None
nobody_waits [] terms alone = refl
nobody_waits (first ∷ []) terms alone = cc
nobody_waits (first ∷ second ∷ more) terms alone = refl

-- the result when these terms are returned if they fit
told_alone : (terms waiting : Terms) (fits : Bool) → Some waiting ≡ waiting_of (if fits then Waiting terms else Conflicting) → (terms ≡ waiting) × (fits ≡ true)
told_alone terms waiting true own = (ap (λ (t : Option Terms). unwrap_or t waiting) (sym own), refl)
told_alone terms waiting false own = cc

-- a waiting report is a report (a `cc` among reports would look into each of their fields)
somebody_waits : {A : Type 0} (waiting : Terms) → Some waiting ≡ None → A
somebody_waits waiting own = cc

-- a waiting report is alone, and is the other side
waits_alone : (sides : List Report) (report : Report) (waiting : Terms) → Some waiting ≡ waiting_of (counterpart_of sides (terms_of report))
    → (first : Report) × (sides ≡ first ∷ []) × (terms_of first ≡ waiting) × (is_other_side first report ≡ true)
waits_alone [] report waiting own = somebody_waits waiting own
waits_alone (first ∷ []) report waiting own =
    let alone = told_alone (terms_of first) waiting (have_other_sides (terms_of first) (terms_of report)) own in
    (first, refl, alone.0, alone.1)
waits_alone (first ∷ second ∷ more) report waiting own = somebody_waits waiting own

-- so is one that is found
pub waits : (sides : List Report) (report : Report) (found : Option Terms) (waiting : Terms) → found ≡ Some waiting → found ≡ waiting_of (counterpart_of sides (terms_of report))
    → (first : Report) × (sides ≡ first ∷ []) × (terms_of first ≡ waiting) × (is_other_side first report ≡ true)
waits sides report found waiting is met = waits_alone sides report waiting (sym is ∙ met)

-- if a report doesn't conflict and none is waiting, there is none
pub nobody : (sides : List Report) (report : Report) (found : Option Terms) → found ≡ None → found ≡ waiting_of (counterpart_of sides (terms_of report)) → conflicts sides report ≡ false → sides ≡ []
nobody [] report found is met fits = refl
nobody (first ∷ []) report found is met fits =
    elim (cases_Bool (have_other_sides (terms_of first) (terms_of report))) [
      | inl hit ↦ let own : found ≡ Some (terms_of first) = rw hit at met in let never : None ≡ Some (terms_of first) = sym is ∙ own in cc
      | inr miss ↦ let never : true ≡ false = rw miss at fits in cc
    ]
nobody (first ∷ second ∷ more) report found is met fits = cc

-- both sides of a trade are added
pub holds-both : (old made mid new : List Row) (sides : List Report) (report : Report) (found : Option Terms) (waiting : Terms) → found ≡ Some waiting → found ≡ waiting_of (counterpart_of sides (terms_of report)) → KeepsLots old made
    → ((on : Side) (account : AccountId) (symbol : Symbol) → lots_in mid on account symbol ≡ lots_in made on account symbol + lots_at waiting.side waiting.account waiting.symbol waiting.lots on account symbol)
    → ((on : Side) (symbol : Symbol) → lots_on mid on symbol ≤ lots_on made on symbol + 1000000)
    → ((on : Side) (account : AccountId) (symbol : Symbol) → lots_in new on account symbol ≡ lots_in mid on account symbol + lots_at report.side report.account report.symbol report.lots on account symbol)
    → ((on : Side) (symbol : Symbol) → lots_on new on symbol ≤ lots_on mid on symbol + 1000000)
    → HoldsMore old new (made_a_trade sides report)
holds-both old made mid new sides report found waiting is met same first most second more =
    let alone = waits sides report found waiting is met in
    let both : HoldsMore old new (alone.0 ∷ report ∷ []) = record {
      lots = λ on account symbol.
          let theirs : lots_at alone.0.side alone.0.account alone.0.symbol alone.0.lots on account symbol ≡ lots_at waiting.side waiting.account waiting.symbol waiting.lots on account symbol =
          ap (λ (t : Terms). lots_at t.side t.account t.symbol t.lots on account symbol) alone.2 in
          omega (arith, same.lots on account symbol, first on account symbol, second on account symbol, theirs);
      sums = λ on symbol. omega (arith, same.sums on symbol, most on symbol, more on symbol);
    } in
    subst (λ (rs : List Report). HoldsMore old new (made_a_trade rs report)) (sym alone.1) both

-- a report that opens adds nothing
pub holds-none : (rows : List Row) (sides : List Report) (report : Report) (found : Option Terms) → found ≡ None → found ≡ waiting_of (counterpart_of sides (terms_of report)) → conflicts sides report ≡ false
    → HoldsMore rows rows (made_a_trade sides report)
holds-none rows sides report found is met fits =
    subst (λ (rs : List Report). HoldsMore rows rows (made_a_trade rs report)) (sym (nobody sides report found is met fits)) (record {
      lots = λ on account symbol. omega arith;
      sums = λ on symbol. omega arith;
    })
