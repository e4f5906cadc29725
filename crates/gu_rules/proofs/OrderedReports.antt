-- An orderly history stays orderly after one more report.
use Rattle.gu_rules.proofs.Words.{◌≡◌, false, List, Option, Some, None, is_some, refl, ◌∙◌, ℕ, true, [], ◌∷◌, sym, ap, arith, if◌then◌else◌, inl, inr, ◌++◌, ◌≤◌, Bool, cases_Bool, find-append, sum_by-cons, AllByRecursion, find, option_or, along, same_firm-own, same_firm-true, same_id-own, same_id-true, both, Entry, Report, is_of_trade, has_report, is_by, report_by, Row, counted_of, counted_under, is_of_report, standing_of, AreFound, AreOwn, IsCovered, lots_traded, report_after, Fits, opened_day, reports_of}
use Rattle.gu_terms.proofs.Found.{is_some-find}
use Rattle.gu_rules.proofs.Balanced.{balanced-push, named-push}
use Rattle.gu_rules.proofs.InOrder.{IsInOrder}
use Rattle.gu_rules.proofs.Reported.{behind-push, is_of_trade-grows}
use Rattle.gu_rules.proofs.StandingLemmas.{IsIdle}

-- a report whose id is new isn't found yet
not_found : (reports : List Report) (r : Report) → has_report reports r.firm r.id ≡ false → report_by reports r.firm r.id ≡ None
not_found reports r new = by (report_by reports r.firm r.id) (is_some-find (is_by r.firm r.id) reports ∙ new)
  where
    by : (found : Option Report) → is_some found ≡ false → found ≡ None
    by None e = refl
    by (Some q) e = cc

-- so no offer holds lots of it
unheld : (reports : List Report) (rows : List Row) (r : Report) → report_by reports r.firm r.id ≡ None → AreFound reports rows → counted_under rows r.firm r.id ≡ 0
unheld reports [] r none found = refl
unheld reports (row ∷ rows) r none found =
    let of_it : Row → ℕ = λ q. if is_of_report r.firm r.id q then counted_of q else 0 in
    omega (arith, sum_by-cons of_it row rows, one, unheld reports rows r none found.1)
  where
    one : (if is_of_report r.firm r.id row then counted_of row else 0) ≡ 0
    one =
        elim (cases_Bool (is_of_report r.firm r.id row)) [
          | inl hit ↦
              let parts = both _ _ hit in
              let firms : row.offer.firm ≡ r.firm = same_firm-true row.offer.firm r.firm parts.0 in
              let ids : row.offer.report ≡ r.id = same_id-true row.offer.report r.id parts.1 in
              let gone : report_after reports row ≡ None = (λ i. report_by reports (firms i) (ids i)) ∙ none in
              let there : is_some (report_after reports row) ≡ true = found.0 in
              let no : false ≡ true = sym (ap (λ (q : Option Report). is_some q) gone) ∙ there in cc
          | inr miss ↦ rw miss refl
        ]

pub all-push : {X : Type 0} (P : X → Type 0) (xs : List X) (x : X) → AllByRecursion P xs → P x → AllByRecursion P (xs ++ x ∷ [])
all-push P [] x all has = (has, tt)
all-push P (first ∷ xs) x all has = (all.0, all-push P xs x all.1 has)

-- no more is given up than traded
covered-push : (reports : List Report) (rows : List Row) (r : Report) → report_by reports r.firm r.id ≡ None → AreFound reports rows → IsCovered reports rows → IsCovered (reports ++ r ∷ []) rows
covered-push reports rows r none found covered =
    all-push (λ q. counted_under rows q.firm q.id ≤ lots_traded (reports ++ r ∷ []) q) reports r
    (along (λ (q : Report). counted_under rows q.firm q.id ≤ lots_traded reports q) (λ q. counted_under rows q.firm q.id ≤ lots_traded (reports ++ r ∷ []) q) reports
    (λ q h. omega (arith, h, more (is_of_trade reports q) (is_of_trade (reports ++ r ∷ []) q) q.lots (is_of_trade-grows reports r q)))
    covered)
    (omega (arith, unheld reports rows r none found))
  where
    more : (before behind : Bool) (lots : ℕ) → (before ≡ true → behind ≡ true) → (if before then lots else 0) ≤ (if behind then lots else 0)
    more true behind lots grows = rw (grows refl) (omega arith)
    more false behind lots grows = omega arith

-- each offer finds its report
found-push : (reports : List Report) (rows : List Row) (r : Report) → AreFound reports rows → AreFound (reports ++ r ∷ []) rows
found-push reports rows r found =
    along (λ (row : Row). is_some (report_after reports row) ≡ true) (λ row. is_some (report_after (reports ++ r ∷ []) row) ≡ true) rows
    (λ row h. ap (λ (q : Option Report). is_some q) (behind-push reports r row h) ∙ h) found

-- and each report finds itself
own-push : (reports : List Report) (r : Report) → report_by reports r.firm r.id ≡ None → AreOwn reports → AreOwn (reports ++ r ∷ [])
own-push reports r none own =
    all-push (λ (q : Report). report_by (reports ++ r ∷ []) q.firm q.id ≡ Some q) reports r
    (along (λ (q : Report). report_by reports q.firm q.id ≡ Some q) (λ q. report_by (reports ++ r ∷ []) q.firm q.id ≡ Some q) reports
    (λ q h. find-append (is_by q.firm q.id) reports (r ∷ []) ∙ ap (λ (found : Option Report). option_or found (find (is_by q.firm q.id) (r ∷ []))) h) own)
    (find-append (is_by r.firm r.id) reports (r ∷ []) ∙ ap (λ (found : Option Report). option_or found (find (is_by r.firm r.id) (r ∷ []))) none ∙ rw (same_firm-own r.firm, same_id-own r.id) refl)

-- an entry that accepts a report
pub ordered-reported : (history : List Entry) (entry : Entry) (r : Report) → IsInOrder history → opened_day entry ≡ None → IsIdle entry
    → Fits (reports_of history) r → reports_of (history ++ entry ∷ []) ≡ reports_of history ++ r ∷ [] → standing_of (history ++ entry ∷ []) ≡ standing_of history → IsInOrder (history ++ entry ∷ [])
ordered-reported history entry r o opens idle fits taken rows =
    let none = not_found (reports_of history) r fits.new_id in
    record {
      balanced = balanced-push history entry opens o.balanced (λ n. omega (arith, idle.gives n));
      named = named-push history entry opens o.named (λ n beyond. idle.takes n) (λ n beyond. idle.closed n);
      covered = rw (taken, rows) (covered-push (reports_of history) (standing_of history) r none o.found o.covered);
      found = rw (taken, rows) (found-push (reports_of history) (standing_of history) r o.found);
      within = rw rows o.within;
      own = rw taken (own-push (reports_of history) r none o.own);
    }
