-- Lots taken from offers and given back, after one more entry.
use Rattle.gu_rules.proofs.Words.{◌≡◌, ℕ, ◌+◌, ◌-◌, ◌<◌, ◌≤◌, false, List, [], ◌∷◌, ◌++◌, length, sum_by, Some, None, refl, ap, ◌∙◌, arith, length-append, sum_by_push, Day, Entry, Offer, closes, given_back_by, lines_by, moved_of, offers_of, taken_by, IsBalanced, IsNamed, entries_today, opened_day}
use Rattle.gu_rules.proofs.StandingLemmas.{IsIdle, is_shut-push, moved_of-push, offers_of-push}
use Rattle.gu_rules.proofs.Today.{entries_today-kept, entries_today-new}

-- an entry that gives back no more than was moved today
pub balanced-push : (history : List Entry) (entry : Entry) → opened_day entry ≡ None → IsBalanced history
    → ((n : ℕ) → given_back_by n entry ≤ moved_of (entries_today history) n + taken_by n entry) → IsBalanced (history ++ entry ∷ [])
balanced-push history entry none balanced less = record {
  all = λ n. omega (arith, sum_by_push (given_back_by n) history entry, sum_by_push (taken_by n) history entry, balanced.all n, balanced.today n, balanced.within n, less n);
  today = λ n.
      let today = entries_today-kept history entry none in
      let given = ap (sum_by (given_back_by n)) today in
      let taken = ap (sum_by (taken_by n)) today in
      omega (arith, given, taken, sum_by_push (given_back_by n) (entries_today history) entry, sum_by_push (taken_by n) (entries_today history) entry, balanced.today n, less n);
  within = λ n.
      let today : moved_of (entries_today (history ++ entry ∷ [])) n ≡ moved_of (entries_today history) n + taken_by n entry - given_back_by n entry =
      ap (λ (es : List Entry). moved_of es n) (entries_today-kept history entry none) ∙ moved_of-push (entries_today history) entry n (balanced.today n) in
      omega (arith, today, moved_of-push history entry n (balanced.all n), balanced.within n);
}

-- an opening
pub balanced-opened : (history : List Entry) (entry : Entry) (day : Day) → opened_day entry ≡ Some day → IsIdle entry → IsBalanced history → IsBalanced (history ++ entry ∷ [])
balanced-opened history entry day opens idle balanced = record {
  all = λ n. omega (arith, sum_by_push (given_back_by n) history entry, sum_by_push (taken_by n) history entry, balanced.all n, idle.gives n, idle.takes n);
  today = λ n.
      let today = entries_today-new history entry day opens in
      omega (arith, ap (sum_by (given_back_by n)) today, ap (sum_by (taken_by n)) today);
  within = λ n.
      let today : moved_of (entries_today (history ++ entry ∷ [])) n ≡ 0 = ap (λ (es : List Entry). moved_of es n) (entries_today-new history entry day opens) in
      omega (arith, today);
}

-- an entry that involves no offer beyond those that exist
pub named-push : (history : List Entry) (entry : Entry) → opened_day entry ≡ None → IsNamed history
    → ((n : ℕ) → length (offers_of history) < n → taken_by n entry ≡ 0) → ((n : ℕ) → length (offers_of history) < n → closes n entry ≡ false)
    → IsNamed (history ++ entry ∷ [])
named-push history entry none named takes closed =
    let more : length (offers_of (history ++ entry ∷ [])) ≡ length (offers_of history) + length (lines_by entry) =
    ap {A = List Offer} length (offers_of-push history entry) ∙ length-append (offers_of history) (lines_by entry) in
    record {
      takes = λ n beyond. omega (arith, sum_by_push (taken_by n) history entry, named.takes n (omega (arith, more, beyond)), takes n (omega (arith, more, beyond)));
      today = λ n beyond.
          ap (sum_by (taken_by n)) (entries_today-kept history entry none)
          ∙ omega (arith, sum_by_push (taken_by n) (entries_today history) entry, named.today n (omega (arith, more, beyond)), takes n (omega (arith, more, beyond)));
      closed = λ n beyond. is_shut-push history entry n ∙ rw (named.closed n (omega (arith, more, beyond)), closed n (omega (arith, more, beyond))) refl;
    }

-- an opening
pub named-opened : (history : List Entry) (entry : Entry) (day : Day) → opened_day entry ≡ Some day → IsIdle entry → IsNamed history → IsNamed (history ++ entry ∷ [])
named-opened history entry day opens idle named =
    let more : length (offers_of (history ++ entry ∷ [])) ≡ length (offers_of history) + length (lines_by entry) =
    ap {A = List Offer} length (offers_of-push history entry) ∙ length-append (offers_of history) (lines_by entry) in
    record {
      takes = λ n beyond. omega (arith, sum_by_push (taken_by n) history entry, named.takes n (omega (arith, more, beyond)), idle.takes n);
      today = λ n beyond. ap (sum_by (taken_by n)) (entries_today-new history entry day opens);
      closed = λ n beyond. is_shut-push history entry n ∙ rw (named.closed n (omega (arith, more, beyond)), idle.closed n) refl;
    }
