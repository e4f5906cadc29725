-- Entries that involve one offer, and entries that involve none.
use Rattle.gu_rules.proofs.Words.{◌≡◌, ℕ, ◌+◌, ◌-◌, ◌||◌, Bool, true, false, refl, arith, AllocReject, Command, OpenDay, Refuse, Reverse, Entry, Asked, FirmId, Refusal, Refused, Reversed, Accepted, Denied, closed, reversed, Row, closes, given_back_by, taken_by}
use Rattle.gu_rules.proofs.Moved.{LeavesOthers}
use Rattle.gu_rules.proofs.StandingLemmas.{IsIdle, stepped, stepped-still}
use Rattle.gu_rules.proofs.Takers.{apart, same}

-- the entry of a refusal, and of a reversal
abbrev pub refused : FirmId → ℕ → AllocReject → ℕ → Entry
refused firm n why lots = Asked (Refuse (record { firm = firm; offer = n; why = why })) (Accepted (Refused lots))

abbrev pub taken_back : FirmId → ℕ → ℕ → Entry
taken_back firm n lots = Asked (Reverse (record { firm = firm; offer = n })) (Accepted (Reversed lots))

-- each leaves the other offers unchanged
pub refused-others : (firm : FirmId) (n : ℕ) (why : AllocReject) (lots : ℕ) → LeavesOthers (refused firm n why lots) n
refused-others firm n why lots m differ row = stepped-still (refused firm n why lots) m row refl refl (apart n m differ)

pub taken_back-others : (firm : FirmId) (n lots : ℕ) → LeavesOthers (taken_back firm n lots) n
taken_back-others firm n lots m differ row = stepped-still (taken_back firm n lots) m row refl (rw (apart n m differ) refl) (apart n m differ)

-- either, because of the second
pub either-true : (b c : Bool) → c ≡ true → (b || c) ≡ true
either-true true c h = refl
either-true false c h = h

-- its effect on its own offer
pub refused-own : (firm : FirmId) (n : ℕ) (why : AllocReject) (lots : ℕ) (row : Row) → stepped (refused firm n why lots) n row ≡ closed row
refused-own firm n why lots row =
    let moved : row.moved + 0 - 0 ≡ row.moved = omega arith in
    let today : row.today + 0 - 0 ≡ row.today = omega arith in
    let shut = either-true row.is_shut (closes n (refused firm n why lots)) (same n) in
    λ i. record { offer = row.offer; moved = moved i; today = today i; is_shut = shut i }

pub taken_back-own : (firm : FirmId) (n : ℕ) (row : Row) → stepped (taken_back firm n row.today) n row ≡ reversed row
taken_back-own firm n row =
    let gives : given_back_by n (taken_back firm n row.today) ≡ row.today = rw (same n) refl in
    let moved : row.moved + 0 - given_back_by n (taken_back firm n row.today) ≡ row.moved - row.today = omega (arith, gives) in
    let today : row.today + 0 - given_back_by n (taken_back firm n row.today) ≡ 0 = omega (arith, gives) in
    let shut = either-true row.is_shut (closes n (taken_back firm n row.today)) (same n) in
    λ i. record { offer = row.offer; moved = moved i; today = today i; is_shut = shut i }

-- a refused command, an opening, a limit, a report and a give-up involve no offer
idle : (entry : Entry) → ((n : ℕ) → taken_by n entry ≡ 0) → ((n : ℕ) → given_back_by n entry ≡ 0) → ((n : ℕ) → closes n entry ≡ false) → IsIdle entry
idle entry takes gives shut = record { takes = takes; gives = gives; closed = shut }

pub denied-idle : (command : Command) (why : Refusal) → IsIdle (Asked command (Denied why))
denied-idle (OpenDay it) why = idle _ (λ n. refl) (λ n. refl) (λ n. refl)
denied-idle command why = idle _ (λ n. refl) (λ n. refl) (λ n. refl)
