-- The effect of one more entry on the offers.
use Rattle.gu_rules.proofs.Words.{◌≡◌, ℕ, zero, suc, ◌+◌, ◌<◌, false, List, [], ◌∷◌, ◌++◌, length, map, sum_by, Some, None, refl, sym, ap, ◌∙◌, arith, append-nil, subst, slice_get, slice_set, sum_by_push, Day, Entry, FirmId, Group, Id, Line, Offer, changed, next_day, offered, with_lines, Row, row_at, is_shut, lines_by, moved_of, offers_of, standing, standing_from, standing_of, taken_by, IsBalanced, IsNamed, entries_today, opened_day}
use Rattle.gu_rules.proofs.Moved.{LeavesOthers, behind}
use Rattle.gu_rules.proofs.StandingLemmas.{IsIdle, is_shut-push, moved_of-push, offers_of-push, standing_of-push, either-false, stepped, stepped_from, stepped_from-idle}
use Rattle.gu_rules.proofs.Today.{entries_today-kept, entries_today-new}

-- if one offer changes, it is replaced in its place
one_is_set : (entry : Entry) (m : ℕ) (rows : List Row) (place : ℕ) (row : Row) → LeavesOthers entry (m + place) → slice_get rows place ≡ Some row
    → stepped_from entry m rows ≡ slice_set rows place (stepped entry (m + place) row)
one_is_set entry m [] place row others at = cc
one_is_set entry m (first ∷ rows) zero row others at =
    let same : first ≡ row = cc in
    let number : m ≡ m + zero = omega arith in
    let rest = behind entry (m + zero) (m + 1) rows others (omega arith) in
    λ i. stepped entry (number i) (same i) ∷ rest i
one_is_set entry m (first ∷ rows) (suc place) row others at =
    let next : m + 1 + place ≡ m + suc place = omega arith in
    let stays = others m (λ same. absurd (omega (arith, same))) first in
    let rest = one_is_set entry (m + 1) rows place row (subst (LeavesOthers entry) (sym next) others) at
    ∙ ap (λ (k : ℕ). slice_set rows place (stepped entry k row)) next in
    λ i. stays i ∷ rest i

-- an entry that makes no offer and changes one
pub standing_of-one : (history : List Entry) (entry : Entry) (n : ℕ) (row : Row) (change : Row → Row) → opened_day entry ≡ None → lines_by entry ≡ [] → IsBalanced history
    → LeavesOthers entry n → row_at (standing_of history) n ≡ Some row → stepped entry n row ≡ change row
    → standing_of (history ++ entry ∷ []) ≡ changed (standing_of history) n change
standing_of-one history entry zero row change none nothing balanced others at is = cc
standing_of-one history entry (suc place) row change none nothing balanced others at is =
    let number : 1 + place ≡ suc place = omega arith in
    standing_of-push history entry none balanced
    ∙ ap (λ (made : List Offer). stepped_from entry 1 (standing_of history) ++ standing_from (history ++ entry ∷ []) (1 + length (offers_of history)) made) nothing
    ∙ append-nil (stepped_from entry 1 (standing_of history))
    ∙ one_is_set entry 1 (standing_of history) place row (subst (LeavesOthers entry) (sym number) others) at
    ∙ ap (λ (k : ℕ). slice_set (standing_of history) place (stepped entry k row)) number
    ∙ ap (slice_set (standing_of history) place) is
    ∙ sym (rw at refl)

-- an entry that makes no offer and changes none
pub standing_of-idle : (history : List Entry) (entry : Entry) → opened_day entry ≡ None → lines_by entry ≡ [] → IsBalanced history → IsIdle entry
    → standing_of (history ++ entry ∷ []) ≡ standing_of history
standing_of-idle history entry none nothing balanced idle =
    standing_of-push history entry none balanced
    ∙ ap (λ (made : List Offer). stepped_from entry 1 (standing_of history) ++ standing_from (history ++ entry ∷ []) (1 + length (offers_of history)) made) nothing
    ∙ append-nil (stepped_from entry 1 (standing_of history))
    ∙ stepped_from-idle entry 1 (standing_of history) idle

-- a new offer
fresh : (history : List Entry) (entry : Entry) (n : ℕ) (offer : Offer) → opened_day entry ≡ None → IsIdle entry → IsNamed history → length (offers_of history) < n
    → standing (history ++ entry ∷ []) n offer ≡ record { offer = offer; moved = 0; today = 0; is_shut = false }
fresh history entry n offer none idle named beyond =
    let took : sum_by (taken_by n) (history ++ entry ∷ []) ≡ 0 = omega (arith, sum_by_push (taken_by n) history entry, named.takes n beyond, idle.takes n) in
    let took_today : sum_by (taken_by n) (entries_today (history ++ entry ∷ [])) ≡ 0 =
    ap (sum_by (taken_by n)) (entries_today-kept history entry none)
    ∙ omega (arith, sum_by_push (taken_by n) (entries_today history) entry, named.today n beyond, idle.takes n) in
    let moved : moved_of (history ++ entry ∷ []) n ≡ 0 = omega (arith, took) in
    let today : moved_of (entries_today (history ++ entry ∷ [])) n ≡ 0 = omega (arith, took_today) in
    let shut : is_shut (history ++ entry ∷ []) n ≡ false = is_shut-push history entry n ∙ rw (named.closed n beyond, idle.closed n) refl in
    λ i. record { offer = offer; moved = moved i; today = today i; is_shut = shut i }

-- new offers
all_fresh : (history : List Entry) (entry : Entry) (n : ℕ) (firm : FirmId) (report : Id) (group : Group) (lines : List Line) → opened_day entry ≡ None → IsIdle entry → IsNamed history
    → length (offers_of history) < n
    → standing_from (history ++ entry ∷ []) n (map (λ (l : Line). record { firm = firm; report = report; group = group; account = l.account; lots = l.lots }) lines)
    ≡ map (offered firm report group) lines
all_fresh history entry n firm report group [] none idle named beyond = refl
all_fresh history entry n firm report group (line ∷ lines) none idle named beyond =
    let one = fresh history entry n (record { firm = firm; report = report; group = group; account = line.account; lots = line.lots }) none idle named beyond in
    let others = all_fresh history entry (n + 1) firm report group lines none idle named (omega (arith, beyond)) in
    λ i. one i ∷ others i

-- an entry that makes offers from lines and changes no existing one
pub standing_of-lines : (history : List Entry) (entry : Entry) (firm : FirmId) (report : Id) (group : Group) (lines : List Line) → opened_day entry ≡ None → IsIdle entry
    → lines_by entry ≡ map (λ (l : Line). record { firm = firm; report = report; group = group; account = l.account; lots = l.lots }) lines
    → IsBalanced history → IsNamed history
    → standing_of (history ++ entry ∷ []) ≡ with_lines (standing_of history) firm report group lines
standing_of-lines history entry firm report group lines none idle made balanced named =
    let beyond : length (offers_of history) < 1 + length (offers_of history) = omega arith in
    standing_of-push history entry none balanced
    ∙ ap (λ (rows : List Row). rows ++ standing_from (history ++ entry ∷ []) (1 + length (offers_of history)) (lines_by entry)) (stepped_from-idle entry 1 (standing_of history) idle)
    ∙ ap (λ (offers : List Offer). standing_of history ++ standing_from (history ++ entry ∷ []) (1 + length (offers_of history)) offers) made
    ∙ ap (λ (rows : List Row). standing_of history ++ rows) (all_fresh history entry (1 + length (offers_of history)) firm report group lines none idle named beyond)

-- an offer after a day is opened
opened : (history : List Entry) (entry : Entry) (n : ℕ) (offer : Offer) (day : Day) → opened_day entry ≡ Some day → IsIdle entry → IsBalanced history
    → standing (history ++ entry ∷ []) n offer ≡ next_day (standing history n offer)
opened history entry n offer day opens idle balanced =
    let moved : moved_of (history ++ entry ∷ []) n ≡ moved_of history n = moved_of-push history entry n (balanced.all n) ∙ omega (arith, idle.takes n, idle.gives n) in
    let today : moved_of (entries_today (history ++ entry ∷ [])) n ≡ 0 = ap (λ (es : List Entry). moved_of es n) (entries_today-new history entry day opens) in
    let shut : is_shut (history ++ entry ∷ []) n ≡ is_shut history n = is_shut-push history entry n ∙ rw (idle.closed n) (either-false (is_shut history n)) in
    λ i. record { offer = offer; moved = moved i; today = today i; is_shut = shut i }

all_opened : (history : List Entry) (entry : Entry) (n : ℕ) (offers : List Offer) (day : Day) → opened_day entry ≡ Some day → IsIdle entry → IsBalanced history
    → standing_from (history ++ entry ∷ []) n offers ≡ map next_day (standing_from history n offers)
all_opened history entry n [] day opens idle balanced = refl
all_opened history entry n (offer ∷ offers) day opens idle balanced =
    let one = opened history entry n offer day opens idle balanced in
    let others = all_opened history entry (n + 1) offers day opens idle balanced in
    λ i. one i ∷ others i

-- all offers after a day is opened
pub standing_of-opened : (history : List Entry) (entry : Entry) (day : Day) → opened_day entry ≡ Some day → lines_by entry ≡ [] → IsIdle entry → IsBalanced history
    → standing_of (history ++ entry ∷ []) ≡ map next_day (standing_of history)
standing_of-opened history entry day opens nothing idle balanced =
    ap (standing_from (history ++ entry ∷ []) 1)
    (offers_of-push history entry ∙ ap (λ (made : List Offer). offers_of history ++ made) nothing ∙ append-nil (offers_of history))
    ∙ all_opened history entry 1 (offers_of history) day opens idle balanced
