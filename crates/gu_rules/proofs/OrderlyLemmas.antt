-- What holds of every legal history still holds after one more entry.
use Rattle.gu_rules.proofs.Words.{◌≡◌, ◌≢◌, ℕ, zero, suc, ◌+◌, ◌*◌, ◌-◌, ◌<◌, ◌≤◌, true, false, List, [], ◌∷◌, ◌++◌, length, map, Option, Some, None, is_some, refl, sym, ap, ◌∙◌, arith, length-append, append-nil, subst, ◌==◌, inl, inr, cases_Bool, Decides-eqb, length-map, AllByRecursion, slice_get, slice_set, option_to_list, lots_in_all, AllocReject, Day, Entry, FirmId, Group, Line, Offer, Report, is_of_trade, report_by, changed, closed, next_day, offered, reversed, taken, with_lines, Row, counted_under, row_at, closes, given_back_by, lines_by, moved_of, offers_of, standing, standing_from, standing_of, taken_by, AreFound, AreOwn, AreWithin, IsBalanced, IsCovered, IsNamed, IsOrderly, report_after, entries_today, open_day, opened_day, report_on, reports_of}
use Rattle.gu_rules.proofs.Balanced.{balanced-opened, balanced-push, named-opened, named-push}
use Rattle.gu_rules.proofs.Covered.{covered-closed, covered-next_day, covered-reversed, covered-taken, covered-with_lines}
use Rattle.gu_rules.proofs.Growing.{reports_of-push}
use Rattle.gu_rules.proofs.InOrder.{IsInOrder, in_order, whole}
use Rattle.gu_rules.proofs.Moved.{LeavesOthers}
use Rattle.gu_rules.proofs.Spoken.{refused, refused-others, refused-own, taken_back, taken_back-others, taken_back-own}
use Rattle.gu_rules.proofs.StandingLemmas.{IsIdle, offers_of-push, stepped}
use Rattle.gu_rules.proofs.Stepping.{standing_of-idle, standing_of-lines, standing_of-one, standing_of-opened}
use Rattle.gu_rules.proofs.Takers.{TakesOne, apart, takes-others, takes-own}

-- an entry that reports nothing leaves the reports unchanged
pub reports_of-kept : (history : List Entry) (entry : Entry) → report_on (open_day history) entry ≡ None → reports_of (history ++ entry ∷ []) ≡ reports_of history
reports_of-kept history entry none =
    reports_of-push history entry ∙ ap (λ (r : Option Report). reports_of history ++ option_to_list r) none ∙ append-nil (reports_of history)

-- a property of each offer is kept when one is changed to another with it
pub all-changed : (P : Row → Type 0) (rows : List Row) (n : ℕ) (row : Row) (change : Row → Row) → row_at rows n ≡ Some row → P (change row) → AllByRecursion P rows → AllByRecursion P (changed rows n change)
all-changed P rows zero row change at has all = cc
all-changed P rows (suc place) row change at has all = rw at (set rows place all)
  where
    set : (rows : List Row) (place : ℕ) → AllByRecursion P rows → AllByRecursion P (slice_set rows place (change row))
    set [] place all = tt
    set (first ∷ rows) zero all = (has, all.1)
    set (first ∷ rows) (suc place) all = (all.0, set rows place all.1)

-- and holds of the offer with a number
pub all-at : (P : Row → Type 0) (rows : List Row) (n : ℕ) (row : Row) → row_at rows n ≡ Some row → AllByRecursion P rows → P row
all-at P rows zero row at all = cc
all-at P rows (suc place) row at all = go rows place at all
  where
    go : (rows : List Row) (place : ℕ) → slice_get rows place ≡ Some row → AllByRecursion P rows → P row
    go [] place at all = cc
    go (first ∷ rows) zero at all = let same : first ≡ row = cc in subst P same all.0
    go (first ∷ rows) (suc place) at all = go rows place at all.1

-- the offer with a number is as the history has it
pub row-is : (history : List Entry) (n : ℕ) (row : Row) → row_at (standing_of history) n ≡ Some row → row ≡ standing history n row.offer
row-is history zero row at = cc
row-is history (suc place) row at = go 1 (offers_of history) place at ∙ ap (λ (m : ℕ). standing history m row.offer) (omega arith)
  where
    go : (m : ℕ) (offers : List Offer) (place : ℕ) → slice_get (standing_from history m offers) place ≡ Some row → row ≡ standing history (m + place) row.offer
    go m [] place at = cc
    go m (offer ∷ offers) zero at =
        let same : standing history m offer ≡ row = cc in
        let offers_same : offer ≡ row.offer = ap (λ (r : Row). r.offer) same in
        sym same ∙ (λ i. standing history m (offers_same i)) ∙ ap (λ (k : ℕ). standing history k row.offer) (omega arith)
    go m (offer ∷ offers) (suc place) at = go (m + 1) offers place at ∙ ap (λ (k : ℕ). standing history k row.offer) (omega arith)

-- no more of it was moved today than in all
pub today-le-moved : (history : List Entry) (n : ℕ) (row : Row) → IsBalanced history → row_at (standing_of history) n ≡ Some row → row.today ≤ row.moved
today-le-moved history n row balanced at =
    let is = row-is history n row at in
    omega (arith, ap (λ (r : Row). r.today) is, ap (λ (r : Row). r.moved) is, balanced.within n)

-- and it is one of the existing ones
number-within : (history : List Entry) (n : ℕ) (row : Row) → row_at (standing_of history) n ≡ Some row → n ≤ length (offers_of history)
number-within history zero row at = cc
number-within history (suc place) row at = go 1 (offers_of history) place at
  where
    go : (m : ℕ) (offers : List Offer) (place : ℕ) → slice_get (standing_from history m offers) place ≡ Some row → suc place ≤ length offers
    go m [] place at = cc
    go m (offer ∷ offers) zero at = omega arith
    go m (offer ∷ offers) (suc place) at = omega (arith, go (m + 1) offers place at)

-- everything, from the reports and the offers as they are then
pub ordered : (history later : List Entry) (rows : List Row) → reports_of later ≡ reports_of history → standing_of later ≡ rows → IsBalanced later → IsNamed later
    → IsCovered (reports_of history) rows → AreFound (reports_of history) rows → AreWithin rows → AreOwn (reports_of history) → IsInOrder later
ordered history later rows reports offers balanced named covered found within own = record {
  balanced = balanced;
  named = named;
  covered = rw (reports, offers) covered;
  found = rw (reports, offers) found;
  within = rw offers within;
  own = rw reports own;
}

-- an entry that makes no offers adds none
pub few-kept : (history : List Entry) (entry : Entry) → lines_by entry ≡ [] → length (offers_of history) ≤ 16 * length history → length (offers_of (history ++ entry ∷ [])) ≤ 16 * length (history ++ entry ∷ [])
few-kept history entry nothing few =
    let same : length (offers_of (history ++ entry ∷ [])) ≡ length (offers_of history) =
    ap {A = List Offer} length (offers_of-push history entry ∙ ap (λ (made : List Offer). offers_of history ++ made) nothing ∙ append-nil (offers_of history)) in
    omega (arith, same, few, length-append history (entry ∷ []))

-- an entry that reports nothing, makes no offer, opens no day and involves no offer
pub ordered-idle : (history : List Entry) (entry : Entry) → IsInOrder history → report_on (open_day history) entry ≡ None → opened_day entry ≡ None → lines_by entry ≡ [] → IsIdle entry
    → IsInOrder (history ++ entry ∷ [])
ordered-idle history entry o unreported none nothing idle =
    ordered history (history ++ entry ∷ []) (standing_of history) (reports_of-kept history entry unreported) (standing_of-idle history entry none nothing o.balanced idle)
    (balanced-push history entry none o.balanced (λ n. omega (arith, idle.gives n)))
    (named-push history entry none o.named (λ n beyond. idle.takes n) (λ n beyond. idle.closed n))
    o.covered o.found o.within o.own

-- an opening
pub ordered-opened : (history : List Entry) (entry : Entry) (day : Day) → IsInOrder history → report_on (open_day history) entry ≡ None → opened_day entry ≡ Some day → lines_by entry ≡ [] → IsIdle entry
    → IsInOrder (history ++ entry ∷ [])
ordered-opened history entry day o unreported opens nothing idle =
    ordered history (history ++ entry ∷ []) (map next_day (standing_of history)) (reports_of-kept history entry unreported) (standing_of-opened history entry day opens nothing idle o.balanced)
    (balanced-opened history entry day opens idle o.balanced) (named-opened history entry day opens idle o.named)
    (covered-next_day (reports_of history) (standing_of history) o.covered)
    (all-next_day (λ row. is_some (report_after (reports_of history) row) ≡ true) (λ row h. h) (standing_of history) o.found)
    (all-next_day (λ row. row.moved ≤ row.offer.lots) (λ row h. h) (standing_of history) o.within)
    o.own
  where
    all-next_day : (P : Row → Type 0) → ((row : Row) → P row → P (next_day row)) → (rows : List Row) → AllByRecursion P rows → AllByRecursion P (map next_day rows)
    all-next_day P keeps [] all = tt
    all-next_day P keeps (row ∷ rows) all = (keeps row all.0, all-next_day P keeps rows all.1)

-- an entry that changes one offer, and gives back only lots moved today
ordered-one : (history : List Entry) (entry : Entry) (n : ℕ) (row : Row) (change : Row → Row) → IsInOrder history → report_on (open_day history) entry ≡ None → opened_day entry ≡ None → lines_by entry ≡ []
    → LeavesOthers entry n → row_at (standing_of history) n ≡ Some row → stepped entry n row ≡ change row
    → ((m : ℕ) → given_back_by m entry ≤ moved_of (entries_today history) m + taken_by m entry)
    → ((m : ℕ) → length (offers_of history) < m → taken_by m entry ≡ 0) → ((m : ℕ) → length (offers_of history) < m → closes m entry ≡ false)
    → IsCovered (reports_of history) (changed (standing_of history) n change) → (change row).offer ≡ row.offer → (change row).moved ≤ row.offer.lots
    → IsInOrder (history ++ entry ∷ [])
ordered-one history entry n row change o unreported none nothing others at is gives takes shut covered same less =
    ordered history (history ++ entry ∷ []) (changed (standing_of history) n change) (reports_of-kept history entry unreported)
    (standing_of-one history entry n row change none nothing o.balanced others at is)
    (balanced-push history entry none o.balanced gives) (named-push history entry none o.named takes shut) covered
    (all-changed (λ r. is_some (report_after (reports_of history) r) ≡ true) (standing_of history) n row change at
    (subst (λ (it : Offer). is_some (report_by (reports_of history) it.firm it.report) ≡ true) (sym same)
    (all-at (λ r. is_some (report_after (reports_of history) r) ≡ true) (standing_of history) n row at o.found))
    o.found)
    (all-changed (λ r. r.moved ≤ r.offer.lots) (standing_of history) n row change at (subst (λ (it : Offer). (change row).moved ≤ it.lots) (sym same) less) o.within)
    o.own

beyond-apart : (n m most : ℕ) → n ≤ most → most < m → m ≢ n
beyond-apart n m most within beyond same = absurd (omega (arith, within, beyond, same))

-- an entry that takes from an offer that isn't closed, no more than is left
pub ordered-taken : (history : List Entry) (entry : Entry) (n lots : ℕ) (row : Row) → TakesOne entry n lots → IsInOrder history → row_at (standing_of history) n ≡ Some row → row.is_shut ≡ false
    → row.moved + lots ≤ row.offer.lots → IsInOrder (history ++ entry ∷ [])
ordered-taken history entry n lots row takes o at stands less =
    let within = number-within history n row at in
    ordered-one history entry n row (taken lots) o (takes.only.reports (open_day history)) takes.only.opens takes.only.lines (takes-others entry n lots takes) at (takes-own entry n lots row takes)
    (λ m. omega (arith, takes.only.gives m))
    (λ m beyond. takes.others m (beyond-apart n m (length (offers_of history)) within beyond))
    (λ m beyond. takes.only.closed m)
    (covered-taken (reports_of history) (standing_of history) n row lots at stands o.covered) refl less

-- a refusal
pub ordered-refused : (history : List Entry) (firm : FirmId) (n : ℕ) (why : AllocReject) (lots : ℕ) (row : Row) → IsInOrder history → row_at (standing_of history) n ≡ Some row
    → IsInOrder (history ++ refused firm n why lots ∷ [])
ordered-refused history firm n why lots row o at =
    let within = number-within history n row at in
    let moved = all-at (λ r. r.moved ≤ r.offer.lots) (standing_of history) n row at o.within in
    ordered-one history (refused firm n why lots) n row closed o (unreported (open_day history)) refl refl (refused-others firm n why lots) at (refused-own firm n why lots row)
    (λ m. omega arith)
    (λ m beyond. refl)
    (λ m beyond. apart n m (beyond-apart n m (length (offers_of history)) within beyond))
    (covered-closed (reports_of history) (standing_of history) n row at moved o.covered) refl moved
  where
    unreported : (day : Option Day) → report_on day (refused firm n why lots) ≡ None
    unreported None = refl
    unreported (Some day) = refl

-- a reversal of what was moved today
pub ordered-taken_back : (history : List Entry) (firm : FirmId) (n : ℕ) (row : Row) → IsInOrder history → row_at (standing_of history) n ≡ Some row
    → IsInOrder (history ++ taken_back firm n row.today ∷ [])
ordered-taken_back history firm n row o at =
    let within = number-within history n row at in
    let moved = all-at (λ r. r.moved ≤ r.offer.lots) (standing_of history) n row at o.within in
    let today : row.today ≡ moved_of (entries_today history) n = ap (λ (r : Row). r.today) (row-is history n row at) in
    ordered-one history (taken_back firm n row.today) n row reversed o (unreported (open_day history)) refl refl (taken_back-others firm n row.today) at (taken_back-own firm n row)
    (λ m. gives m today)
    (λ m beyond. refl)
    (λ m beyond. apart n m (beyond-apart n m (length (offers_of history)) within beyond))
    (covered-reversed (reports_of history) (standing_of history) n row at moved o.covered) refl (omega (arith, moved))
  where
    unreported : (day : Option Day) → report_on day (taken_back firm n row.today) ≡ None
    unreported None = refl
    unreported (Some day) = refl

    gives : (m : ℕ) → row.today ≡ moved_of (entries_today history) n → given_back_by m (taken_back firm n row.today) ≤ moved_of (entries_today history) m + 0
    gives m today =
        elim (cases_Bool (n == m)) [
          | inl hit ↦
              let one : n ≡ m = (Decides-eqb n m).0 hit in
              let mine : given_back_by m (taken_back firm n row.today) ≡ row.today = rw hit refl in
              omega (arith, mine, today, ap (moved_of (entries_today history)) one)
          | inr miss ↦
              let none : given_back_by m (taken_back firm n row.today) ≡ 0 = rw miss refl in
              omega (arith, none)
        ]

-- a give-up of a matched report with enough free lots
pub ordered-lines : (history : List Entry) (entry : Entry) (report : Report) (group : Group) (lines : List Line) → IsInOrder history → report_on (open_day history) entry ≡ None → opened_day entry ≡ None
    → IsIdle entry
    → lines_by entry ≡ map (λ (l : Line). record { firm = report.firm; report = report.id; group = group; account = l.account; lots = l.lots }) lines
    → report_by (reports_of history) report.firm report.id ≡ Some report → is_of_trade (reports_of history) report ≡ true
    → lots_in_all lines ≤ report.lots - counted_under (standing_of history) report.firm report.id → IsInOrder (history ++ entry ∷ [])
ordered-lines history entry report group lines o unreported none idle made there matched free =
    ordered history (history ++ entry ∷ []) (with_lines (standing_of history) report.firm report.id group lines) (reports_of-kept history entry unreported)
    (standing_of-lines history entry report.firm report.id group lines none idle made o.balanced o.named)
    (balanced-push history entry none o.balanced (λ n. omega (arith, idle.gives n)))
    (named-push history entry none o.named (λ n beyond. idle.takes n) (λ n beyond. idle.closed n))
    (covered-with_lines (reports_of history) (standing_of history) report group lines there matched free o.own o.covered)
    (more (λ r. is_some (report_after (reports_of history) r) ≡ true) (λ l. ap (λ (r : Option Report). is_some r) there) (standing_of history) lines o.found)
    (more (λ r. r.moved ≤ r.offer.lots) (λ l. omega arith) (standing_of history) lines o.within)
    o.own
  where
    more : (P : Row → Type 0) → ((l : Line) → P (offered report.firm report.id group l)) → (rows : List Row) (ls : List Line) → AllByRecursion P rows
        → AllByRecursion P (rows ++ map (offered report.firm report.id group) ls)
    more P has [] [] all = tt
    more P has [] (l ∷ ls) all = (has l, more P has [] ls all)
    more P has (row ∷ rows) ls all = (all.0, more P has rows ls all.1)

-- ---- the same, with the number of offers bounded

pub orderly-idle : (history : List Entry) (entry : Entry) → IsOrderly history → report_on (open_day history) entry ≡ None → opened_day entry ≡ None → lines_by entry ≡ [] → IsIdle entry
    → IsOrderly (history ++ entry ∷ [])
orderly-idle history entry o unreported none nothing idle =
    whole (history ++ entry ∷ []) (ordered-idle history entry (in_order history o) unreported none nothing idle) (few-kept history entry nothing o.few)

pub orderly-opened : (history : List Entry) (entry : Entry) (day : Day) → IsOrderly history → report_on (open_day history) entry ≡ None → opened_day entry ≡ Some day → lines_by entry ≡ [] → IsIdle entry
    → IsOrderly (history ++ entry ∷ [])
orderly-opened history entry day o unreported opens nothing idle =
    whole (history ++ entry ∷ []) (ordered-opened history entry day (in_order history o) unreported opens nothing idle) (few-kept history entry nothing o.few)

pub orderly-taken : (history : List Entry) (entry : Entry) (n lots : ℕ) (row : Row) → TakesOne entry n lots → IsOrderly history → row_at (standing_of history) n ≡ Some row → row.is_shut ≡ false
    → row.moved + lots ≤ row.offer.lots → IsOrderly (history ++ entry ∷ [])
orderly-taken history entry n lots row takes o at stands less =
    whole (history ++ entry ∷ []) (ordered-taken history entry n lots row takes (in_order history o) at stands less) (few-kept history entry takes.only.lines o.few)

pub orderly-refused : (history : List Entry) (firm : FirmId) (n : ℕ) (why : AllocReject) (lots : ℕ) (row : Row) → IsOrderly history → row_at (standing_of history) n ≡ Some row
    → IsOrderly (history ++ refused firm n why lots ∷ [])
orderly-refused history firm n why lots row o at =
    whole (history ++ refused firm n why lots ∷ []) (ordered-refused history firm n why lots row (in_order history o) at) (few-kept history (refused firm n why lots) refl o.few)

pub orderly-taken_back : (history : List Entry) (firm : FirmId) (n : ℕ) (row : Row) → IsOrderly history → row_at (standing_of history) n ≡ Some row
    → IsOrderly (history ++ taken_back firm n row.today ∷ [])
orderly-taken_back history firm n row o at =
    whole (history ++ taken_back firm n row.today ∷ []) (ordered-taken_back history firm n row (in_order history o) at) (few-kept history (taken_back firm n row.today) refl o.few)

pub orderly-lines : (history : List Entry) (entry : Entry) (report : Report) (group : Group) (lines : List Line) → IsOrderly history → report_on (open_day history) entry ≡ None → opened_day entry ≡ None
    → IsIdle entry
    → lines_by entry ≡ map (λ (l : Line). record { firm = report.firm; report = report.id; group = group; account = l.account; lots = l.lots }) lines
    → report_by (reports_of history) report.firm report.id ≡ Some report → is_of_trade (reports_of history) report ≡ true
    → lots_in_all lines ≤ report.lots - counted_under (standing_of history) report.firm report.id → length lines ≤ 16
    → IsOrderly (history ++ entry ∷ [])
orderly-lines history entry report group lines o unreported none idle made there matched free few =
    whole (history ++ entry ∷ []) (ordered-lines history entry report group lines (in_order history o) unreported none idle made there matched free)
    (omega (arith, count, length-append history (entry ∷ []), o.few, few))
  where
    count : length (offers_of (history ++ entry ∷ [])) ≡ length (offers_of history) + length lines
    count =
        ap {A = List Offer} length (offers_of-push history entry) ∙ length-append (offers_of history) (lines_by entry)
        ∙ ap (λ (k : ℕ). length (offers_of history) + k)
        (ap {A = List Offer} length made ∙ length-map {B = Offer} lines (λ l. record { firm = report.firm; report = report.id; group = group; account = l.account; lots = l.lots }))
