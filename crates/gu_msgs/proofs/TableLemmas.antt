-- Tables in which no tag has two rows.
use Rattle.gu_msgs.proofs.Words.{◌≡◌, ◌<◌, ◌≤◌, ◌&&◌, ◌==◌, not, ℕ, zero, suc, Bool, true, false, cond, List, [], ◌∷◌, length, refl, ap, sym, arith, eq-eqb, list_any, list_any_at, tag_of, AreDistinct, IsTable, row_at, body_rows, entry_rows, header_rows, outer_rows, MsgType, Heartbeat, TestRequest, ResendRequest, Reject, SequenceReset, Logout, Logon, TradeCaptureReport, AllocationInstruction, AllocationReportAck, RequestForPositions, Text, Row, Required, NO_ALLOCS, NO_EXECS, NO_SIDES}

-- no row has the tag of a later one
abbrev differ : List Row → Bool
differ [] = true
differ (row ∷ rows) = not (list_any (λ other. tag_of other == tag_of row) rows) && differ rows

both : (a b : Bool) → (a && b) ≡ true → (a ≡ true) × (b ≡ true)
both true true e = (refl, refl)
both true false e = cc
both false b e = cc

parts : (row : Row) (rows : List Row) → differ (row ∷ rows) ≡ true → (not (list_any (λ other. tag_of other == tag_of row) rows) ≡ true) × (differ rows ≡ true)
parts row rows all = both (not (list_any (λ other. tag_of other == tag_of row) rows)) (differ rows) all

-- a later row has another tag
later_differs : (row : Row) (rows : List Row) (place : ℕ) → not (list_any (λ other. tag_of other == tag_of row) rows) ≡ true → place < length rows
    → tag_of (row_at rows place) ≡ tag_of row → ⊥
later_differs row rows place none within same =
    let there = list_any_at (λ other. tag_of other == tag_of row) rows place (Required 0 Text) within (eq-eqb (tag_of (row_at rows place)) (tag_of row) same) in
    let at : (b : Bool) → b ≡ true → not b ≡ true → ⊥ = λ b. elim b as (λ v. v ≡ true → not v ≡ true → ⊥) [ true ↦ (λ e n. cc) | false ↦ (λ e n. cc) ] in
    at (list_any (λ other. tag_of other == tag_of row) rows) there none

distinct : (rows : List Row) → differ rows ≡ true → AreDistinct rows
distinct [] all i j low high same = absurd (omega (arith, low))
distinct (row ∷ rows) all zero zero low high same = refl
distinct (row ∷ rows) all zero (suc j) low high same =
    absurd (later_differs row rows j (parts row rows all).0 (omega (arith, high)) (sym same))
distinct (row ∷ rows) all (suc i) zero low high same =
    absurd (later_differs row rows i (parts row rows all).0 (omega (arith, low)) same)
distinct (row ∷ rows) all (suc i) (suc j) low high same =
    ap suc (distinct rows (parts row rows all).1 i j (omega (arith, low)) (omega (arith, high)) same)

is_table : (rows : List Row) → differ rows ≡ true → length rows ≤ 20 → IsTable rows
is_table rows all few = record { distinct = distinct rows all; few = few }

-- the header
pub header_table : IsTable header_rows
unfolding header_rows
header_table = is_table header_rows refl (omega arith)

-- everything that is read at the outer level
pub outer_table : (kind : MsgType) → IsTable (outer_rows kind)
unfolding header_rows body_rows
outer_table Heartbeat = is_table (outer_rows Heartbeat) refl (omega arith)
outer_table TestRequest = is_table (outer_rows TestRequest) refl (omega arith)
outer_table ResendRequest = is_table (outer_rows ResendRequest) refl (omega arith)
outer_table Reject = is_table (outer_rows Reject) refl (omega arith)
outer_table SequenceReset = is_table (outer_rows SequenceReset) refl (omega arith)
outer_table Logout = is_table (outer_rows Logout) refl (omega arith)
outer_table Logon = is_table (outer_rows Logon) refl (omega arith)
outer_table TradeCaptureReport = is_table (outer_rows TradeCaptureReport) refl (omega arith)
outer_table AllocationInstruction = is_table (outer_rows AllocationInstruction) refl (omega arith)
outer_table AllocationReportAck = is_table (outer_rows AllocationReportAck) refl (omega arith)
outer_table RequestForPositions = is_table (outer_rows RequestForPositions) refl (omega arith)

-- the entries of a group
pub entry_table : (counter : ℕ) → IsTable (entry_rows counter)
unfolding entry_rows
entry_table counter =
    let sides : List Row = entry_rows NO_SIDES in
    let execs : List Row = entry_rows NO_EXECS in
    let allocs : List Row = entry_rows NO_ALLOCS in
    let P : Bool → Bool → Bool → Type 0 = λ a b c. IsTable (cond a sides (cond b execs (cond c allocs []))) in
    let third : (c : Bool) → P false false c = λ c. elim c as (λ v. P false false v) [ true ↦ is_table allocs refl (omega arith) | false ↦ is_table [] refl (omega arith) ] in
    let second : (b c : Bool) → P false b c = λ b c. elim b as (λ v. P false v c) [ true ↦ is_table execs refl (omega arith) | false ↦ third c ] in
    let at : (a b c : Bool) → P a b c = λ a b c. elim a as (λ v. P v b c) [ true ↦ is_table sides refl (omega arith) | false ↦ second b c ] in
    at (counter == NO_SIDES) (counter == NO_EXECS) (counter == NO_ALLOCS)
