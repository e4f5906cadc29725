-- The refusals of a command are tested in the order of their numbers, so the least one is given.
use Rattle.gu_rules.proofs.Words.{◌≡◌, ℕ, ◌<◌, ◌≤◌, Bool, true, false, List, [], ◌∷◌, AllPairs, get_or, length, slice_get, zero, suc, Option, Some, None, ap, subst, arith, option_map_or, Command, OpenDay, SetLimit, ReportSide, GiveUp, Claim, Refuse, Reverse, Day, Group, LimitKey, Line, Refusal, Done, Denied, Report, Tables, made_on, Row, left_in, row_at, State, answer_in, done_of, first_standing, given_up, lines_tests, report_tests, room_tests, tests_of, path_after}
use Rattle.gu_terms.specs.Refusals.{number_of}

-- the number of a test's refusal
abbrev number : Bool × Refusal → ℕ
number test = number_of test.1

-- from this number on, numbers don't decrease
abbrev Climbs : ℕ → List (Bool × Refusal) → Type 0
Climbs low [] = Unit
Climbs low (test ∷ tests) = (low ≤ number test) × Climbs (number test) tests

-- the tests for the keys of a path have the same number
climbs-rooms : (room : LimitKey → ℕ) (lots low : ℕ) (path : List LimitKey) → low ≤ 15 → Climbs low (room_tests room lots path)
climbs-rooms room lots low [] few = tt
climbs-rooms room lots low (key ∷ keys) few = (few, climbs-rooms room lots 15 keys (omega arith))

climbs-claim : (reference : Tables) (state : State) (n : ℕ) (row : Option Row)
    → Climbs 14 (option_map_or (λ (r : Row). room_tests (state.room r.offer.group) (left_in state.offers n) (path_after reference r.offer)) row [])
climbs-claim reference state n None = tt
climbs-claim reference state n (Some row) = climbs-rooms (state.room row.offer.group) (left_in state.offers n) 14 (path_after reference row.offer) (omega arith)

climbs-side : (reference : Tables) (state : State) (report : Day → Report) (given today : Option Day)
    → Climbs 1 (option_map_or (λ day. report_tests reference state.reports (report day) given) today [])
climbs-side reference state report given None = tt
climbs-side reference state report given (Some today) =
    (omega arith, (omega arith, (omega arith, (omega arith, (omega arith, (omega arith, tt))))))

climbs-lines : (reference : Tables) (state : State) (lines : List Line) (given : Option (Report × Group))
    → Climbs 8 (option_map_or (λ g. lines_tests reference state g.0 g.1 lines) given [])
climbs-lines reference state lines None = tt
climbs-lines reference state lines (Some given) = (omega arith, (omega arith, (omega arith, (omega arith, tt))))

-- the numbers of a command's tests don't decrease
tests_climb : (reference : Tables) (state : State) (command : Command) → Climbs 0 (tests_of reference state command)
tests_climb reference state (OpenDay it) = (omega arith, tt)
tests_climb reference state (SetLimit it) = (omega arith, (omega arith, tt))
tests_climb reference state (ReportSide it) =
    (omega arith, climbs-side reference state (λ today. made_on today it) it.day state.today)
tests_climb reference state (GiveUp it) =
    (omega arith, (omega arith, (omega arith, (omega arith, climbs-lines reference state it.lines (given_up reference state it.firm it.report)))))
tests_climb reference state (Claim it) =
    (omega arith, (omega arith, (omega arith, (omega arith, climbs-claim reference state it.offer (row_at state.offers it.offer)))))
tests_climb reference state (Refuse it) = (omega arith, (omega arith, (omega arith, (omega arith, tt))))
tests_climb reference state (Reverse it) = (omega arith, (omega arith, (omega arith, (omega arith, (omega arith, tt)))))

-- all numbers after one are at least as great
above : (low : ℕ) (tests : List (Bool × Refusal)) → Climbs low tests → (place : ℕ) (d : Bool × Refusal) → place < length tests → low ≤ number (get_or tests place d)
above low [] up place d within = absurd (omega arith)
above low (test ∷ tests) up zero d within = up.0
above low (test ∷ tests) up (suc place) d within = omega (arith, up.0, above (number test) tests up.1 place d (omega arith))

-- numbers that don't decrease ascend in pairs
pairs : (low : ℕ) (tests : List (Bool × Refusal)) → Climbs low tests → AllPairs (λ a b. number a ≤ number b) tests
pairs low [] up i j d less within = absurd (omega arith)
pairs low (test ∷ tests) up i zero d less within = absurd (omega arith)
pairs low (test ∷ tests) up zero (suc j) d less within = above (number test) tests up.1 j d (omega arith)
pairs low (test ∷ tests) up (suc i) (suc j) d less within = pairs (number test) tests up.1 i j d (omega arith) (omega arith)

-- the numbers of a command's tests ascend
pub tests_ascend : (reference : Tables) (state : State) (command : Command) → AllPairs (λ a b. number_of a.1 ≤ number_of b.1) (tests_of reference state command)
tests_ascend reference state command = pairs 0 (tests_of reference state command) (tests_climb reference state command)

-- a test after a number is at least as great
at_least : (low : ℕ) (tests : List (Bool × Refusal)) → Climbs low tests → (place : ℕ) (test : Bool × Refusal) → slice_get tests place ≡ Some test → low ≤ number test
at_least low [] up place test at = cc
at_least low (first ∷ tests) up zero test at =
    let same : first ≡ test = cc in
    subst (λ (t : Bool × Refusal). low ≤ number t) same up.0
at_least low (first ∷ tests) up (suc place) test at = omega (arith, up.0, at_least (number first) tests up.1 place test at)

-- among the refusals whose conditions hold, the first has the least number
least : (low : ℕ) (tests : List (Bool × Refusal)) (done : Done) (given other : Refusal) (place : ℕ) → Climbs low tests
    → first_standing tests done ≡ Denied given → slice_get tests place ≡ Some (true, other) → number_of given ≤ number_of other
least low [] done given other place up is at = cc
least low ((true, first) ∷ tests) done given other place up is at =
    let one : first ≡ given = cc in
    subst (λ (r : Refusal). number_of r ≤ number_of other) one
    (at_least (number_of first) ((true, first) ∷ tests) (omega arith, up.1) place (true, other) at)
least low ((false, first) ∷ tests) done given other zero up is at =
    let no : false ≡ true = ap (λ (found : Option (Bool × Refusal)). option_map_or (λ test. test.0) found false) at in cc
least low ((false, first) ∷ tests) done given other (suc place) up is at = least (number_of first) tests done given other place up.1 is at

-- the refusal given has the least number among those whose conditions hold
pub least_given : (reference : Tables) (state : State) (command : Command) (given other : Refusal) (place : ℕ)
    → answer_in reference state command ≡ Denied given → slice_get (tests_of reference state command) place ≡ Some (true, other) → number_of given ≤ number_of other
least_given reference state command given other place is at =
    least 0 (tests_of reference state command) (done_of reference state command) given other place (tests_climb reference state command) is at
