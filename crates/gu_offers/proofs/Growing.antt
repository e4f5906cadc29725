-- A give-up's offers are added last, or a day is opened: everything stays stored correctly.
use Rattle.gu_offers.proofs.Words.{◌≡◌, ◌∙◌, sym, refl, ap, subst, ℕ, ◌+◌, ◌-◌, ◌≤◌, ◌==◌, Bool, true, false, cond, ◌&&◌, List, [], ◌∷◌, ◌++◌, length, map, arith, length-append, if◌then◌else◌, AllByRecursion, range_with_len, length-map, map-append, recursion_from_All, FirmId, Group, Id, Line, same_group, GivenUp, Inside, next_day, offered, with_lines, forgotten, given_for, row_of, numbers_in, IsKept, rows_of, IsSound, Row, is_open, is_open_in, numbers_from, open_numbers}
use Rattle.std.specs.List.{All}
use Rattle.std.proofs.lemmas.Bool.Decides.{Decides-eqb}
use Rattle.gu_terms.specs.Numbers.{IsLots}
use Rattle.gu_offers.proofs.KeptOffers.{above_zero}
use Rattle.gu_offers.proofs.Listed.{all-append, all-imply, numbers-append}

no_day : (b : Bool) → ◌≡◌ {A = ℕ} (if b then 0 else 0) 0
no_day true = refl
no_day false = refl

-- the stored form of a line is the offer that the line makes, on any day
row_of-given_for : (day : ℕ) (firm : FirmId) (report : Id) (group : Group) (line : Line) → row_of day (given_for firm report group line) ≡ offered firm report group line
row_of-given_for day firm report group line =
    λ i. record {
      offer = record { firm = firm; report = report; group = group; account = line.account; lots = line.lots };
      moved = 0;
      today = no_day (0 == day) i;
      is_shut = false;
    }

rows-given_for : (day : ℕ) (firm : FirmId) (report : Id) (group : Group) (lines : List Line) → map (row_of day) (map (given_for firm report group) lines) ≡ map (offered firm report group) lines
rows-given_for day firm report group [] = refl
rows-given_for day firm report group (line ∷ lines) = λ i. row_of-given_for day firm report group line i ∷ rows-given_for day firm report group lines i

-- an offer as of the day that is opened
pub rows-forgotten : (day : ℕ) (items : List GivenUp) → map (row_of day) (map forgotten items) ≡ map next_day (map (row_of day) items)
rows-forgotten day [] = refl
rows-forgotten day (g ∷ items) =
    let first : row_of day (forgotten g) ≡ next_day (row_of day g) = λ i. record { offer = g.offer; moved = g.moved; today = no_day (g.moved_on == day) i; is_shut = g.is_shut } in
    λ i. first i ∷ rows-forgotten day items i

earlier : (moved_on day today : ℕ) → moved_on ≤ day → (if moved_on == day + 1 then today else 0) ≡ 0
earlier moved_on day today h = by (moved_on == day + 1) refl
  where
    by : (b : Bool) → (moved_on == day + 1) ≡ b → (if b then today else 0) ≡ 0
    by true e = let same = (Decides-eqb moved_on (day + 1)).0 e in absurd (omega arith)
    by false e = refl

-- nothing was moved on a later day
pub rows-next : (day : ℕ) (items : List GivenUp) → AllByRecursion (λ (g : GivenUp). g.moved_on ≤ day) items → map (row_of (day + 1)) items ≡ map next_day (map (row_of day) items)
rows-next day [] before = refl
rows-next day (g ∷ items) before =
    let first : row_of (day + 1) g ≡ next_day (row_of day g) = λ i. record { offer = g.offer; moved = g.moved; today = earlier g.moved_on day g.today before.0 i; is_shut = g.is_shut } in
    λ i. first i ∷ rows-next day items before.1 i

-- the days still hold on a later day
pub days-next : (day : ℕ) (items : List GivenUp) → AllByRecursion (λ (g : GivenUp). g.moved_on ≤ day) items → AllByRecursion (λ (g : GivenUp). g.moved_on ≤ day + 1) items
days-next day items = all-imply (λ (g : GivenUp). g.moved_on ≤ day) (λ (g : GivenUp). g.moved_on ≤ day + 1) (λ g h. omega arith) items

pub days-forgotten : (day : ℕ) (items : List GivenUp) → AllByRecursion (λ (g : GivenUp). g.moved_on ≤ day) items → AllByRecursion (λ (g : GivenUp). g.moved_on ≤ day) (map forgotten items)
days-forgotten day [] before = tt
days-forgotten day (g ∷ items) before = (before.0, days-forgotten day items before.1)

sound-next : (rows : List Row) → AllByRecursion IsSound rows → AllByRecursion IsSound (map next_day rows)
sound-next [] sound = tt
sound-next (r ∷ rows) sound = (record { lots = sound.0.lots; moved = sound.0.moved; today = omega arith }, sound-next rows sound.1)

numbers-next : (n : ℕ) (rows : List Row) (group : Group) → numbers_from n (map next_day rows) group ≡ numbers_from n rows group
numbers-next n [] group = refl
numbers-next n (r ∷ rows) group = ap (λ l. cond (is_open_in group r) (n ∷ l) l) (numbers-next (n + 1) rows group)

-- everything is stored correctly after a day is opened
pub kept-next : (kept later : Inside) → IsKept kept → rows_of later ≡ map next_day (rows_of kept) → AllByRecursion (λ (g : GivenUp). g.moved_on ≤ later.day) later.rows
    → length later.rows ≡ length kept.rows
    → ((group : Group) → numbers_in later.groups group ≡ numbers_in kept.groups group) → IsKept later
kept-next kept later is_kept view days same groups = record {
  sound = subst (AllByRecursion IsSound) (sym view) (sound-next (rows_of kept) is_kept.sound);
  days = days;
  few = omega (arith, same, is_kept.few);
  numbers = λ group. groups group ∙ is_kept.numbers group ∙ sym (numbers-next 1 (rows_of kept) group) ∙ ap (λ rows. open_numbers rows group) (sym view);
}

module _ (firm : FirmId) (report : Id) (group : Group) where
  sound-offered : (lines : List Line) → AllByRecursion (λ (line : Line). IsLots line.lots) lines → AllByRecursion IsSound (map (offered firm report group) lines)
  sound-offered [] lots = tt
  sound-offered (line ∷ lines) lots = (record { lots = lots.0; moved = omega arith; today = omega arith }, sound-offered lines lots.1)

  days-offered : (day : ℕ) (lines : List Line) → AllByRecursion (λ (g : GivenUp). g.moved_on ≤ day) (map (given_for firm report group) lines)
  days-offered day [] = tt
  days-offered day (line ∷ lines) = (omega arith, days-offered day lines)

  -- the numbers of the lines
  numbers-offered : (n : ℕ) (lines : List Line) (other : Group) → AllByRecursion (λ (line : Line). IsLots line.lots) lines
      → numbers_from n (map (offered firm report group) lines) other ≡ (if same_group group other then range_with_len n (length lines) else [])
  numbers-offered n [] other lots = none (same_group group other)
    where
      none : (b : Bool) → ◌≡◌ {A = List ℕ} [] (if b then [] else [])
      none true = refl
      none false = refl
  numbers-offered n (line ∷ lines) other lots =
      by (same_group group other) (is_open (offered firm report group line)) (above_zero (line.lots - 0) (λ none. omega (arith, none, lots.0.some))) (numbers-offered (n + 1) lines other lots.1)
    where
      by : (b c : Bool) → c ≡ true → numbers_from (n + 1) (map (offered firm report group) lines) other ≡ (if b then range_with_len (n + 1) (length lines) else [])
          → cond (b && c) (n ∷ numbers_from (n + 1) (map (offered firm report group) lines) other) (numbers_from (n + 1) (map (offered firm report group) lines) other)
          ≡ (if b then n ∷ range_with_len (n + 1) (length lines) else [])
      by true true e rest = ap (λ l. n ∷ l) rest
      by true false e rest = cc
      by false c e rest = rest

  module _ (kept later : Inside) (is_kept : IsKept kept) (lines : List Line) (lots : All (λ (line : Line). IsLots line.lots) lines)
      (pushed : later.rows ≡ kept.rows ++ map (given_for firm report group) lines) (today : later.day ≡ kept.day) where
    -- the offers, followed by those of the lines
    pub rows-offered : rows_of later ≡ with_lines (rows_of kept) firm report group lines
    rows-offered =
        (λ i. map (row_of (today i)) (pushed i)) ∙ map-append (row_of kept.day) kept.rows (map (given_for firm report group) lines)
        ∙ ap (λ rows. rows_of kept ++ rows) (rows-given_for kept.day firm report group lines)

    -- everything is then stored correctly
    pub kept-offered : (first : ℕ) → first ≡ length kept.rows + 1 → length kept.rows + length lines ≤ 16000000
        → ((other : Group) → numbers_in later.groups other ≡ (if same_group group other then numbers_in kept.groups other ++ range_with_len first (length lines) else numbers_in kept.groups other))
        → IsKept later
    kept-offered first is room numbers = record {
      sound = subst (AllByRecursion IsSound) (sym rows-offered)
          (all-append IsSound (rows_of kept) (map (offered firm report group) lines) is_kept.sound (sound-offered lines (recursion_from_All (λ (line : Line). IsLots line.lots) lines lots)));
      days = subst (λ d. AllByRecursion (λ (g : GivenUp). g.moved_on ≤ d) later.rows) (sym today)
          (subst (AllByRecursion (λ (g : GivenUp). g.moved_on ≤ kept.day)) (sym pushed)
          (all-append (λ (g : GivenUp). g.moved_on ≤ kept.day) kept.rows (map (given_for firm report group) lines) is_kept.days (days-offered kept.day lines)));
      few = let all : length later.rows ≡ length kept.rows + length lines =
          ap length pushed ∙ length-append kept.rows (map (given_for firm report group) lines) ∙ ap (λ n. length kept.rows + n) (length-map lines (given_for firm report group)) in omega (arith, all, room);
      numbers = λ other. numbers other ∙ own other (same_group group other) (numbers-offered (1 + length (rows_of kept)) lines other (recursion_from_All (λ (line : Line). IsLots line.lots) lines lots))
          ∙ sym (numbers-append other 1 (rows_of kept) (map (offered firm report group) lines)) ∙ ap (λ rows. open_numbers rows other) (sym rows-offered);
    }
      where
        begins : first ≡ 1 + length (rows_of kept)
        begins = let same : length (rows_of kept) ≡ length kept.rows = length-map kept.rows (row_of kept.day) in omega (arith, is, same)

        nothing : (xs : List ℕ) → xs ≡ xs ++ []
        nothing [] = refl
        nothing (x ∷ xs) = ap (λ l. x ∷ l) (nothing xs)

        own : (other : Group) (b : Bool) → numbers_from (1 + length (rows_of kept)) (map (offered firm report group) lines) other ≡ (if b then range_with_len (1 + length (rows_of kept)) (length lines) else [])
            → (if b then numbers_in kept.groups other ++ range_with_len first (length lines) else numbers_in kept.groups other)
            ≡ open_numbers (rows_of kept) other ++ numbers_from (1 + length (rows_of kept)) (map (offered firm report group) lines) other
        own other true these = (λ i. is_kept.numbers other i ++ range_with_len (begins i) (length lines)) ∙ ap (λ l. open_numbers (rows_of kept) other ++ l) (sym these)
        own other false these = is_kept.numbers other ∙ nothing (open_numbers (rows_of kept) other) ∙ ap (λ l. open_numbers (rows_of kept) other ++ l) (sym these)

-- unchanged offers with a table that says the same are stored as before
module _ (old new : Inside) (kept : IsKept old) (items : new.rows ≡ old.rows) (day : new.day ≡ old.day) where
  rows-same : rows_of old ≡ rows_of new
  rows-same = λ i. map (row_of (sym day i)) (sym items i)

  pub kept-same : ((group : Group) → numbers_in new.groups group ≡ numbers_in old.groups group) → IsKept new
  kept-same numbers = record {
    sound = subst (AllByRecursion IsSound) rows-same kept.sound;
    days = rw (items, day) kept.days;
    few = rw items kept.few;
    numbers = λ group. numbers group ∙ kept.numbers group ∙ ap (λ rows. open_numbers rows group) rows-same;
  }
