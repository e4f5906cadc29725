-- What was given up of each report, after each change of the reports and of the offers.
use Rattle.gu_book.proofs.Words.{◌≡◌, ℕ, zero, suc, ◌+◌, ◌-◌, ◌*◌, ◌≤◌, ◌<◌, ◌==◌, ◌&&◌, ◌||◌, ◌++◌, Bool, true, false, List, [], ◌∷◌, length, map, Option, Some, None, Result, Ok, Err, refl, sym, ap, ◌∙◌, arith, subst, if◌then◌else◌, slice_get, IsDistinct, option_map, option_map_or, is_some, get_or, slice_get-get_or, none-some, map-append, All, recursion_from_All, sum_by-cons, names-are, changed, closed, next_day, offered, reversed, taken, with_lines, IsSound, Row, counted_of, counted_under, is_of_report, left_in, left_of, row_at, today_in, FirmId, Group, Id, Line, Offer, Report, has_report, report_by, same_firm, same_id}
use Rattle.std.proofs.Common.{set}
use Rattle.std.specs.Result.{OnErr, OnOk}
use Rattle.std.specs.Prelude.{Contains, replicate, slice_index}
use Rattle.std.proofs.lemmas.Bool.Decides.{Decides-eqb}
use Rattle.std.proofs.lemmas.List.{length-map}
use Rattle.std.proofs.lemmas.List.Sums.{sum_by-append}
use Rattle.std.proofs.lemmas.Map.Keys.{IsDistinct-head, IsDistinct-tail}
use Rattle.std.proofs.lemmas.Option.{slice_get-map}
use Rattle.std.proofs.lemmas.Slice.Eq.{bytes_eq-Decides}
use Rattle.gu_terms.specs.Lines.{lots_in_all}
use Rattle.gu_terms.proofs.Found.{by_names}
use Rattle.gu_offers.proofs.Listed.{all-at}
use Rattle.gu_trades.specs.Reports.{is_by}
use Rattle.gu_trades.specs.Rules.{same_report}
use Rattle.gu_book.specs.GivenUp.{AreGivenUp, lots_held, names_at, names_given, names_of}
use Rattle.gu_book.specs.declared.given_up.GivenUp.{GivenUp}
use Rattle.gu_book.proofs.HeldLots.{counted-closed, counted-few, counted-next, counted-offered, counted-reversed, counted-set, counted-taken}

-- ---- reports and their numbers

-- a report by its number
pub named : (reports : List Report) (number : ℕ) (firm : FirmId) (id : Id) → names_at reports number ≡ Some (firm, id) → (r : Report) × (slice_get reports number ≡ Some r) × (names_of r ≡ (firm, id))
named reports number firm id names = by (slice_get reports number) refl names
  where
    by : (found : Option Report) → slice_get reports number ≡ found → option_map names_of found ≡ Some (firm, id) → (r : Report) × (slice_get reports number ≡ Some r) × (names_of r ≡ (firm, id))
    by None at e = cc
    by (Some r) at e = (r, at, ap (λ o. option_map_or (λ p. p) o (firm, id)) e)

-- the lots of a report that is known by its firm and id
pub held-named : (reports : List Report) (rows : List Row) (number : ℕ) (firm : FirmId) (id : Id) → names_at reports number ≡ Some (firm, id) → lots_held reports rows number ≡ counted_under rows firm id
held-named reports rows number firm id names =
    let r = named reports number firm id names in
    ap (λ o. option_map_or (λ (r : Report). counted_under rows r.firm r.id) o 0) r.1 ∙ ap (λ p. counted_under rows p.0 p.1) r.2

same-turned : (a b : Report) → same_report a b ≡ same_report b a
same-turned a b = (by_names (λ (r : Report). r.firm.name) (λ r. r.id)).symm a b

-- reports with different numbers have different names
apart : (reports : List Report) (i j : ℕ) (a b : Report) → IsDistinct same_report reports → slice_get reports i ≡ Some a → slice_get reports j ≡ Some b → (i ≡ j → ⊥) → same_report a b ≡ false
apart [] i j a b distinct at there other = cc
apart (r ∷ reports) zero zero a b distinct at there other = absurd (other refl)
apart (r ∷ reports) zero (suc j) a b distinct at there other = let one : r ≡ a = cc in ap (λ x. same_report x b) (sym one) ∙ all-at (λ x. same_report r x ≡ false) reports j b (IsDistinct-head same_report r reports distinct) there
apart (r ∷ reports) (suc i) zero a b distinct at there other = let one : r ≡ b = cc in same-turned a b ∙ ap (λ x. same_report x a) (sym one) ∙ all-at (λ x. same_report r x ≡ false) reports i a (IsDistinct-head same_report r reports distinct) at
apart (r ∷ reports) (suc i) (suc j) a b distinct at there other = apart reports i j a b (IsDistinct-tail same_report r reports distinct) at there (λ same. other (ap suc same))

-- a report has these names only if it has this number
same-number : (reports : List Report) (number own : ℕ) (firm : FirmId) (id : Id) (r : Report) → IsDistinct same_report reports → names_at reports own ≡ Some (firm, id) → slice_get reports number ≡ Some r
    → (same_firm firm r.firm && same_id id r.id) ≡ (number == own)
same-number reports number own firm id r distinct names at = by (number == own) refl
  where
    it : (q : Report) × (slice_get reports own ≡ Some q) × (names_of q ≡ (firm, id))
    it = named reports own firm id names

    names-are : (same_firm firm r.firm && same_id id r.id) ≡ same_report it.0 r
    names-are = ap (λ p. same_firm p.0 r.firm && same_id p.1 r.id) (sym it.2)

    by : (b : Bool) → (number == own) ≡ b → (same_firm firm r.firm && same_id id r.id) ≡ b
    by true e =
        let same : Some r ≡ Some it.0 = sym at ∙ ap (slice_get reports) ((Decides-eqb number own).0 e) ∙ it.1 in
        let one : r ≡ it.0 = cc in
        names-are ∙ ap (same_report it.0) one ∙ (by_names (λ (r : Report). r.firm.name) (λ r. r.id)).refl it.0
    by false e =
        names-are ∙ apart reports own number it.0 r distinct it.1 at (λ same. let never : true ≡ false = sym ((Decides-eqb number own).1 (sym same)) ∙ e in cc)

-- no report has the number of another one that there is
no-number : (reports : List Report) (number own : ℕ) (firm : FirmId) (id : Id) → names_at reports own ≡ Some (firm, id) → slice_get reports number ≡ None → (number == own) ≡ false
no-number reports number own firm id names none = by (number == own) refl
  where
    by : (b : Bool) → (number == own) ≡ b → b ≡ false
    by true e =
        let it = named reports own firm id names in
        let never : None ≡ Some it.0 = sym none ∙ ap (slice_get reports) ((Decides-eqb number own).0 e) ∙ it.1 in absurd (none-some it.0 never)
    by false e = refl

-- ---- the offers and their reports

-- the names of an offer's report
abbrev pub given_by : Row → Option (FirmId × Id)
given_by row = Some (names_given row)

module _ (reports : List Report) (rows : List Row) (given : GivenUp) (are : AreGivenUp reports rows given) where
  -- as many reports are noted as there are offers
  pub noted : length given.report_of.items ≡ length rows
  noted = sym (length-map given.report_of.items (names_at reports)) ∙ ap length are.own ∙ length-map rows given_by

  -- the report noted for an offer is its own
  pub own-named : (place : ℕ) (row : Row) (own : ℕ) → slice_get rows place ≡ Some row → slice_get given.report_of.items place ≡ Some own → names_at reports own ≡ Some (row.offer.firm, row.offer.report)
  own-named place row own at there =
      let same : Some (names_at reports own) ≡ Some (given_by row) =
      ap (option_map (names_at reports)) (sym there) ∙ sym (slice_get-map (names_at reports) given.report_of.items place) ∙ ap (λ l. slice_get l place) are.own
      ∙ slice_get-map given_by rows place ∙ ap (option_map given_by) at in
      ap (λ o. option_map_or (λ p. p) o None) same

-- ---- one offer is changed

names-set : (rows : List Row) (place : ℕ) (old new : Row) → slice_get rows place ≡ Some old → new.offer ≡ old.offer → map given_by (set rows place new) ≡ map given_by rows
names-set [] place old new at same = refl
names-set (r ∷ rows) zero old new at same = let one : r ≡ old = cc in ap (λ (o : Offer). Some (o.firm, o.report) ∷ map given_by rows) (same ∙ ap (λ (x : Row). x.offer) (sym one))
names-set (r ∷ rows) (suc place) old new at same = ap (λ l. given_by r ∷ l) (names-set rows place old new at same)

fewer : (b c : Bool) (less : ℕ) → b ≡ c → (if b then less else 0) ≡ (if c then less else 0)
fewer b c less e = ap (λ b. if b then less else 0) e

none_fewer : (b : Bool) (less : ℕ) → 0 ≡ 0 - (if b then less else 0)
none_fewer true less = omega arith
none_fewer false less = omega arith

nothing : (b : Bool) → ◌≡◌ {A = ℕ} (if b then 0 else 0) 0
nothing true = refl
nothing false = refl

module _ (reports : List Report) (rows : List Row) (given : GivenUp) (place : ℕ) (row new : Row) (own less : ℕ) (are : AreGivenUp reports rows given) (distinct : IsDistinct same_report reports)
    (at : slice_get rows place ≡ Some row) (there : slice_get given.report_of.items place ≡ Some own) (same : new.offer ≡ row.offer) (held : counted_of row ≡ counted_of new + less) where
  abbrev names : names_at reports own ≡ Some (row.offer.firm, row.offer.report)
  names = own-named reports rows given are place row own at there

  -- its report holds what it no longer holds
  pub less-held : less ≤ slice_index given.lots.items own
  less-held =
      let sums = counted-set row.offer.firm row.offer.report rows place row new less at same held in
      let is_own : is_of_report row.offer.firm row.offer.report row ≡ true =
      (λ i. (bytes_eq-Decides row.offer.firm.name row.offer.firm.name).1 refl i && (bytes_eq-Decides row.offer.report row.offer.report).1 refl i) in
      let all : lots_held reports rows own ≡ counted_under rows row.offer.firm row.offer.report = held-named reports rows own row.offer.firm row.offer.report names in
      omega (arith, sums, are.held own, all, fewer (is_of_report row.offer.firm row.offer.report row) true less is_own)

  -- and all is as it should be once that much less is noted
  pub given-set : (later : GivenUp) → later.report_of.items ≡ given.report_of.items
      → ((number : ℕ) → slice_index later.lots.items number ≡ slice_index given.lots.items number - (if number == own then less else 0)) → AreGivenUp reports (set rows place new) later
  given-set later unchanged lots = record {
    own = ap (map (names_at reports)) unchanged ∙ are.own ∙ sym (names-set rows place row new at same);
    held = λ number. lots number ∙ ap (λ n. n - (if number == own then less else 0)) (are.held number) ∙ by number (slice_get reports number) refl;
  }
    where
      by : (number : ℕ) (found : Option Report) → slice_get reports number ≡ found
          → option_map_or (λ (r : Report). counted_under rows r.firm r.id) found 0 - (if number == own then less else 0)
          ≡ option_map_or (λ (r : Report). counted_under (set rows place new) r.firm r.id) found 0
      by number None e = sym (none_fewer (number == own) less)
      by number (Some r) e =
          omega (
            arith,
            counted-set r.firm r.id rows place row new less at same held,
            fewer (is_of_report r.firm r.id row) (number == own) less (same-number reports number own row.offer.firm row.offer.report r distinct names e),
          )

-- a change of an offer that holds as much as before
pub given-unchanged : (reports : List Report) (rows : List Row) (given : GivenUp) (place : ℕ) (row new : Row) → AreGivenUp reports rows given → slice_get rows place ≡ Some row → new.offer ≡ row.offer
    → counted_of row ≡ counted_of new + 0 → AreGivenUp reports (set rows place new) given
given-unchanged reports rows given place row new are at same held = record {
  own = are.own ∙ sym (names-set rows place row new at same);
  held = λ number. are.held number ∙ ap (λ f. option_map_or f (slice_get reports number) 0) (λ i r. count r.firm r.id i);
}
  where
    count : (firm : FirmId) (id : Id) → counted_under rows firm id ≡ counted_under (set rows place new) firm id
    count firm id = omega (arith, counted-set firm id rows place row new 0 at same held, nothing (is_of_report firm id row))

-- ---- offers by their numbers

-- an offer that there is
pub row-known : (o : Option Row) → is_some o ≡ true → (row : Row) × (o ≡ Some row)
row-known None e = cc
row-known (Some row) e = (row, refl)

within : {X : Type 0} (xs : List X) (place : ℕ) (x : X) → slice_get xs place ≡ Some x → place < length xs
within [] place x at = cc
within (y ∷ xs) zero x at = omega arith
within (y ∷ xs) (suc place) x at = omega (arith, within xs place x at)

-- it is at the index before its number
at-place : (rows : List Row) (number : ℕ) (row : Row) → row_at rows number ≡ Some row → slice_get rows (number - 1) ≡ Some row
at-place rows zero row at = cc
at-place rows (suc place) row at = let one : suc place - 1 ≡ place = omega arith in ap (slice_get rows) one ∙ at

-- a report is noted for it
pub number-within : (reports : List Report) (rows : List Row) (given : GivenUp) → AreGivenUp reports rows given → (number : ℕ) → is_some (row_at rows number) ≡ true → number ≤ length given.report_of.items
number-within reports rows given are zero known = omega arith
number-within reports rows given are (suc place) known =
    let row = row-known (slice_get rows place) known in
    omega (arith, within rows place row.0 row.1, noted reports rows given are)

changed-none : (rows : List Row) (number : ℕ) (change : Row → Row) → row_at rows number ≡ None → changed rows number change ≡ rows
changed-none rows zero change none = refl
changed-none rows (suc place) change none = ap (λ o. option_map_or (λ r. set rows place (change r)) o rows) none

changed-place : (rows : List Row) (number : ℕ) (row : Row) (change : Row → Row) → row_at rows number ≡ Some row → changed rows number change ≡ set rows (number - 1) (change row)
changed-place rows zero row change at = cc
changed-place rows (suc place) row change at =
    let one : suc place - 1 ≡ place = omega arith in
    ap (λ o. option_map_or (λ r. set rows place (change r)) o rows) at ∙ ap (λ n. set rows n (change row)) (sym one)

-- lots are moved
pub given-taken : (reports : List Report) (rows : List Row) (given : GivenUp) (number lots : ℕ) → AreGivenUp reports rows given → lots ≤ left_in rows number → AreGivenUp reports (changed rows number (taken lots)) given
given-taken reports rows given number lots are fits = by (row_at rows number) refl fits
  where
    by : (o : Option Row) → row_at rows number ≡ o → lots ≤ option_map_or left_of o 0 → AreGivenUp reports (changed rows number (taken lots)) given
    by None at less = subst (λ rs. AreGivenUp reports rs given) (sym (changed-none rows number (taken lots) at)) are
    by (Some row) at less =
        subst (λ rs. AreGivenUp reports rs given) (sym (changed-place rows number row (taken lots) at))
        (given-unchanged reports rows given (number - 1) row (taken lots row) are (at-place rows number row at) refl (counted-taken row lots less))

-- an offer is closed, or what was moved of it today is taken back
module _ (reports : List Report) (rows : List Row) (given : GivenUp) (are : AreGivenUp reports rows given) (distinct : IsDistinct same_report reports) (sound : All IsSound rows)
    (number own : ℕ) (known : is_some (row_at rows number) ≡ true) (there : slice_get given.report_of.items (number - 1) ≡ Some own) where
  abbrev it : (row : Row) × (row_at rows number ≡ Some row)
  it = row-known (row_at rows number) known

  at-its : slice_get rows (number - 1) ≡ Some it.0
  at-its = at-place rows number it.0 it.1

  sound-its : IsSound it.0
  sound-its = all-at IsSound rows (number - 1) it.0 (recursion_from_All IsSound rows sound) at-its

  module _ (left : ℕ) (is : left ≡ left_in rows number) where
    left-is : left ≡ left_of it.0
    left-is = is ∙ ap (λ o. option_map_or left_of o 0) it.1

    held-closed : counted_of it.0 ≡ counted_of (closed it.0) + left
    held-closed = counted-closed it.0 sound-its ∙ ap (λ n. counted_of (closed it.0) + n) (sym left-is)

    pub closed-held : left ≤ slice_index given.lots.items own
    closed-held = less-held reports rows given (number - 1) it.0 (closed it.0) own left are distinct at-its there refl held-closed

    pub given-closed : (later : GivenUp) → later.report_of.items ≡ given.report_of.items
        → ((n : ℕ) → slice_index later.lots.items n ≡ slice_index given.lots.items n - (if n == own then left else 0)) → AreGivenUp reports (changed rows number closed) later
    given-closed later unchanged lots =
        subst (λ rs. AreGivenUp reports rs later) (sym (changed-place rows number it.0 closed it.1))
        (given-set reports rows given (number - 1) it.0 (closed it.0) own left are distinct at-its there refl held-closed later unchanged lots)

  module _ (today : ℕ) (is : today ≡ today_in rows number) (shut : left_in rows number ≡ 0) where
    held-reversed : counted_of it.0 ≡ counted_of (reversed it.0) + today
    held-reversed =
        counted-reversed it.0 sound-its (sym (ap (λ o. option_map_or left_of o 0) it.1) ∙ shut)
        ∙ ap (λ n. counted_of (reversed it.0) + n) (sym (is ∙ ap (λ o. option_map_or (λ (r : Row). r.today) o 0) it.1))

    pub reversed-held : today ≤ slice_index given.lots.items own
    reversed-held = less-held reports rows given (number - 1) it.0 (reversed it.0) own today are distinct at-its there refl held-reversed

    pub given-reversed : (later : GivenUp) → later.report_of.items ≡ given.report_of.items
        → ((n : ℕ) → slice_index later.lots.items n ≡ slice_index given.lots.items n - (if n == own then today else 0)) → AreGivenUp reports (changed rows number reversed) later
    given-reversed later unchanged lots =
        subst (λ rs. AreGivenUp reports rs later) (sym (changed-place rows number it.0 reversed it.1))
        (given-set reports rows given (number - 1) it.0 (reversed it.0) own today are distinct at-its there refl held-reversed later unchanged lots)

-- an offer of which lots were moved today is there
pub moved-known : (rows : List Row) (number : ℕ) → 0 < today_in rows number → is_some (row_at rows number) ≡ true
moved-known rows number some = by (row_at rows number) some
  where
    by : (o : Option Row) → 0 < option_map_or (λ (r : Row). r.today) o 0 → is_some o ≡ true
    by None less = absurd (omega (arith, less))
    by (Some row) less = refl

-- the report of an offer, found by its own firm and id
module _ (reports : List Report) (rows : List Row) (given : GivenUp) (are : AreGivenUp reports rows given) (number own : ℕ) (row : Row) (at : row_at rows number ≡ Some row)
    (there : slice_get given.report_of.items (number - 1) ≡ Some own) where
  its-report : (r : Report) × (slice_get reports own ≡ Some r) × (names_of r ≡ names_given row)
  its-report = named reports own row.offer.firm row.offer.report (own-named reports rows given are (number - 1) row own (at-place rows number row at) there)

  pub report-within : own < length reports
  report-within = within reports own its-report.0 its-report.1

  pub report-found : ((r : Report) → Contains reports r → report_by reports r.firm r.id ≡ Some r) → report_by reports row.offer.firm row.offer.report ≡ slice_get reports own
  report-found found =
      let r = its-report in
      let same : Some (get_or reports own r.0) ≡ Some r.0 = sym (slice_get-get_or reports own r.0 report-within) ∙ r.1 in
      ap (λ p. report_by reports p.0 p.1) (sym r.2) ∙ found r.0 (own, report-within, cc) ∙ sym r.1

-- ---- a day is opened

names-next : (rows : List Row) → map given_by (map next_day rows) ≡ map given_by rows
names-next [] = refl
names-next (r ∷ rows) = ap (λ l. given_by r ∷ l) (names-next rows)

pub given-next : (reports : List Report) (rows : List Row) (given : GivenUp) → AreGivenUp reports rows given → AreGivenUp reports (map next_day rows) given
given-next reports rows given are = record {
  own = are.own ∙ sym (names-next rows);
  held = λ number. are.held number ∙ ap (λ f. option_map_or f (slice_get reports number) 0) (λ i r. sym (counted-next rows r.firm r.id) i);
}

-- ---- a report is added

longer : (reports : List Report) (r : Report) (number : ℕ) (q : Report) → slice_get reports number ≡ Some q → slice_get (reports ++ r ∷ []) number ≡ Some q
longer [] r number q at = cc
longer (p ∷ reports) r zero q at = at
longer (p ∷ reports) r (suc number) q at = longer reports r number q at

past : (reports : List Report) (r : Report) (number : ℕ) (f : Report → ℕ) → slice_get reports number ≡ None → f r ≡ 0 → option_map_or f (slice_get (reports ++ r ∷ []) number) 0 ≡ 0
past [] r zero f at e = e
past [] r (suc number) f at e = refl
past (p ∷ reports) r zero f at e = cc
past (p ∷ reports) r (suc number) f at e = past reports r number f at e

neither : (p q : Bool) → (p || q) ≡ false → (p ≡ false) × (q ≡ false)
neither true q h = cc
neither false true h = cc
neither false false h = (refl, refl)

-- none of the reports has a new one's names
not-by : (reports : List Report) (firm : FirmId) (id : Id) (number : ℕ) (q : Report) → has_report reports firm id ≡ false → slice_get reports number ≡ Some q → is_by firm id q ≡ false
not-by [] firm id number q new at = cc
not-by (p ∷ reports) firm id zero q new at = let one : p ≡ q = cc in ap (is_by firm id) (sym one) ∙ (neither (is_by firm id p) (has_report reports firm id) new).0
not-by (p ∷ reports) firm id (suc number) q new at = not-by reports firm id number q (neither (is_by firm id p) (has_report reports firm id) new).1 at

module _ (reports : List Report) (r : Report) (new : has_report reports r.firm r.id ≡ false) where
  -- the names of reports are unchanged, and no offer gives up the new one
  unnamed : (numbers : List ℕ) (rows : List Row) → map (names_at reports) numbers ≡ map given_by rows
      → (map (names_at (reports ++ r ∷ [])) numbers ≡ map given_by rows) × (counted_under rows r.firm r.id ≡ 0)
  unnamed [] [] own = (refl, refl)
  unnamed [] (row ∷ rows) own = cc
  unnamed (number ∷ numbers) [] own = cc
  unnamed (number ∷ numbers) (row ∷ rows) own =
      let rest = unnamed numbers rows cc in
      let q = named reports number row.offer.firm row.offer.report cc in
      let other : is_of_report r.firm r.id row ≡ false = ap (λ p. same_firm p.0 r.firm && same_id p.1 r.id) (sym q.2) ∙ not-by reports r.firm r.id number q.0 new q.1 in
      let name : names_at (reports ++ r ∷ []) number ≡ given_by row = ap (option_map names_of) (longer reports r number q.0 q.1) ∙ ap (λ p. Some p) q.2 in (
        (λ i. name i ∷ rest.0 i),
        omega (arith, rest.1, sum_by-cons (λ x. if is_of_report r.firm r.id x then counted_of x else 0) row rows, ap (λ b. if b then counted_of row else 0) other),
      )

  pub given-reported : (rows : List Row) (given : GivenUp) → AreGivenUp reports rows given → AreGivenUp (reports ++ r ∷ []) rows given
  given-reported rows given are = record {
    own = (unnamed given.report_of.items rows are.own).0;
    held = λ number. are.held number ∙ by number (slice_get reports number) refl;
  }
    where
      by : (number : ℕ) (found : Option Report) → slice_get reports number ≡ found
          → option_map_or (λ (q : Report). counted_under rows q.firm q.id) found 0 ≡ lots_held (reports ++ r ∷ []) rows number
      by number None e = sym (past reports r number (λ (q : Report). counted_under rows q.firm q.id) e (unnamed given.report_of.items rows are.own).1)
      by number (Some q) e = sym (ap (λ o. option_map_or (λ (q : Report). counted_under rows q.firm q.id) o 0) (longer reports r number q e))

  -- or it isn't added
  pub given-either : {T E : Type 0} (result : Result T E) (rows : List Row) (given : GivenUp) (later : List Report) → AreGivenUp reports rows given → OnOk result (later ≡ reports ++ r ∷ []) → OnErr result (later ≡ reports)
      → AreGivenUp later rows given
  given-either (Ok x) rows given later are added refused = subst (λ rs. AreGivenUp rs rows given) (sym added) (given-reported rows given are)
  given-either (Err e) rows given later are added refused = subst (λ rs. AreGivenUp rs rows given) (sym refused) are

-- ---- lines are given up

module _ (reports : List Report) (rows : List Row) (given : GivenUp) (firm : FirmId) (report : Id) (own : ℕ) (are : AreGivenUp reports rows given) (names : names_at reports own ≡ Some (firm, report)) where
  -- fewer than 2^64 lots of the report are held
  pub held-few : All IsSound rows → slice_index given.lots.items own ≤ 1000000 * length rows
  held-few sound = omega (arith, are.held own, held-named reports rows own firm report names, counted-few rows firm report (recursion_from_All IsSound rows sound))

  names-offered : (group : Group) (lines : List Line) → map (names_at reports) (replicate (length lines) own) ≡ map given_by (map (offered firm report group) lines)
  names-offered group [] = refl
  names-offered group (line ∷ lines) = λ i. names i ∷ names-offered group lines i

  pub given-offered : (group : Group) (lines : List Line) (later : GivenUp) → IsDistinct same_report reports → later.report_of.items ≡ given.report_of.items ++ replicate (length lines) own
      → ((number : ℕ) → slice_index later.lots.items number ≡ slice_index given.lots.items number + (if number == own then lots_in_all lines else 0))
      → AreGivenUp reports (with_lines rows firm report group lines) later
  given-offered group lines later distinct noted lots = record {
    own = ap (map (names_at reports)) noted ∙ map-append (names_at reports) given.report_of.items (replicate (length lines) own) ∙ (λ i. are.own i ++ names-offered group lines i)
        ∙ sym (map-append given_by rows (map (offered firm report group) lines));
    held = λ number. lots number ∙ ap (λ n. n + (if number == own then lots_in_all lines else 0)) (are.held number) ∙ by number (slice_get reports number) refl;
  }
    where
      by : (number : ℕ) (found : Option Report) → slice_get reports number ≡ found
          → option_map_or (λ (r : Report). counted_under rows r.firm r.id) found 0 + (if number == own then lots_in_all lines else 0)
          ≡ option_map_or (λ (r : Report). counted_under (with_lines rows firm report group lines) r.firm r.id) found 0
      by number None e = let none = ap (λ b. if b then lots_in_all lines else 0) (no-number reports number own firm report names e) in omega (arith, none)
      by number (Some r) e =
          omega (
            arith,
            sum_by-append (λ x. if is_of_report r.firm r.id x then counted_of x else 0) rows (map (offered firm report group) lines),
            counted-offered firm report group lines r.firm r.id,
            fewer (same_firm firm r.firm && same_id report r.id) (number == own) (lots_in_all lines) (same-number reports number own firm report r distinct names e),
          )

-- ---- nothing changes

-- there is nothing
pub given-nothing : (reports : List Report) (rows : List Row) (given : GivenUp) → reports ≡ [] → rows ≡ [] → given.report_of.items ≡ [] → given.lots.items ≡ [] → AreGivenUp reports rows given
given-nothing reports rows given none no_rows noted lots = record {
  own = (λ i. map (names_at (none i)) (noted i)) ∙ sym (ap (map given_by) no_rows);
  held = λ number. ap (λ l. slice_index l number) lots ∙ sym (λ i. lots_held (none i) (no_rows i) number);
}

-- room is made
pub given-same : (reports : List Report) (rows : List Row) (given later : GivenUp) → AreGivenUp reports rows given → later.report_of.items ≡ given.report_of.items
    → ((number : ℕ) → slice_index later.lots.items number ≡ slice_index given.lots.items number) → AreGivenUp reports rows later
given-same reports rows given later are noted lots = record { own = ap (map (names_at reports)) noted ∙ are.own; held = λ number. lots number ∙ are.held number }

-- ---- a column of lots

-- zeros at its end change none of them
pub index-zeros : (lots : List ℕ) (more number : ℕ) → slice_index (lots ++ replicate more 0) number ≡ slice_index lots number
index-zeros [] zero number = refl
index-zeros [] (suc more) zero = refl
index-zeros [] (suc more) (suc number) = index-zeros [] more number
index-zeros (n ∷ lots) more zero = refl
index-zeros (n ∷ lots) more (suc number) = index-zeros lots more number

-- ---- a report that is found by its firm and id

-- it has the number at which it is
pub names-found : {S : Type 0} (f : Report → S) (reports : List Report) (number : ℕ) (firm : FirmId) (id : Id) (standing : S) → slice_get reports number ≡ report_by reports firm id
    → Some standing ≡ option_map f (report_by reports firm id) → names_at reports number ≡ Some (firm, id)
names-found f reports number firm id standing at is = ap (option_map names_of) at ∙ by (report_by reports firm id) refl is
  where
    by : (found : Option Report) → report_by reports firm id ≡ found → Some standing ≡ option_map f found → option_map names_of found ≡ Some (firm, id)
    by None e none = absurd (none-some standing (sym none))
    by (Some r) e some = let names = names-are reports firm id r e in (λ i. Some (names.0 i, names.1 i))
