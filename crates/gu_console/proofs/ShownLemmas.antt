-- The journal, stretch by stretch.
use Rattle.std.proofs.Common.{◌≡◌, ◌⊎◌, ◌∙◌, ℕ, ◌+◌, ◌-◌, ◌<◌, ◌≤◌, min, List, [], ◌∷◌, ◌++◌, Option, None, Result, Ok, Err, Bool, true, false, IsTrue, length, take, drop, get_or, inl, inr, refl, sym, ap, subst, arith, append_assoc, length-append, append-nil}
use Rattle.std.specs.Prelude.{◌↔◌, IsOk, OnOk}
use Rattle.std.specs.List.{flat_map}
use Rattle.std.proofs.lemmas.Grind.{flat_map-append}
use Rattle.std.proofs.lemmas.List.{length-drop, length-take, take-append-drop, take-append-le, take-take, take_more}
use Rattle.std.proofs.lemmas.Bool.{cases_lt}
use Rattle.std.proofs.Math.Seq.{take-add, take-append-add, take-append_seam}
use mathlib.Core.List.{IsPrefix}
use Rattle.gu_terms.specs.declared.day.Day.{Day}
use Rattle.gu_terms.specs.declared.entry.Entry.{Entry}
use Rattle.gu_text.specs.Texts.{line_of}
use Rattle.gu_script.specs.Journals.{entry_rows, open_after, rows_after}
use Rattle.gu_ref.specs.Tables.{Tables}
use Rattle.gu_desk.specs.Holds.{Sees}
use Rattle.gu_desk.specs.Seats.{SeatState}
use Rattle.gu_console.specs.Answers.{IsShown}
use Rattle.gu_console.specs.Copies.{AreCopies, AreLinesOf}
use Rattle.gu_console.specs.Shown.{IsStretch, day_after, journal_to, lines_after}

pub rows_after-append : (today : Option Day) (xs ys : List Entry) → rows_after today (xs ++ ys) ≡ rows_after today xs ++ rows_after (day_after today xs) ys
rows_after-append today [] ys = refl
rows_after-append today (x ∷ xs) ys =
    let next = open_after today x in
    ap (λ (rows : List (List (List ℕ))). entry_rows today x ++ rows) (rows_after-append next xs ys)
    ∙ sym (append_assoc (entry_rows today x) (rows_after next xs) (rows_after (day_after next xs) ys))

pub day_after-append : (today : Option Day) (xs ys : List Entry) → day_after today (xs ++ ys) ≡ day_after (day_after today xs) ys
day_after-append today [] ys = refl
day_after-append today (x ∷ xs) ys = day_after-append (open_after today x) xs ys

pub lines_after-append : (today : Option Day) (xs ys : List Entry) → lines_after today (xs ++ ys) ≡ lines_after today xs ++ lines_after (day_after today xs) ys
lines_after-append today xs ys =
    ap (λ (rows : List (List (List ℕ))). flat_map line_of rows) (rows_after-append today xs ys)
    ∙ flat_map-append line_of (rows_after today xs) (rows_after (day_after today xs) ys)

-- what was shown is shown still where the history goes on
pub shown_still : (shown : ℕ) (old new : List Entry) → IsPrefix old new → shown ≤ length old → take shown new ≡ take shown old
shown_still shown old new begins within = ap (λ (h : List Entry). take shown h) (sym begins.1) ∙ take-append-le shown old begins.0 within

pub within_still : (shown : ℕ) (old new : List Entry) → IsPrefix old new → shown ≤ length old → shown ≤ length new
within_still shown old new begins within = let size = ap (λ (h : List Entry). length h) (sym begins.1) in omega (arith, length-append old begins.0, size)

-- an operator's connection keeps where the journal that it follows stands
pub keeps_on : (shown : ℕ) (today : Option Day) (old new : List Entry) → IsPrefix old new → (shown ≤ length old) × (today ≡ day_after None (take shown old))
    → (shown ≤ length new) × (today ≡ day_after None (take shown new))
keeps_on shown today old new begins h = (within_still shown old new begins h.0, h.1 ∙ ap (λ (es : List Entry). day_after None es) (sym (shown_still shown old new begins h.0)))

-- the first so many of a list, where it may have fewer
take-min : (n : ℕ) (xs : List ℕ) → take (min n (length xs)) xs ≡ take n xs
take-min n xs =
    ap (λ (k : ℕ). take k xs) (sym (length-take n xs)) ∙ ap (λ (l : List ℕ). take (length (take n xs)) l) (sym (take-append-drop n xs))
    ∙ take-append_seam (take n xs) (drop n xs)

-- what holds of a success that is one
pub ok_then : {T E P : Type 0} (r : Result T E) → IsOk r → OnOk r P → P
ok_then (Ok x) is h = h
ok_then (Err e) is h = let no : ⊥ = cc in absurd no

-- what is kept of a line that goes on
pub kept_more : (old part new : List ℕ) (room : ℕ) → room + length old ≡ 1026 → new ≡ old ++ take (min room (length part)) part → new ≡ take 1026 (old ++ part)
kept_more old part new room size is =
    let count : length old + room ≡ 1026 = omega arith in
    is ∙ ap (λ (l : List ℕ). old ++ l) (take-min room part) ∙ sym (take-append-add old part room) ∙ ap (λ (n : ℕ). take n (old ++ part)) count

-- one entry's lines more
pub one_more_row : (today day : Option Day) (entries : List Entry) (place : ℕ) (entry : Entry) (text row : List ℕ) → place < length entries → entry ≡ get_or entries place entry
    → text ≡ lines_after today (take place entries) → day ≡ day_after today (take place entries) → row ≡ flat_map line_of (entry_rows day entry)
    → text ++ row ≡ lines_after today (take (place + 1) entries)
one_more_row today day entries place entry text row within is text_is day_is row_is =
    let front = take place entries in
    let more : take (place + 1) entries ≡ front ++ entry ∷ [] = take_more entries place entry within ∙ ap (λ (e : Entry). front ++ e ∷ []) (sym is) in
    let line : lines_after day (entry ∷ []) ≡ flat_map line_of (entry_rows day entry) = ap (λ (rows : List (List (List ℕ))). flat_map line_of rows) (append-nil (entry_rows day entry)) in
    ap (λ (t : List ℕ). t ++ row) text_is ∙ ap (λ (t : List ℕ). lines_after today front ++ t) (row_is ∙ sym line)
    ∙ ap (λ (d : Option Day). lines_after today front ++ lines_after d (entry ∷ [])) day_is
    ∙ sym (lines_after-append today front (entry ∷ [])) ∙ ap (λ (es : List Entry). lines_after today es) (sym more)

-- the day after one entry more
pub one_more_day : (today day later : Option Day) (entries : List Entry) (place : ℕ) (entry : Entry) → place < length entries → entry ≡ get_or entries place entry
    → day ≡ day_after today (take place entries) → later ≡ open_after day entry → later ≡ day_after today (take (place + 1) entries)
one_more_day today day later entries place entry within is day_is later_is =
    let front = take place entries in
    let more : take (place + 1) entries ≡ front ++ entry ∷ [] = take_more entries place entry within ∙ ap (λ (e : Entry). front ++ e ∷ []) (sym is) in
    later_is ∙ ap (λ (d : Option Day). open_after d entry) day_is ∙ sym (day_after-append today front (entry ∷ [])) ∙ ap (λ (es : List Entry). day_after today es) (sym more)

-- the journal of the first entries, and the lines of those that follow
journal_on : (front : List Entry) (shown count : ℕ) (today : Option Day) → today ≡ day_after None (take shown front)
    → journal_to front (shown + count) ≡ journal_to front shown ++ lines_after today (take count (drop shown front))
journal_on front shown count today is =
    ap (λ (es : List Entry). lines_after None es) (take-add shown count front) ∙ lines_after-append None (take shown front) (take count (drop shown front))
    ∙ ap (λ (d : Option Day). journal_to front shown ++ lines_after d (take count (drop shown front))) (sym is)

-- copies that were made are a stretch of the journal
module _ (front entries : List Entry) (shown end count : ℕ) (today later : Option Day) (text : List ℕ)
    (within : shown ≤ length front) (today_is : today ≡ day_after None (take shown front))
    (end_is : end ≡ min (length front) (shown + 256)) (entries_are : entries ≡ take (end - shown) (drop shown front))
    (lines : AreLinesOf today entries text count later) where
  how_many : length entries ≡ end - shown
  how_many =
      let size : length entries ≡ min (end - shown) (length (drop shown front)) = ap (λ (es : List Entry). length es) entries_are ∙ length-take (end - shown) (drop shown front) in
      let rest = length-drop shown front in
      omega arith

  first_ones : (n : ℕ) → n ≤ end - shown → take n entries ≡ take n (drop shown front)
  first_ones n few = ap (λ (es : List Entry). take n es) entries_are ∙ take-take n (end - shown) (drop shown front) few

  few : count ≤ end - shown
  few = let size = how_many in let most = lines.within in omega arith

  pub stretch_made : IsStretch front shown (shown + count) text
  stretch_made =
      let size = how_many in
      let most = few in
      let rest = end_is in
      record {
        text_is = journal_on front shown count today today_is
            ∙ ap (λ (es : List Entry). journal_to front shown ++ lines_after today es) (sym (first_ones count most))
            ∙ ap (λ (t : List ℕ). journal_to front shown ++ t) (sym lines.text_is);
        within = omega arith;
        few = (omega arith, omega arith);
        some = λ more. let one = lines.some (omega arith) in omega arith;
        short = elim lines.short [ inl small ↦ inl small | inr one ↦ inr (ap (λ (n : ℕ). shown + n) one) ];
        whole = elim lines.whole [ inl all ↦ whole_end all | inr long ↦ inr (inr (too_long long.0 long.1)) ];
      }
    where
      whole_end : count ≡ length entries → (shown + count ≡ length front) ⊎ ((shown + count ≡ shown + 256) ⊎ (65536 + length (journal_to front shown) < length (journal_to front (shown + count + 1))))
      whole_end all = elim (cases_lt (shown + 256) (length front)) [ inl high ↦ inr (inl (let size = how_many in let rest = end_is in omega arith)) | inr low ↦ inl (let size = how_many in let rest = end_is in omega arith) ]

      too_long : count < length entries → 65536 < length (lines_after today (take (count + 1) entries)) → 65536 + length (journal_to front shown) < length (journal_to front (shown + count + 1))
      too_long more long =
          let size = how_many in
          let line = journal_on front shown (count + 1) today today_is in
          let same : lines_after today (take (count + 1) entries) ≡ lines_after today (take (count + 1) (drop shown front)) = ap (λ (es : List Entry). lines_after today es) (first_ones (count + 1) (omega arith)) in
          let count_is : shown + (count + 1) ≡ shown + count + 1 = omega arith in
          let long_too : 65536 < length (lines_after today (take (count + 1) (drop shown front))) = subst (λ (t : List ℕ). 65536 < length t) same long in
          let all = ap (λ (t : List ℕ). length t) line ∙ length-append (journal_to front shown) (lines_after today (take (count + 1) (drop shown front))) in
          subst (λ (n : ℕ). 65536 + length (journal_to front shown) < length (journal_to front n)) count_is (omega arith)

  pub later_made : (shown + count ≤ length front) × (later ≡ day_after None (take (shown + count) front))
  later_made =
      let size = how_many in
      let most = few in
      let rest = end_is in (
        omega arith,
        lines.later_is ∙ ap (λ (es : List Entry). day_after today es) (first_ones count most)
            ∙ ap (λ (d : Option Day). day_after d (take count (drop shown front))) today_is
            ∙ sym (day_after-append None (take shown front) (take count (drop shown front)))
            ∙ ap (λ (es : List Entry). day_after None es) (sym (take-add shown count front)),
      )

-- lines for which there is room, or the first
pub room_left : (place : ℕ) (text row all first second : List ℕ) (ends : Bool) → ends ≡ false → IsTrue ends ↔ ((0 < place) × (65536 < length first + length second))
    → first ≡ text → second ≡ row → all ≡ text ++ row → (length all ≤ 65536) ⊎ (place + 1 ≡ 1)
room_left place text row all first second ends false_is tested is_text is_row is_all =
    let size = ap (λ (l : List ℕ). length l) is_all in
    let a = ap (λ (l : List ℕ). length l) is_text in
    let b = ap (λ (l : List ℕ). length l) is_row in
    elim (cases_lt 0 place) [
      | inl more ↦ elim (cases_lt 65536 (length first + length second)) [
        | inl long ↦ let is : ends ≡ true = tested.1 (more, long) in let no : ⊥ = cc in absurd no
        | inr low ↦ inl (omega (arith, length-append text row))
      ]
      | inr none ↦ inr (omega arith)
    ]

-- copies after as many entries as were shown
pub copied_from : (front : List Entry) (from shown end : ℕ) (old new entries : List Entry) → AreCopies front from old end new → from ≡ shown → old ≡ [] → entries ≡ new
    → (end ≡ min (length front) (shown + 256)) × (entries ≡ take (end - shown) (drop shown front))
copied_from front from shown end old new entries copies is none same = (
  copies.end_is ∙ ap (λ (n : ℕ). min (length front) (n + 256)) is,
  same ∙ copies.copied ∙ ap (λ (l : List Entry). l ++ take (end - from) (drop from front)) none ∙ ap (λ (n : ℕ). take (end - n) (drop n front)) is,
)

-- the next stretch is shown
pub shown_so : (reference : Tables) (old new : SeatState) (shown count counted : ℕ) (is_watch : Bool) (text said : List ℕ) → Sees reference old new
    → IsStretch new.front shown (shown + count) text → said ≡ text
    → IsShown reference (record { seat = old; shown = shown; counted = counted; is_watch = is_watch }) said
    (record { seat = new; shown = shown + count; counted = counted; is_watch = is_watch })
shown_so reference old new shown count counted is_watch text said sees stretch same = record {
  sees = sees;
  stretch = subst (λ (t : List ℕ). IsStretch new.front shown (shown + count) t) (sym same) stretch;
}
