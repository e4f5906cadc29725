-- Reading a sheet line by line.
use Rattle.std.proofs.Common.{◌≡◌, ◌≢◌, ◌<◌, ◌⊎◌, ◌++◌, ◌∷◌, [], ◌∙◌, ◌&&◌, ◌||◌, not, nat_lt, ℕ, Bool, true, false, cond, List, Option, None, Some, length, map, take, IsTrue, Result, Ok, Err, IsErrAnd, refl, ap, sym, subst, inl, inr, arith, length-append, length-take}
use Rattle.std.specs.List.{filter_map, last_or}
use Rattle.std.specs.Prelude.{IfErr, IsErrOf, OnOk}
use Rattle.std.specs.Option.{option_map_or, option_or, option_to_list}
use Rattle.std.proofs.lemmas.Bool.{cond-true, or_parts, ltb-false, ltb-true}
use Rattle.std.proofs.lemmas.List.{append-nil, map-append, take_all, take-append-le}
use Rattle.std.proofs.lemmas.Option.{same_Some}
use Rattle.gu_terms.proofs.Gathered.{filter_map-last, last_or-given, last_or-last, push_each}
use Rattle.gu_terms.specs.declared.takes.Take.{Take}
use Rattle.gu_view.specs.Making.{MakesView, view_of}
use Rattle.gu_view.specs.declared.view.ViewOffer.{ViewOffer}
use Rattle.gu_view.specs.declared.view.Room.{Room}
use Rattle.gu_text.specs.Lines.{is_silent}
use Rattle.gu_text.specs.SheetLines.{says, spoken}
use Rattle.gu_text.specs.SheetParts.{SheetParts, part_of, header_in, offer_in, room_in, take_in, key_in, number_in, parts_of}
use Rattle.gu_text.specs.Sheets.{MayFollow, IsRightAfter, AreRight, said_in, comes_after, is_repeated, fits_after, IsSheetOf, AreTakes}
use Rattle.gu_text.specs.Reading.{no_parts, with_line, with_text_line, with_kept, with_kept_line, kept, most_offers, most_rooms, more_offers, more_rooms, line_fits, is_end, is_ended, AreOpen, IsMadeOf, MakesNone}
use Rattle.gu_text.specs.declared.error.TextError.{TextError}
use Rattle.gu_text.specs.declared.error.TextError.TheVariants.{BadLine}
use Rattle.gu_text.specs.declared.sheet.Sheet.{Sheet}
use Rattle.gu_text.specs.declared.sheet_so_far.SheetSoFar.TheVariants.{Open}
use Rattle.gu_text.specs.declared.sheet_line.Part.{Part}
use Rattle.gu_text.specs.declared.sheet_line.Part.TheVariants as part
use Rattle.gu_text.specs.declared.sheet_line.SheetLine.{SheetLine}
use Rattle.gu_text.specs.declared.sheet_line.SheetLine.TheVariants as line
use Rattle.gu_text.proofs.ViewBounds.{all_kept, kept_all, offers_few}

-- the parts with one more line
pub parts_of-last : (said : List SheetLine) (next : SheetLine) → parts_of (said ++ next ∷ []) ≡ with_line (parts_of said) next
parts_of-last said next =
    let last : last_or None (map part_of (said ++ next ∷ [])) ≡ Some (part_of next) = ap (last_or None) (map-append part_of said (next ∷ [])) ∙ last_or-last None (map part_of said) (part_of next) in
    let header : last_or None (filter_map header_in (said ++ next ∷ [])) ≡ option_or (header_in next) (last_or None (filter_map header_in said)) = ap (last_or None) (filter_map-last header_in said next) ∙ last_or-given None (filter_map header_in said) (header_in next) in
    rw (last, header, filter_map-last offer_in said next, filter_map-last room_in said next, filter_map-last take_in said next, filter_map-last key_in said next, filter_map-last number_in said next) refl

with_said : (said : List SheetLine) (o : Option SheetLine) → parts_of (said ++ option_to_list o) ≡ option_map_or (with_line (parts_of said)) o (parts_of said)
with_said said (Some next) = parts_of-last said next
with_said said None = ap parts_of (append-nil said)

-- the parts with one more line of the text
pub parts_of-said : (before : List (List ℕ)) (text : List ℕ) → parts_of (said_in (before ++ text ∷ [])) ≡ with_text_line (parts_of (said_in before)) text
parts_of-said before text = ap parts_of (filter_map-last says before text) ∙ with_said (said_in before) (says text)

-- lines that are right, and one more
pub right_last : (before : List (List ℕ)) (text : List ℕ) → AreRight before → IsRightAfter (said_in before) text → AreRight (before ++ text ∷ [])
right_last before text right last = push_each (λ ls line. IsRightAfter (said_in ls) line) before text right last

is_end-part : (next : SheetLine) → is_end (Some (part_of next)) ≡ false → next ≢ line.End
is_end-part next h e = let ended : is_end (Some (part_of next)) ≡ true = rw e refl in cc

speaks_right : (said : List SheetLine) (o : Option SheetLine) → option_map_or (fits_after (parts_of said)) o false ≡ true → is_ended (option_map_or (with_line (parts_of said)) o (parts_of said)) ≡ false
    → (next : SheetLine) × (o ≡ Some next) × MayFollow said next
speaks_right said None fits unended = cc
speaks_right said (Some next) fits unended = (next, refl, record { fits = fits; view = λ e. absurd (is_end-part next unended e) })

silent_or : (silent b : Bool) → (silent || b) ≡ true → (silent ≡ true) ⊎ ((silent ≡ false) × (b ≡ true))
silent_or true b h = inl refl
silent_or false b h = inr (refl, h)

-- a line that fits, and isn't the end, is right
pub fits_right : (said : List SheetLine) (text : List ℕ) → line_fits (parts_of said) text ≡ true → is_ended (with_text_line (parts_of said) text) ≡ false → IsRightAfter said text
fits_right said text fits unended =
    elim (silent_or (is_silent text) (option_map_or (fits_after (parts_of said)) (says text) false) fits) [
      | inl silent ↦ inl silent
      | inr speaks ↦ inr (speaks_right said (says text) speaks.1 unended)
    ]

-- a line that doesn't fit isn't right
pub unfit_wrong : (said : List SheetLine) (text : List ℕ) → line_fits (parts_of said) text ≡ false → ¬ IsRightAfter said text
unfit_wrong said text unfit right =
    let both = or_parts (is_silent text) (option_map_or (fits_after (parts_of said)) (says text) false) unfit in
    elim right [
      | inl silent ↦ let e : true ≡ false = sym silent ∙ both.0 in cc
      | inr speaks ↦
          let said_it : option_map_or (fits_after (parts_of said)) (says text) false ≡ fits_after (parts_of said) speaks.0 = rw (speaks.1) refl in
          let e : true ≡ false = sym speaks.2.fits ∙ sym said_it ∙ both.1 in
          cc
    ]

silent_says : (text : List ℕ) → is_silent text ≡ true → says text ≡ None
silent_says text h = cond-true (is_silent text) None (spoken text) h

end_of : (next : SheetLine) → is_end (Some (part_of next)) ≡ true → next ≡ line.End
end_of (line.Sheet header) h = cc
end_of (line.Offer offer) h = cc
end_of (line.Room room) h = cc
end_of (line.Take t) h = cc
end_of (line.CutKey key) h = cc
end_of (line.CutOffer number) h = cc
end_of line.End h = refl

says_end : (parts : SheetParts) (o : Option SheetLine) → option_map_or (fits_after parts) o false ≡ true → is_ended (option_map_or (with_line parts) o parts) ≡ true
    → (o ≡ Some line.End) × IsTrue (fits_after parts line.End) × (option_map_or (with_line parts) o parts ≡ with_line parts line.End)
says_end parts None fits ended = cc
says_end parts (Some next) fits ended =
    let is = end_of next ended in
    (ap Some is, ap (fits_after parts) (sym is) ∙ fits, ap (with_line parts) is)

-- a line that fits and ends the sheet says the end
pub ends_said : (parts : SheetParts) (text : List ℕ) → line_fits parts text ≡ true → is_ended parts ≡ false → is_ended (with_text_line parts text) ≡ true
    → (says text ≡ Some line.End) × IsTrue (fits_after parts line.End) × (with_text_line parts text ≡ with_line parts line.End)
ends_said parts text fits unended ended =
    elim (silent_or (is_silent text) (option_map_or (fits_after parts) (says text) false) fits) [
      | inl silent ↦
          let same : with_text_line parts text ≡ parts = ap (λ (o : Option SheetLine). option_map_or (with_line parts) o parts) (silent_says text silent) in
          let e : true ≡ false = sym ended ∙ ap is_ended same ∙ unended in
          cc
      | inr speaks ↦ says_end parts (says text) speaks.1 ended
    ]

nothing : (next : SheetLine) (b : Bool) → (comes_after (Some part.End) (part_of next) && b) ≡ true → ⊥
nothing (line.Sheet header) b h = cc
nothing (line.Offer offer) b h = cc
nothing (line.Room room) b h = cc
nothing (line.Take t) b h = cc
nothing (line.CutKey key) b h = cc
nothing (line.CutOffer number) b h = cc
nothing line.End b h = cc

nothing_after : (parts : SheetParts) (next : SheetLine) → parts.last ≡ Some part.End → IsTrue (fits_after parts next) → ⊥
nothing_after parts next last fits =
    nothing next (not (is_repeated parts next)) (ap (λ (o : Option Part). comes_after o (part_of next) && not (is_repeated parts next)) (sym last) ∙ fits)

-- ---- what is stored

-- a line fits after the stored parts if it fits after all parts
fits_kept : (parts : SheetParts) (next : SheetLine) → fits_after (kept parts) next ≡ fits_after parts next
fits_kept parts (line.Sheet header) = refl
fits_kept parts (line.Offer offer) = refl
fits_kept parts (line.Room room) = refl
fits_kept parts (line.Take t) = refl
fits_kept parts (line.CutKey key) = refl
fits_kept parts (line.CutOffer number) = refl
fits_kept parts line.End = refl

pub line_fits-kept : (parts : SheetParts) (text : List ℕ) → line_fits (kept parts) text ≡ line_fits parts text
line_fits-kept parts text = ap (λ b. is_silent text || b) (by (says text))
  where
    by : (o : Option SheetLine) → option_map_or (fits_after (kept parts)) o false ≡ option_map_or (fits_after parts) o false
    by None = refl
    by (Some next) = fits_kept parts next

-- the first elements of a list, with one more if there is room for it
taken_more : {X : Type 0} (n : ℕ) (xs : List X) (x : X) (b : Bool) → nat_lt (length (take n xs)) n ≡ b → cond b (take n xs ++ x ∷ []) (take n xs) ≡ take n (xs ++ x ∷ [])
taken_more n xs x true room =
    let short : length xs < n = omega (arith, length-take n xs, ltb-true (length (take n xs)) n room) in
    ap (λ ys. ys ++ x ∷ []) (take_all n xs (omega (arith, short))) ∙ sym (take_all n (xs ++ x ∷ []) (omega (arith, short, length-append xs (x ∷ []))))
taken_more n xs x false full = sym (take-append-le n xs (x ∷ []) (omega (arith, length-take n xs, ltb-false (length (take n xs)) n full)))

offers_kept : (offers : List ViewOffer) (o : Option ViewOffer) → more_offers (take most_offers offers) o ≡ take most_offers (offers ++ option_to_list o)
offers_kept offers None = ap (take most_offers) (sym (append-nil offers))
offers_kept offers (Some offer) = taken_more most_offers offers offer (nat_lt (length (take most_offers offers)) most_offers) refl

rooms_kept : (rooms : List Room) (o : Option Room) → more_rooms (take most_rooms rooms) o ≡ take most_rooms (rooms ++ option_to_list o)
rooms_kept rooms None = ap (take most_rooms) (sym (append-nil rooms))
rooms_kept rooms (Some room) = taken_more most_rooms rooms room (nat_lt (length (take most_rooms rooms)) most_rooms) refl

-- adding a line to the stored parts gives the stored form of the parts with the line
with_kept-kept : (parts : SheetParts) (next : SheetLine) → with_kept (kept parts) next ≡ kept (with_line parts next)
with_kept-kept parts next = rw (offers_kept parts.offers (offer_in next), rooms_kept parts.rooms (room_in next)) refl

pub with_kept_line-kept : (parts : SheetParts) (text : List ℕ) → with_kept_line (kept parts) text ≡ kept (with_text_line parts text)
with_kept_line-kept parts text = by (says text)
  where
    by : (o : Option SheetLine) → option_map_or (with_kept (kept parts)) o (kept parts) ≡ kept (option_map_or (with_line parts) o parts)
    by None = refl
    by (Some next) = with_kept-kept parts next

-- ---- errors passed on

pub passed : {T : Type 0} (result : Result T TextError) (error other : TextError) → IsErrAnd result (λ e. e ≡ error) → IsErrOf result other → error ≡ other
passed (Ok x) error other h is = absurd h
passed (Err e) error other h is = let same : e ≡ other = cc in sym h ∙ same

-- a property that holds if a call succeeds, from what the call then says
pub on_ok_then : {T A B : Type 0} (result : Result T TextError) → (A → B) → OnOk result A → OnOk result B
on_ok_then (Ok x) then given = then given
on_ok_then (Err error) then given = tt

-- parts that make no sheet at the end are refused with its number, and make no view
pub none_made : {T : Type 0} (result : Result T TextError) (parts : SheetParts) (number n : ℕ) → IfErr result (λ error. (p : SheetParts) → Open parts ≡ Open p → MakesNone p number error) → IsErrOf result (BadLine n)
    → (n ≡ number) × (¬ MakesView parts.offers parts.rooms)
none_made (Ok x) parts number n none is = cc
none_made (Err error) parts number n none is = let same : error ≡ BadLine n = cc in subst (MakesNone parts number) same (none parts refl)

-- ---- one more line before the end

-- before the first line
pub open_none : AreOpen [] no_parts
open_none = record { right = λ place line at. absurd (let n : None ≡ Some line = at in cc); unended = refl; parts_are = refl }

-- the end isn't among open lines
pub unended_read : (lines : List (List ℕ)) (parts : SheetParts) → AreOpen lines parts → ¬ ((parts_of (said_in lines)).last ≡ Some part.End)
unended_read lines parts open_is ended =
    let was : is_ended parts ≡ true = ap is_ended open_is.parts_are ∙ ap is_end ended in
    let both : true ≡ false = sym was ∙ open_is.unended in
    cc

-- after open lines, of whose parts these are the stored form
module _ (before : List (List ℕ)) (parts : SheetParts) (open_is : AreOpen before parts) (text : List ℕ) where
  abbrev given : SheetParts
  given = parts_of (said_in before)

  fits_all : line_fits parts text ≡ line_fits given text
  fits_all = ap (λ p. line_fits p text) open_is.parts_are ∙ line_fits-kept given text

  -- a line that doesn't fit is wrong
  pub wrong_more : line_fits parts text ≡ false → ¬ IsRightAfter (said_in before) text
  wrong_more unfit = unfit_wrong (said_in before) text (sym fits_all ∙ unfit)

  module _ (new : SheetParts) (fits : line_fits parts text ≡ true) (new_is : new ≡ with_kept_line parts text) where
    new_kept : new ≡ kept (with_text_line given text)
    new_kept = new_is ∙ ap (λ p. with_kept_line p text) open_is.parts_are ∙ with_kept_line-kept given text

    -- one that fits and isn't the end leaves them open
    pub open_more : is_ended new ≡ false → AreOpen (before ++ text ∷ []) new
    open_more unended = record {
      right = right_last before text open_is.right (fits_right (said_in before) text (sym fits_all ∙ fits) (sym (ap is_ended new_kept) ∙ unended));
      unended = unended;
      parts_are = new_kept ∙ ap kept (sym (parts_of-said before text));
    }

    module _ (ended : is_ended new ≡ true) where
      the_end : (says text ≡ Some line.End) × IsTrue (fits_after given line.End) × (with_text_line given text ≡ with_line given line.End)
      the_end = ends_said given text (sym fits_all ∙ fits) (sym (ap is_ended open_is.parts_are) ∙ open_is.unended) (sym (ap is_ended new_kept) ∙ ended)

      -- the content of all lines, including the end
      abbrev all : SheetParts
      all = parts_of (said_in (before ++ text ∷ []))

      all_is : all ≡ with_line given line.End
      all_is = parts_of-said before text ∙ the_end.2

      offers_are : all.offers ≡ given.offers
      offers_are = ap (λ (p : SheetParts). p.offers) all_is ∙ append-nil given.offers

      rooms_are : all.rooms ≡ given.rooms
      rooms_are = ap (λ (p : SheetParts). p.rooms) all_is ∙ append-nil given.rooms

      new_all : new ≡ kept all
      new_all = new_kept ∙ ap kept (sym (parts_of-said before text))

      -- if they make no view, the end is wrong
      pub wrong_end : ¬ MakesView new.offers new.rooms → ¬ IsRightAfter (said_in before) text
      wrong_end none right =
          elim right [
            | inl silent ↦ let e : Some line.End ≡ None = sym the_end.0 ∙ silent_says text silent in cc
            | inr speaks ↦
                let is : speaks.0 ≡ line.End = same_Some speaks.0 line.End (sym speaks.1 ∙ the_end.0) in
                let makes : MakesView all.offers all.rooms = rw (offers_are, rooms_are) (speaks.2.view is) in
                let whole = all_kept all.offers all.rooms (offers_few (before ++ text ∷ [])) makes in
                none (rw (new_all, whole.0, whole.1) makes)
          ]

      -- if they make a sheet, all lines do
      pub sheet_made : (sheet : Sheet) → IsMadeOf new sheet → IsSheetOf (before ++ text ∷ []) sheet
      sheet_made sheet made =
          let of_kept : IsMadeOf (kept all) sheet = subst (λ (p : SheetParts). IsMadeOf p sheet) new_all made in
          let whole = kept_all all.offers all.rooms (offers_few (before ++ text ∷ [])) of_kept.makes in
          let makes : MakesView all.offers all.rooms = rw (whole.0, whole.1) at of_kept.makes in
          let view : sheet.view ≡ view_of sheet.view.group sheet.view.version all.offers all.rooms = rw (whole.0, whole.1) at of_kept.view in
          record {
            right = right_last before text open_is.right (inr (line.End, the_end.0, record { fits = the_end.1; view = λ e. rw (← offers_are, ← rooms_are) makes }));
            ended = ap (λ (p : SheetParts). p.last) all_is;
            header = of_kept.header;
            view = view;
            takes = of_kept.takes;
            cut = of_kept.cut;
          }

-- ---- one more line after the end

module _ (before : List (List ℕ)) (sheet : Sheet) (is_sheet : IsSheetOf before sheet) (text : List ℕ) where
  -- one that says nothing changes nothing
  pub silent_more : is_silent text ≡ true → IsSheetOf (before ++ text ∷ []) sheet
  silent_more silent =
      let same : said_in (before ++ text ∷ []) ≡ said_in before =
      filter_map-last says before text ∙ ap (λ (o : Option SheetLine). said_in before ++ option_to_list o) (silent_says text silent) ∙ append-nil (said_in before) in
      record {
        right = right_last before text is_sheet.right (inl silent);
        ended = ap (λ ls. (parts_of ls).last) same ∙ is_sheet.ended;
        header = ap (λ ls. (parts_of ls).header) same ∙ is_sheet.header;
        view = is_sheet.view ∙ ap (λ ls. view_of sheet.view.group sheet.view.version (parts_of ls).offers (parts_of ls).rooms) (sym same);
        takes = subst (λ (ts : List Take). AreTakes ts sheet.takes) (ap (λ ls. (parts_of ls).takes) (sym same)) is_sheet.takes;
        cut = is_sheet.cut ∙ ap (λ ls. (parts_of ls).cut) (sym same);
      }

  -- any other is wrong
  pub spoken_more : is_silent text ≡ false → ¬ IsRightAfter (said_in before) text
  spoken_more spoken right =
      elim right [
        | inl silent ↦ let e : true ≡ false = sym silent ∙ spoken in cc
        | inr speaks ↦ nothing_after (parts_of (said_in before)) speaks.0 is_sheet.ended speaks.2.fits
      ]
