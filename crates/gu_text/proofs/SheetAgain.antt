-- A written sheet is read back as what it was made from; and a text is at most one sheet.
use Rattle.std.proofs.Common.{◌≡◌, ◌<◌, ◌≤◌, ◌==◌, ◌++◌, ℕ, nat_lt, List, [], ◌∷◌, Some, None, cond, filter, map, sum_by, refl, sym, ap, ◌∙◌, arith, append-nil, subst, inl, inr}
use Rattle.std.specs.List.{AllByRecursion, last_or}
use Rattle.std.specs.Str.Lines.{lines}
use Rattle.std.proofs.lemmas.Bool.{cases_Bool, eq-eqb, le-ltb, ltb-false, ne_eqb}
use Rattle.std.proofs.lemmas.List.Sorted.{IsPermutation-refl, sum_by-IsPermutation}
use Rattle.std.proofs.lemmas.List.Sums.{sum_by-cons}
use Rattle.gu_terms.proofs.Lists.{AllPairs-from_Later, Later, Later-from_AllPairs, along}
use Rattle.gu_terms.specs.Cuts.{CutLists, has_number}
use Rattle.gu_terms.specs.LimitKeys.{has_key}
use Rattle.gu_terms.specs.Takes.{lots_of}
use Rattle.gu_terms.specs.declared.takes.Take.{Take}
use Rattle.gu_view.specs.Making.{view_of}
use Rattle.gu_view.specs.View.{GroupView, IsView}
use Rattle.gu_view.specs.declared.view.ViewOffer.{ViewOffer}
use Rattle.gu_view.specs.declared.view.Room.{Room}
use Rattle.gu_text.specs.ReadBack.{IsWritable, said_of}
use Rattle.gu_text.specs.SheetParts.{SheetParts, header_in, key_in, number_in, parts_of, take_in}
use Rattle.gu_text.specs.SheetText.{sheet_text}
use Rattle.gu_text.specs.Sheets.{AreTakes, IsSheet, Refuses, said_in}
use Rattle.gu_text.specs.WrittenSheets.{cut_of, sheet_of, takes_of}
use Rattle.gu_text.specs.declared.error.TextError.{TextError}
use Rattle.gu_text.specs.declared.error.TextError.TheVariants.{Memory, BadLine}
use Rattle.gu_text.specs.declared.sheet.Sheet.{Sheet}
use Rattle.gu_text.specs.declared.sheet_line.Header.{Header}
use Rattle.gu_text.specs.declared.sheet_line.Part.TheVariants as part
use Rattle.gu_text.specs.declared.sheet_line.SheetLine.{SheetLine}
use Rattle.gu_text.specs.declared.sheet_line.SheetLine.TheVariants as line
use Rattle.gu_text.proofs.RightLines.{given, given_to_numbers, nothing, offers_given, rooms_given, to_numbers, written_right}
use Rattle.gu_text.proofs.SheetBack.{read_as_written}
use Rattle.gu_text.proofs.SheetLemmas.{parts_of-last}
use Rattle.gu_text.proofs.ViewsAgain.{makes_itself}

-- ---- the content of the lines of a written sheet

module _ (view : GroupView) (takes : List Take) (cut : CutLists) (sound : IsView view) (writable : IsWritable view takes) where
  abbrev before_end : List SheetLine
  before_end = to_numbers view takes cut sound writable

  -- the end has no other content
  last_is : (parts_of (said_of view takes cut)).last ≡ Some part.End
  last_is = ap (λ (p : SheetParts). p.last) (parts_of-last before_end line.End)

  header_is : (parts_of (said_of view takes cut)).header ≡ Some (record { group = view.group; version = view.version })
  header_is =
      ap (λ (p : SheetParts). p.header) (parts_of-last before_end line.End)
      ∙ ap (last_or None)
      (given_to_numbers view takes cut sound writable header_in
      ∙ (λ i. (record { group = view.group; version = view.version } ∷ []) ++ nothing header_in line.Offer (λ o. refl) view.offers i ++ nothing header_in line.Room (λ r. refl) view.rooms i
      ++ nothing header_in (λ (o : ViewOffer). line.Take (record { offer = o.number; lots = lots_of takes o.number })) (λ o. refl) view.offers i
      ++ nothing header_in (λ (r : Room). line.CutKey r.key) (λ r. refl) (filter (λ (r : Room). has_key cut.keys r.key) view.rooms) i
      ++ nothing header_in (λ (o : ViewOffer). line.CutOffer o.number) (λ o. refl) (filter (λ (o : ViewOffer). has_number cut.offers o.number) view.offers) i))

  offers_are : (parts_of (said_of view takes cut)).offers ≡ view.offers
  offers_are = ap (λ (p : SheetParts). p.offers) (parts_of-last before_end line.End) ∙ append-nil (parts_of before_end).offers ∙ offers_given view takes cut sound writable

  rooms_are : (parts_of (said_of view takes cut)).rooms ≡ view.rooms
  rooms_are = ap (λ (p : SheetParts). p.rooms) (parts_of-last before_end line.End) ∙ append-nil (parts_of before_end).rooms ∙ rooms_given view takes cut sound writable

  takes_are : (parts_of (said_of view takes cut)).takes ≡ takes_of view takes
  takes_are =
      ap (λ (p : SheetParts). p.takes) (parts_of-last before_end line.End)
      ∙ append-nil (parts_of before_end).takes
      ∙ given_to_numbers view takes cut sound writable take_in
      ∙ (λ i. nothing take_in line.Offer (λ o. refl) view.offers i ++ nothing take_in line.Room (λ r. refl) view.rooms i
      ++ given take_in (λ (o : ViewOffer). line.Take (record { offer = o.number; lots = lots_of takes o.number })) (λ o. record { offer = o.number; lots = lots_of takes o.number }) (λ o. refl) view.offers i
      ++ nothing take_in (λ (r : Room). line.CutKey r.key) (λ r. refl) (filter (λ (r : Room). has_key cut.keys r.key) view.rooms) i
      ++ nothing take_in (λ (o : ViewOffer). line.CutOffer o.number) (λ o. refl) (filter (λ (o : ViewOffer). has_number cut.offers o.number) view.offers) i)
      ∙ simp append-nil

  keys_are : (parts_of (said_of view takes cut)).cut.keys ≡ (cut_of view cut).keys
  keys_are =
      ap (λ (p : SheetParts). p.cut.keys) (parts_of-last before_end line.End)
      ∙ append-nil (parts_of before_end).cut.keys
      ∙ given_to_numbers view takes cut sound writable key_in
      ∙ (λ i. nothing key_in line.Offer (λ o. refl) view.offers i ++ nothing key_in line.Room (λ r. refl) view.rooms i
      ++ nothing key_in (λ (o : ViewOffer). line.Take (record { offer = o.number; lots = lots_of takes o.number })) (λ o. refl) view.offers i
      ++ given key_in (λ (r : Room). line.CutKey r.key) (λ r. r.key) (λ r. refl) (filter (λ (r : Room). has_key cut.keys r.key) view.rooms) i
      ++ nothing key_in (λ (o : ViewOffer). line.CutOffer o.number) (λ o. refl) (filter (λ (o : ViewOffer). has_number cut.offers o.number) view.offers) i)
      ∙ append-nil (cut_of view cut).keys

  numbers_are : (parts_of (said_of view takes cut)).cut.offers ≡ (cut_of view cut).offers
  numbers_are =
      ap (λ (p : SheetParts). p.cut.offers) (parts_of-last before_end line.End)
      ∙ append-nil (parts_of before_end).cut.offers
      ∙ given_to_numbers view takes cut sound writable number_in
      ∙ (λ i. nothing number_in line.Offer (λ o. refl) view.offers i ++ nothing number_in line.Room (λ r. refl) view.rooms i
      ++ nothing number_in (λ (o : ViewOffer). line.Take (record { offer = o.number; lots = lots_of takes o.number })) (λ o. refl) view.offers i
      ++ nothing number_in (λ (r : Room). line.CutKey r.key) (λ r. refl) (filter (λ (r : Room). has_key cut.keys r.key) view.rooms) i
      ++ given number_in (λ (o : ViewOffer). line.CutOffer o.number) (λ o. o.number) (λ o. refl) (filter (λ (o : ViewOffer). has_number cut.offers o.number) view.offers) i)

  -- the takes that are read ascend
  rising : (offers : List ViewOffer) → Later (λ (a b : ViewOffer). a.number < b.number) offers → Later (λ (a b : Take). a.offer < b.offer) (map (λ (o : ViewOffer). record { offer = o.number; lots = lots_of takes o.number }) offers)
  rising [] h = tt
  rising (o ∷ offers) h = (above offers h.0, rising offers h.1)
    where
      above : (others : List ViewOffer) → AllByRecursion (λ (p : ViewOffer). o.number < p.number) others
          → AllByRecursion (λ (t : Take). o.number < t.offer) (map (λ (p : ViewOffer). record { offer = p.number; lots = lots_of takes p.number }) others)
      above [] h = tt
      above (p ∷ others) h = (h.0, above others h.1)

  are_takes : AreTakes (takes_of view takes) (takes_of view takes)
  are_takes = record {
    same = IsPermutation-refl (takes_of view takes);
    ascending = AllPairs-from_Later (λ (a b : Take). a.offer < b.offer) (takes_of view takes) (rising view.offers (Later-from_AllPairs (λ (a b : ViewOffer). a.number < b.number) view.offers sound.ascending));
  }

  -- so the text is this sheet
  pub written_sheet : IsSheet (sheet_text view takes cut) (sheet_of view takes cut)
  written_sheet =
      let said = read_as_written view takes cut writable in
      record {
        right = written_right view takes cut sound writable;
        ended = ap (λ (ss : List SheetLine). (parts_of ss).last) said ∙ last_is;
        header = ap (λ (ss : List SheetLine). (parts_of ss).header) said ∙ header_is;
        view = makes_itself view sound
            ∙ (λ i. view_of view.group view.version (sym (ap (λ (ss : List SheetLine). (parts_of ss).offers) said ∙ offers_are) i) (sym (ap (λ (ss : List SheetLine). (parts_of ss).rooms) said ∙ rooms_are) i));
        takes = subst (λ (ts : List Take). AreTakes ts (takes_of view takes)) (sym (ap (λ (ss : List SheetLine). (parts_of ss).takes) said ∙ takes_are)) are_takes;
        cut = sym (ap (λ (ss : List SheetLine). (parts_of ss).cut) said ∙ (λ i. record { keys = keys_are i; offers = numbers_are i }));
      }

-- ---- one sheet

-- a sum of nothing
no_sum : (f : Take → ℕ) (takes : List Take) → AllByRecursion (λ t. f t ≡ 0) takes → sum_by f takes ≡ 0
no_sum f [] h = refl
no_sum f (t ∷ takes) h = omega (arith, sum_by-cons f t takes, h.0, no_sum f takes h.1)

-- ascending takes with the same sums are the same
same_takes : (a b : List Take) → Later (λ (s t : Take). s.offer < t.offer) a → Later (λ (s t : Take). s.offer < t.offer) b → ((f : Take → ℕ) → sum_by f a ≡ sum_by f b) → a ≡ b
same_takes [] [] h k sums = refl
same_takes [] (y ∷ b) h k sums = absurd (omega (arith, sums (λ t. 1), sum_by-cons (λ (t : Take). 1) y b))
same_takes (x ∷ a) [] h k sums = absurd (omega (arith, sums (λ t. 1), sum_by-cons (λ (t : Take). 1) x a))
same_takes (x ∷ a) (y ∷ b) h k sums =
    let up = not_below x y a b k.0 sums in
    let down = not_below y x b a h.0 (λ f. sym (sums f)) in
    let offers : x.offer ≡ y.offer = omega (arith, up, down) in
    let lots : x.lots ≡ y.lots = own x a h.0 ∙ sums (λ t. cond (t.offer == x.offer) t.lots 0) ∙ ap (λ (n : ℕ). sum_by (λ (t : Take). cond (t.offer == n) t.lots 0) (y ∷ b)) offers ∙ sym (own y b k.0) in
    let one : x ≡ y = λ i. record { offer = offers i; lots = lots i } in
    let rest = same_takes a b h.1 k.1 (λ f. omega (arith, sums f, sum_by-cons f x a, sum_by-cons f y b, ap f one)) in
    λ i. one i ∷ rest i
  where
    -- the first of one isn't from an earlier offer than the first of the other
    not_below : (x y : Take) (a b : List Take) → AllByRecursion (λ (t : Take). y.offer < t.offer) b → ((f : Take → ℕ) → sum_by f (x ∷ a) ≡ sum_by f (y ∷ b)) → y.offer ≤ x.offer
    not_below x y a b later sums =
        let f : Take → ℕ = λ t. cond (nat_lt t.offer y.offer) 1 0 in
        let none : sum_by f (y ∷ b) ≡ 0 = no_sum f (y ∷ b) (rw (le-ltb y.offer y.offer (omega arith)) refl, along (λ (t : Take). y.offer < t.offer) (λ (t : Take). f t ≡ 0) b (λ t above. rw (le-ltb t.offer y.offer (omega (arith, above))) refl) later) in
        elim (cases_Bool (nat_lt x.offer y.offer)) [
          | inl below ↦
              let one : f x ≡ 1 = rw below refl in
              absurd (omega (arith, one, none, sums f, sum_by-cons f x a))
          | inr above ↦ ltb-false x.offer y.offer above
        ]

    -- the lots of the first are those of its offer
    own : (x : Take) (a : List Take) → AllByRecursion (λ (t : Take). x.offer < t.offer) a → x.lots ≡ sum_by (λ (t : Take). cond (t.offer == x.offer) t.lots 0) (x ∷ a)
    own x a later =
        let f : Take → ℕ = λ t. cond (t.offer == x.offer) t.lots 0 in
        let mine : f x ≡ x.lots = rw (eq-eqb x.offer x.offer refl) refl in
        let others : sum_by f a ≡ 0 = no_sum f a (along (λ (t : Take). x.offer < t.offer) (λ (t : Take). f t ≡ 0) a (λ t above. rw (ne_eqb t.offer x.offer (λ same. absurd (omega (arith, above, same)))) refl) later) in
        omega (arith, sum_by-cons f x a, mine, others)

-- takes from the same lines are the same
takes_once : (listed a b : List Take) → AreTakes listed a → AreTakes listed b → a ≡ b
takes_once listed a b one two =
    same_takes a b (Later-from_AllPairs (λ (s t : Take). s.offer < t.offer) a one.ascending) (Later-from_AllPairs (λ (s t : Take). s.offer < t.offer) b two.ascending)
    (λ f. sum_by-IsPermutation f listed a one.same ∙ sym (sum_by-IsPermutation f listed b two.same))

-- a text is one sheet at most
pub one_sheet : (text : List ℕ) (a b : Sheet) → IsSheet text a → IsSheet text b → a ≡ b
one_sheet text a b one two =
    let parts = parts_of (said_in (lines text)) in
    let A : Header = record { group = a.view.group; version = a.view.version } in
    let B : Header = record { group = b.view.group; version = b.view.version } in
    let headers : Some A ≡ Some B = sym one.header ∙ two.header in
    let same : A ≡ B = cc in
    let views : a.view ≡ b.view = one.view ∙ (λ i. view_of (same i).group (same i).version parts.offers parts.rooms) ∙ sym two.view in
    let takes = takes_once parts.takes a.takes b.takes one.takes two.takes in
    let cuts : a.cut ≡ b.cut = one.cut ∙ sym two.cut in
    λ i. record { view = views i; takes = takes i; cut = cuts i }

-- and is then refused only for lack of memory
pub not_refused : (text : List ℕ) (sheet : Sheet) (error : TextError) → IsSheet text sheet → Refuses text error → error ≡ Memory
not_refused text sheet Memory is refused = refl
not_refused text sheet (BadLine number) is refused =
    elim refused [
      | inl bad ↦ absurd (bad.bad (is.right bad.place bad.line bad.at))
      | inr unended ↦ absurd (unended.unended is.ended)
    ]
