-- The lines of a written sheet are allowed in their order.
use Rattle.std.proofs.Common.{◌≡◌, ◌≤◌, ◌<◌, ◌||◌, ◌==◌, ◌++◌, ℕ, Bool, true, false, List, [], ◌∷◌, Option, Some, None, filter, map, refl, sym, ap, ◌∙◌, arith, append-nil, append_assoc, subst, inl, inr}
use Rattle.std.specs.List.{AllByRecursion, cons_option, filter_map}
use Rattle.std.specs.Str.Lines.{lines}
use Rattle.std.proofs.lemmas.Bool.{cases_Bool, le-leb, lt-ltb, ne_eqb}
use Rattle.std.proofs.lemmas.List.{map-append}
use Rattle.std.proofs.lemmas.List.Elements.{filter_map-append}
use Rattle.gu_terms.proofs.Lists.{Later, Later-from_AllPairs}
use Rattle.gu_terms.specs.Cuts.{CutLists, has_number}
use Rattle.gu_terms.specs.LimitKeys.{has_key, key_eq}
use Rattle.gu_terms.specs.Takes.{lots_of}
use Rattle.gu_terms.specs.declared.limit_key.LimitKey.{LimitKey}
use Rattle.gu_terms.specs.declared.takes.Take.{Take}
use Rattle.gu_view.specs.Making.{MakesView}
use Rattle.gu_view.specs.View.{GroupView, IsView}
use Rattle.gu_view.specs.declared.view.ViewOffer.{ViewOffer}
use Rattle.gu_view.specs.declared.view.Room.{Room}
use Rattle.gu_text.specs.ReadBack.{IsWritable, joined, said_of}
use Rattle.gu_text.specs.SheetParts.{SheetParts, key_in, number_in, offer_in, part_of, parts_of, rank_of, room_in, take_in}
use Rattle.gu_text.specs.SheetText.{sheet_text}
use Rattle.gu_text.specs.Sheets.{AreRight, IsRightAfter, MayFollow, comes_after, is_repeated, said_in}
use Rattle.gu_text.specs.declared.sheet_line.Part.{Part}
use Rattle.gu_text.specs.declared.sheet_line.Part.TheVariants as part
use Rattle.gu_text.specs.declared.sheet_line.SheetLine.{SheetLine}
use Rattle.gu_text.specs.declared.sheet_line.SheetLine.TheVariants as line
use Rattle.gu_text.proofs.ReadBackLemmas.{lines_of_rows}
use Rattle.gu_text.proofs.SheetBack.{Matches, matches_append, rows_are, rows_match, rows_of, said_rows, text_of_rows}
use Rattle.gu_text.proofs.SheetLemmas.{parts_of-last, right_last}
use Rattle.gu_text.proofs.ViewsAgain.{makes_view, rooms_apart}

-- ---- lines after lines

-- each of these may follow those before it
abbrev pub AllFollow : List SheetLine → List SheetLine → Type 0
AllFollow before [] = Unit {0}
AllFollow before (next ∷ rest) = MayFollow before next × AllFollow (before ++ next ∷ []) rest

-- and those after them
all_follow-append : (before first second : List SheetLine) → AllFollow before first → AllFollow (before ++ first) second → AllFollow before (first ++ second)
all_follow-append before [] second h k = subst (λ (b : List SheetLine). AllFollow b second) (append-nil before) k
all_follow-append before (next ∷ first) second h k =
    (h.0, all_follow-append (before ++ next ∷ []) first second h.1 (subst (λ (b : List SheetLine). AllFollow b second) (sym (append_assoc before (next ∷ []) first)) k))

-- a line of this part or a later one may follow these
abbrev Reaches : List SheetLine → ℕ → Type 0
Reaches before r = (next : Part) → r ≤ rank_of next → comes_after (parts_of before).last next ≡ true

-- after a line that isn't the end
reached : (before : List SheetLine) (last : SheetLine) (r : ℕ) → rank_of (part_of last) ≤ r → rank_of (part_of last) < 5 → 1 ≤ r → Reaches (before ++ last ∷ []) r
reached before last r low most some next h =
    ap (λ (o : Option Part). comes_after o next) (ap (λ (p : SheetParts). p.last) (parts_of-last before last))
    ∙ rw (lt-ltb 0 (rank_of next) (omega (arith, some, h)), lt-ltb (rank_of (part_of last)) 5 most, le-leb (rank_of (part_of last)) (rank_of next) (omega (arith, low, h))) refl

-- lines of one part
module _ {X : Type 0} (f : X → SheetLine) (r : ℕ) (kind : (x : X) → rank_of (part_of (f x)) ≡ r) (some : 1 ≤ r) (most : r < 5) (before : List SheetLine) where
  -- one of them
  one_follows : (done : List X) (x : X) → is_repeated (parts_of (before ++ map f done)) (f x) ≡ false → Reaches (before ++ map f done) r → MayFollow (before ++ map f done) (f x)
  one_follows done x fresh reaches = record {
    fits = rw (reaches (part_of (f x)) (omega (arith, kind x)), fresh) refl;
    view = λ e. let five : rank_of (part_of (f x)) ≡ 5 = ap (λ (l : SheetLine). rank_of (part_of l)) e in absurd (omega (arith, five, kind x, most));
  }

  -- the remaining ones, after those that are done
  go : (done rest : List X) → ((first : List X) (x : X) (later : List X) → done ++ rest ≡ first ++ x ∷ later → is_repeated (parts_of (before ++ map f first)) (f x) ≡ false) → Reaches (before ++ map f done) r
      → AllFollow (before ++ map f done) (map f rest) × Reaches (before ++ map f (done ++ rest)) r
  go done [] fresh reaches = (tt, subst (λ (xs : List X). Reaches (before ++ map f xs) r) (sym (append-nil done)) reaches)
  go done (x ∷ rest) fresh reaches =
      let here : before ++ map f (done ++ x ∷ []) ≡ (before ++ map f done) ++ f x ∷ [] =
      ap (λ (ls : List SheetLine). before ++ ls) (map-append f done (x ∷ [])) ∙ sym (append_assoc before (map f done) (f x ∷ [])) in
      let next = go (done ++ x ∷ []) rest (λ first y later e. fresh first y later (sym (append_assoc done (x ∷ []) rest) ∙ e))
      (subst (λ (ls : List SheetLine). Reaches ls r) (sym here) (reached (before ++ map f done) (f x) r (omega (arith, kind x)) (omega (arith, kind x, most)) some)) in (
        (one_follows done x (fresh done x rest refl) reaches, subst (λ (ls : List SheetLine). AllFollow ls (map f rest)) here next.0),
        subst (λ (xs : List X). Reaches (before ++ map f xs) r) (append_assoc done (x ∷ []) rest) next.1,
      )

  -- all of them
  all_follow : (xs : List X) → ((first : List X) (x : X) (later : List X) → xs ≡ first ++ x ∷ later → is_repeated (parts_of (before ++ map f first)) (f x) ≡ false) → Reaches before r
      → AllFollow before (map f xs) × Reaches (before ++ map f xs) r
  all_follow xs fresh reaches =
      let all = go [] xs fresh (subst (λ (ls : List SheetLine). Reaches ls r) (sym (append-nil before)) reaches) in
      (subst (λ (ls : List SheetLine). AllFollow ls (map f xs)) (append-nil before) all.0, all.1)

-- ---- the content of lines

module _ {Y : Type 0} (g : SheetLine → Option Y) where
  -- lines that give something each
  pub given : {X : Type 0} (f : X → SheetLine) (h : X → Y) → ((x : X) → g (f x) ≡ Some (h x)) → (xs : List X) → filter_map g (map f xs) ≡ map h xs
  given f h is [] = refl
  given f h is (x ∷ xs) = ap (λ (o : Option Y). cons_option o (filter_map g (map f xs))) (is x) ∙ ap (λ (ys : List Y). h x ∷ ys) (given f h is xs)

  -- and lines that give nothing
  pub nothing : {X : Type 0} (f : X → SheetLine) → ((x : X) → g (f x) ≡ None) → (xs : List X) → filter_map g (map f xs) ≡ []
  nothing f is [] = refl
  nothing f is (x ∷ xs) = ap (λ (o : Option Y). cons_option o (filter_map g (map f xs))) (is x) ∙ nothing f is xs

  -- after lines that give nothing
  behind_none : {X : Type 0} (before : List SheetLine) (f : X → SheetLine) (h : X → Y) → ((x : X) → g (f x) ≡ Some (h x)) → filter_map g before ≡ [] → (xs : List X) → filter_map g (before ++ map f xs) ≡ map h xs
  behind_none before f h is none xs = filter_map-append g before (map f xs) ∙ ap (λ (ys : List Y). ys ++ filter_map g (map f xs)) none ∙ given f h is xs

-- ---- earlier elements

at_seam : {X : Type 0} (P : X → Type 0) (first : List X) (x : X) (later : List X) → AllByRecursion P (first ++ x ∷ later) → P x
at_seam P [] x later h = h.0
at_seam P (y ∷ first) x later h = at_seam P first x later h.1

-- each element before this one is related to it
before_seam : {X : Type 0} (R : X → X → Type 0) (first : List X) (x : X) (later : List X) → Later R (first ++ x ∷ later) → AllByRecursion (λ y. R y x) first
before_seam R [] x later h = tt
before_seam R (y ∷ first) x later h = (at_seam (R y) first x later h.0, before_seam R first x later h.1)

-- the elements that pass a test are related as before
pub later-filter : {X : Type 0} (R : X → X → Type 0) (p : X → Bool) (xs : List X) → Later R xs → Later R (filter p xs)
later-filter R p [] h = tt
later-filter {X} R p (x ∷ xs) h =
    elim (cases_Bool (p x)) [
      | inl hit ↦ rw hit (passing xs h.0, later-filter R p xs h.1)
      | inr miss ↦ rw miss (later-filter R p xs h.1)
    ]
  where
    passing : (ys : List X) → AllByRecursion (R x) ys → AllByRecursion (R x) (filter p ys)
    passing [] h = tt
    passing (y ∷ ys) h =
        elim (cases_Bool (p y)) [
          | inl hit ↦ rw hit (h.0, passing ys h.1)
          | inr miss ↦ rw miss (passing ys h.1)
        ]

-- a number above all of these isn't among them
no_number : {X : Type 0} (number : X → ℕ) (xs : List X) (n : ℕ) → AllByRecursion (λ x. number x < n) xs → has_number (map number xs) n ≡ false
no_number number [] n h = refl
no_number number (x ∷ xs) n h = rw (ne_eqb (number x) n (λ same. absurd (omega (arith, h.0, same))), no_number number xs n h.1) refl

-- a key that differs from all of these isn't among them
no_key : (rooms : List Room) (k : LimitKey) → AllByRecursion (λ (r : Room). key_eq r.key k ≡ false) rooms → has_key (map (λ (r : Room). r.key) rooms) k ≡ false
no_key [] k h = refl
no_key (r ∷ rooms) k h = rw (h.0, no_key rooms k h.1) refl

-- ---- the lines of a sheet

module _ (view : GroupView) (takes : List Take) (cut : CutLists) (sound : IsView view) (writable : IsWritable view takes) where
  abbrev head : List SheetLine
  head = line.Sheet (record { group = view.group; version = view.version }) ∷ []

  abbrev take_line : ViewOffer → SheetLine
  take_line o = line.Take (record { offer = o.number; lots = lots_of takes o.number })

  abbrev key_line : Room → SheetLine
  key_line r = line.CutKey r.key

  abbrev number_line : ViewOffer → SheetLine
  number_line o = line.CutOffer o.number

  abbrev keys : List Room
  keys = filter (λ (r : Room). has_key cut.keys r.key) view.rooms

  abbrev numbers : List ViewOffer
  numbers = filter (λ (o : ViewOffer). has_number cut.offers o.number) view.offers

  ascending : Later (λ (a b : ViewOffer). a.number < b.number) view.offers
  ascending = Later-from_AllPairs (λ (a b : ViewOffer). a.number < b.number) view.offers sound.ascending

  -- the lines up to each part
  abbrev to_offers : List SheetLine
  to_offers = head ++ map line.Offer view.offers

  abbrev to_rooms : List SheetLine
  to_rooms = to_offers ++ map line.Room view.rooms

  abbrev to_takes : List SheetLine
  to_takes = to_rooms ++ map take_line view.offers

  abbrev to_keys : List SheetLine
  to_keys = to_takes ++ map key_line keys

  abbrev pub to_numbers : List SheetLine
  to_numbers = to_keys ++ map number_line numbers

  -- their content, apart from the end
  module _ {Y : Type 0} (g : SheetLine → Option Y) where
    pub given_to_numbers : filter_map g to_numbers
        ≡ filter_map g head ++ filter_map g (map line.Offer view.offers) ++ filter_map g (map line.Room view.rooms) ++ filter_map g (map take_line view.offers) ++ filter_map g (map key_line keys) ++ filter_map g (map number_line numbers)
    given_to_numbers =
        filter_map-append g to_keys (map number_line numbers)
        ∙ ap (λ (ys : List Y). ys ++ filter_map g (map number_line numbers))
        (filter_map-append g to_takes (map key_line keys)
        ∙ ap (λ (ys : List Y). ys ++ filter_map g (map key_line keys))
        (filter_map-append g to_rooms (map take_line view.offers)
        ∙ ap (λ (ys : List Y). ys ++ filter_map g (map take_line view.offers))
        (filter_map-append g to_offers (map line.Room view.rooms)
        ∙ ap (λ (ys : List Y). ys ++ filter_map g (map line.Room view.rooms)) (filter_map-append g head (map line.Offer view.offers)))))

  -- no take, no key and no number comes before its part
  no_takes : filter_map take_in to_rooms ≡ []
  no_takes =
      filter_map-append take_in to_offers (map line.Room view.rooms)
      ∙ (λ i. no_takes_before i ++ nothing take_in line.Room (λ r. refl) view.rooms i)
    where
      no_takes_before : filter_map take_in to_offers ≡ []
      no_takes_before = filter_map-append take_in head (map line.Offer view.offers) ∙ nothing take_in line.Offer (λ o. refl) view.offers

  no_keys : filter_map key_in to_takes ≡ []
  no_keys =
      filter_map-append key_in to_rooms (map take_line view.offers)
      ∙ (λ i. (filter_map-append key_in to_offers (map line.Room view.rooms)
      ∙ (λ j. (filter_map-append key_in head (map line.Offer view.offers) ∙ nothing key_in line.Offer (λ o. refl) view.offers) j ++ nothing key_in line.Room (λ r. refl) view.rooms j)) i
      ++ nothing key_in take_line (λ o. refl) view.offers i)

  no_numbers : filter_map number_in to_keys ≡ []
  no_numbers =
      filter_map-append number_in to_takes (map key_line keys)
      ∙ (λ i. (filter_map-append number_in to_rooms (map take_line view.offers)
      ∙ (λ j. (filter_map-append number_in to_offers (map line.Room view.rooms)
      ∙ (λ k. (filter_map-append number_in head (map line.Offer view.offers) ∙ nothing number_in line.Offer (λ o. refl) view.offers) k ++ nothing number_in line.Room (λ r. refl) view.rooms k)) j
      ++ nothing number_in take_line (λ o. refl) view.offers j)) i
      ++ nothing number_in key_line (λ r. refl) keys i)

  -- a take from an offer without one, and a key and a number not yet named
  fresh_take : (first : List ViewOffer) (o : ViewOffer) (later : List ViewOffer) → view.offers ≡ first ++ o ∷ later → is_repeated (parts_of (to_rooms ++ map take_line first)) (take_line o) ≡ false
  fresh_take first o later is =
      let before = before_seam (λ (a b : ViewOffer). a.number < b.number) first o later (subst (Later (λ (a b : ViewOffer). a.number < b.number)) is ascending) in
      ap (λ (ts : List Take). has_number (map (λ (t : Take). t.offer) ts) o.number) (behind_none take_in to_rooms take_line (λ (p : ViewOffer). record { offer = p.number; lots = lots_of takes p.number }) (λ p. refl) no_takes first)
      ∙ named first
      ∙ no_number (λ (p : ViewOffer). p.number) first o.number before
    where
      named : (offers : List ViewOffer) → has_number (map (λ (t : Take). t.offer) (map (λ (p : ViewOffer). record { offer = p.number; lots = lots_of takes p.number }) offers)) o.number ≡ has_number (map (λ (p : ViewOffer). p.number) offers) o.number
      named [] = refl
      named (p ∷ offers) = ap (λ b. (p.number == o.number) || b) (named offers)

  fresh_key : (first : List Room) (r : Room) (later : List Room) → keys ≡ first ++ r ∷ later → is_repeated (parts_of (to_takes ++ map key_line first)) (key_line r) ≡ false
  fresh_key first r later is =
      let differ = later-filter (λ (a b : Room). key_eq a.key b.key ≡ false) (λ (q : Room). has_key cut.keys q.key) view.rooms (rooms_apart view sound) in
      let before = before_seam (λ (a b : Room). key_eq a.key b.key ≡ false) first r later (subst (Later (λ (a b : Room). key_eq a.key b.key ≡ false)) is differ) in
      ap (λ (ks : List LimitKey). has_key ks r.key) (behind_none key_in to_takes key_line (λ (q : Room). q.key) (λ q. refl) no_keys first) ∙ no_key first r.key before

  fresh_number : (first : List ViewOffer) (o : ViewOffer) (later : List ViewOffer) → numbers ≡ first ++ o ∷ later → is_repeated (parts_of (to_keys ++ map number_line first)) (number_line o) ≡ false
  fresh_number first o later is =
      let rising = later-filter (λ (a b : ViewOffer). a.number < b.number) (λ (p : ViewOffer). has_number cut.offers p.number) view.offers ascending in
      let before = before_seam (λ (a b : ViewOffer). a.number < b.number) first o later (subst (Later (λ (a b : ViewOffer). a.number < b.number)) is rising) in
      ap (λ (ns : List ℕ). has_number ns o.number) (behind_none number_in to_keys number_line (λ (p : ViewOffer). p.number) (λ p. refl) no_numbers first) ∙ no_number (λ (p : ViewOffer). p.number) first o.number before

  -- the offers and rooms in the lines before the end
  pub offers_given : (parts_of to_numbers).offers ≡ view.offers
  offers_given =
      given_to_numbers offer_in
      ∙ (λ i. (self i ++ nothing offer_in line.Room (λ r. refl) view.rooms i) ++ nothing offer_in take_line (λ o. refl) view.offers i ++ nothing offer_in key_line (λ r. refl) keys i ++ nothing offer_in number_line (λ o. refl) numbers i)
      ∙ simp append-nil
    where
      self : filter_map offer_in (map line.Offer view.offers) ≡ view.offers
      self = given offer_in line.Offer (λ o. o) (λ o. refl) view.offers ∙ same view.offers
        where
          same : (os : List ViewOffer) → map (λ o. o) os ≡ os
          same [] = refl
          same (o ∷ os) = ap (λ (more : List ViewOffer). o ∷ more) (same os)

  pub rooms_given : (parts_of to_numbers).rooms ≡ view.rooms
  rooms_given =
      given_to_numbers room_in
      ∙ (λ i. (nothing room_in line.Offer (λ o. refl) view.offers i ++ self i) ++ nothing room_in take_line (λ o. refl) view.offers i ++ nothing room_in key_line (λ r. refl) keys i ++ nothing room_in number_line (λ o. refl) numbers i)
      ∙ simp append-nil
    where
      self : filter_map room_in (map line.Room view.rooms) ≡ view.rooms
      self = given room_in line.Room (λ r. r) (λ r. refl) view.rooms ∙ same view.rooms
        where
          same : (rs : List Room) → map (λ r. r) rs ≡ rs
          same [] = refl
          same (r ∷ rs) = ap (λ (more : List Room). r ∷ more) (same rs)

  -- the lines follow one another
  pub said_follow : AllFollow [] (said_of view takes cut)
  said_follow =
      let first : AllFollow [] head = (record { fits = refl; view = λ e. absurd (rank_differs e) }, tt) in
      let after_head : Reaches head 1 = reached [] (line.Sheet (record { group = view.group; version = view.version })) 1 (omega arith) (omega arith) (omega arith) in
      let offers = all_follow line.Offer 1 (λ o. refl) (omega arith) (omega arith) head view.offers (λ done o later is. refl) after_head in
      let rooms = all_follow line.Room 2 (λ r. refl) (omega arith) (omega arith) to_offers view.rooms (λ done r later is. refl) (λ next h. offers.1 next (omega (arith, h))) in
      let taken = all_follow take_line 3 (λ o. refl) (omega arith) (omega arith) to_rooms view.offers fresh_take (λ next h. rooms.1 next (omega (arith, h))) in
      let in_cut = all_follow key_line 4 (λ r. refl) (omega arith) (omega arith) to_takes keys fresh_key (λ next h. taken.1 next (omega (arith, h))) in
      let numbered = all_follow number_line 4 (λ o. refl) (omega arith) (omega arith) to_keys numbers fresh_number (λ next h. in_cut.1 next h) in
      let end : MayFollow to_numbers line.End = record {
        fits = rw (numbered.1 part.End (omega arith)) refl;
        view = λ e. subst (λ (os : List ViewOffer). MakesView os (parts_of to_numbers).rooms) (sym offers_given) (subst (λ (rs : List Room). MakesView view.offers rs) (sym rooms_given) (makes_view view sound writable.numbers));
      } in
      all_follow-append [] to_numbers (line.End ∷ [])
      (all_follow-append [] to_keys (map number_line numbers)
      (all_follow-append [] to_takes (map key_line keys)
      (all_follow-append [] to_rooms (map take_line view.offers)
      (all_follow-append [] to_offers (map line.Room view.rooms)
      (all_follow-append [] head (map line.Offer view.offers) first offers.0) rooms.0) taken.0) in_cut.0) numbered.0)
      (end, tt)
    where
      rank_differs : ◌≡◌ {A = SheetLine} (line.Sheet (record { group = view.group; version = view.version })) line.End → ⊥
      rank_differs e = cc

-- ---- the text

-- rows whose content may follow are right lines
right_rows : (done : List (List (List ℕ))) (said : List SheetLine) (rows : List (List (List ℕ))) (next : List SheetLine) → Matches done said → Matches rows next → AllFollow said next → AreRight (map joined done)
    → AreRight (map joined (done ++ rows))
right_rows done said [] next m n follow right = subst (λ (rs : List (List (List ℕ))). AreRight (map joined rs)) (sym (append-nil done)) right
right_rows done said (words ∷ rows) [] m n follow right = absurd n
right_rows done said (words ∷ rows) (s ∷ next) m n follow right =
    let last : IsRightAfter (said_in (map joined done)) (joined words) = inr (s, n.0.says_it, subst (λ (ss : List SheetLine). MayFollow ss s) (sym (said_rows done said m)) follow.0) in
    let more : AreRight (map joined (done ++ words ∷ [])) = subst AreRight (sym (map-append joined done (words ∷ []))) (right_last (map joined done) (joined words) right last) in
    subst (λ (rs : List (List (List ℕ))). AreRight (map joined rs)) (append_assoc done (words ∷ []) rows)
    (right_rows (done ++ words ∷ []) (said ++ s ∷ []) rows next (matches_append done said (words ∷ []) (s ∷ []) m (n.0, tt)) n.1 follow.1 more)

-- the lines of a written sheet are right
pub written_right : (view : GroupView) (takes : List Take) (cut : CutLists) → IsView view → IsWritable view takes → AreRight (lines (sheet_text view takes cut))
written_right view takes cut sound writable =
    let rows = rows_of view takes cut in
    let matched = rows_match view takes cut writable in
    subst AreRight (sym (ap lines (text_of_rows view takes cut) ∙ lines_of_rows rows (rows_are rows (said_of view takes cut) matched)))
    (right_rows [] [] rows (said_of view takes cut) tt matched (said_follow view takes cut sound writable) (λ place line at. cc))
