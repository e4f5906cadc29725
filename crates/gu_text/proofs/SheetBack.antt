-- A written sheet is read back line by line.
use Rattle.std.proofs.Common.{◌≡◌, ◌++◌, ◌∷◌, [], ◌∙◌, ℕ, Bool, true, false, cond, List, Option, filter, map, get_or, refl, sym, ap, append-nil}
use Rattle.std.specs.Prelude.{codes, if◌then◌else◌}
use Rattle.std.specs.List.{AllByRecursion, cons_option, flat_map}
use Rattle.std.specs.Str.Lines.{lines}
use Rattle.std.proofs.lemmas.Grind.{flat_map-append}
use Rattle.std.proofs.lemmas.List.Elements.{All-filter, recursion_from_All}
use Rattle.gu_terms.specs.Cuts.{CutLists, has_number}
use Rattle.gu_terms.specs.LimitKeys.{has_key}
use Rattle.gu_terms.specs.Takes.{lots_of}
use Rattle.gu_terms.specs.declared.takes.Take.{Take}
use Rattle.gu_view.specs.View.{GroupView}
use Rattle.gu_view.specs.declared.view.ViewOffer.{ViewOffer}
use Rattle.gu_view.specs.declared.view.Room.{Room}
use Rattle.gu_text.specs.ReadBack.{AreWords, IsLineOf, IsReadAsWritten, IsWritable, joined, said_of}
use Rattle.gu_text.specs.SheetText.{cut_key_line, cut_key_words, cut_offer_line, cut_offer_words, end_line, head_line, head_words, offer_line, offer_words, room_line, room_words, sheet_text, take_line, take_words}
use Rattle.gu_text.specs.Sheets.{said_in}
use Rattle.gu_text.specs.Texts.{line_of}
use Rattle.gu_text.specs.declared.sheet_line.SheetLine.{SheetLine}
use Rattle.gu_text.specs.declared.sheet_line.SheetLine.TheVariants as line
use Rattle.gu_text.proofs.ReadBackLemmas.{lines_of_rows}
use Rattle.gu_text.proofs.ReadLemmas.{cut_key_back, cut_offer_back, end_back, head_back, offer_back, room_back, take_back}

-- each row is a line with the content at its index
abbrev pub Matches : List (List (List ℕ)) → List SheetLine → Type 0
Matches [] [] = Unit {0}
Matches (words ∷ rows) (said ∷ others) = IsLineOf words said × Matches rows others
Matches rows said = ⊥

matches_map : {X : Type 0} (f : X → List (List ℕ)) (g : X → SheetLine) (xs : List X) → AllByRecursion (λ x. IsLineOf (f x) (g x)) xs → Matches (map f xs) (map g xs)
matches_map f g [] each = tt
matches_map f g (x ∷ xs) each = (each.0, matches_map f g xs each.1)

pub matches_append : (rows : List (List (List ℕ))) (said : List SheetLine) (more : List (List (List ℕ))) (others : List SheetLine) → Matches rows said → Matches more others → Matches (rows ++ more) (said ++ others)
matches_append [] [] more others h k = k
matches_append [] (s ∷ said) more others h k = absurd h
matches_append (words ∷ rows) [] more others h k = absurd h
matches_append (words ∷ rows) (s ∷ said) more others h k = (h.0, matches_append rows said more others h.1 k)

pub rows_are : (rows : List (List (List ℕ))) (said : List SheetLine) → Matches rows said → AllByRecursion AreWords rows
rows_are [] said h = tt
rows_are (words ∷ rows) [] h = absurd h
rows_are (words ∷ rows) (s ∷ said) h = (h.0.are, rows_are rows said h.1)

pub said_rows : (rows : List (List (List ℕ))) (said : List SheetLine) → Matches rows said → said_in (map joined rows) ≡ said
said_rows [] [] h = refl
said_rows [] (s ∷ said) h = absurd h
said_rows (words ∷ rows) [] h = absurd h
said_rows (words ∷ rows) (s ∷ said) h =
    ap (λ (o : Option SheetLine). cons_option o (said_in (map joined rows))) h.0.says_it ∙ ap (λ (ss : List SheetLine). s ∷ ss) (said_rows rows said h.1)

-- ---- the text, row by row

rows_map : {X : Type 0} (f : X → List (List ℕ)) (xs : List X) → flat_map (λ x. line_of (f x)) xs ≡ flat_map line_of (map f xs)
rows_map f [] = refl
rows_map f (x ∷ xs) = ap (λ (text : List ℕ). line_of (f x) ++ text) (rows_map f xs)

one_row : (b : Bool) (text rest : List ℕ) (f : List (List ℕ)) (rows : List (List (List ℕ))) → text ≡ line_of f → rest ≡ flat_map line_of rows
    → (if b then text else []) ++ rest ≡ flat_map line_of (cond b (f ∷ rows) rows)
one_row true text rest f rows e h = ap (λ (t : List ℕ). t ++ rest) e ∙ ap (λ (t : List ℕ). line_of f ++ t) h
one_row false text rest f rows e h = h

map_filtered : {X : Type 0} (b : Bool) (f : X → List (List ℕ)) (x : X) (xs : List X) → map f (cond b (x ∷ xs) xs) ≡ cond b (f x ∷ map f xs) (map f xs)
map_filtered true f x xs = refl
map_filtered false f x xs = refl

rows_filtered : {X : Type 0} (p : X → Bool) (f : X → List (List ℕ)) (xs : List X) → flat_map (λ x. if p x then line_of (f x) else []) xs ≡ flat_map line_of (map f (filter p xs))
rows_filtered p f [] = refl
rows_filtered p f (x ∷ xs) =
    one_row (p x) (line_of (f x)) (flat_map (λ y. if p y then line_of (f y) else []) xs) (f x) (map f (filter p xs)) refl (rows_filtered p f xs)
    ∙ ap (flat_map line_of) (sym (map_filtered (p x) f x (filter p xs)))

joined_rows : (rows more : List (List (List ℕ))) (text rest : List ℕ) → text ≡ flat_map line_of rows → rest ≡ flat_map line_of more → text ++ rest ≡ flat_map line_of (rows ++ more)
joined_rows rows more text rest e h = ap (λ (t : List ℕ). t ++ rest) e ∙ ap (λ (t : List ℕ). flat_map line_of rows ++ t) h ∙ sym (flat_map-append line_of rows more)

-- seven parts of a text
seven_rows : (r0 r1 r2 r3 r4 r5 r6 : List (List (List ℕ))) (t0 t1 t2 t3 t4 t5 t6 : List ℕ)
    → t0 ≡ flat_map line_of r0 → t1 ≡ flat_map line_of r1 → t2 ≡ flat_map line_of r2 → t3 ≡ flat_map line_of r3 → t4 ≡ flat_map line_of r4 → t5 ≡ flat_map line_of r5 → t6 ≡ flat_map line_of r6
    → t0 ++ t1 ++ t2 ++ t3 ++ t4 ++ t5 ++ t6 ≡ flat_map line_of (r0 ++ r1 ++ r2 ++ r3 ++ r4 ++ r5 ++ r6)
seven_rows r0 r1 r2 r3 r4 r5 r6 t0 t1 t2 t3 t4 t5 t6 e0 e1 e2 e3 e4 e5 e6 =
    joined_rows (r0 ++ r1 ++ r2 ++ r3 ++ r4 ++ r5) r6 (t0 ++ t1 ++ t2 ++ t3 ++ t4 ++ t5) t6 (joined_rows (r0 ++ r1 ++ r2 ++ r3 ++ r4) r5 (t0 ++ t1 ++ t2 ++ t3 ++ t4) t5 (joined_rows (r0 ++ r1 ++ r2 ++ r3) r4 (t0 ++ t1 ++ t2 ++ t3) t4 (joined_rows (r0 ++ r1 ++ r2) r3 (t0 ++ t1 ++ t2) t3 (joined_rows (r0 ++ r1) r2 (t0 ++ t1) t2 (joined_rows r0 r1 t0 t1 e0 e1) e2) e3) e4) e5) e6

seven_match : (r0 r1 r2 r3 r4 r5 r6 : List (List (List ℕ))) (s0 s1 s2 s3 s4 s5 s6 : List SheetLine)
    → Matches r0 s0 → Matches r1 s1 → Matches r2 s2 → Matches r3 s3 → Matches r4 s4 → Matches r5 s5 → Matches r6 s6
    → Matches (r0 ++ r1 ++ r2 ++ r3 ++ r4 ++ r5 ++ r6) (s0 ++ s1 ++ s2 ++ s3 ++ s4 ++ s5 ++ s6)
seven_match r0 r1 r2 r3 r4 r5 r6 s0 s1 s2 s3 s4 s5 s6 e0 e1 e2 e3 e4 e5 e6 =
    matches_append (r0 ++ r1 ++ r2 ++ r3 ++ r4 ++ r5) (s0 ++ s1 ++ s2 ++ s3 ++ s4 ++ s5) r6 s6 (matches_append (r0 ++ r1 ++ r2 ++ r3 ++ r4) (s0 ++ s1 ++ s2 ++ s3 ++ s4) r5 s5 (matches_append (r0 ++ r1 ++ r2 ++ r3) (s0 ++ s1 ++ s2 ++ s3) r4 s4 (matches_append (r0 ++ r1 ++ r2) (s0 ++ s1 ++ s2) r3 s3 (matches_append (r0 ++ r1) (s0 ++ s1) r2 s2 (matches_append r0 s0 r1 s1 e0 e1) e2) e3) e4) e5) e6

-- the rows of a sheet
abbrev pub rows_of : GroupView → List Take → CutLists → List (List (List ℕ))
rows_of view takes cut =
    head_words view ∷ []
    ++ map offer_words view.offers
    ++ map room_words view.rooms
    ++ map (λ o. take_words o.number (lots_of takes o.number)) view.offers
    ++ map (λ r. cut_key_words r.key) (filter (λ r. has_key cut.keys r.key) view.rooms)
    ++ map (λ o. cut_offer_words o.number) (filter (λ o. has_number cut.offers o.number) view.offers)
    ++ (codes "END" ∷ []) ∷ []

pub text_of_rows : (view : GroupView) (takes : List Take) (cut : CutLists) → sheet_text view takes cut ≡ flat_map line_of (rows_of view takes cut)
text_of_rows view takes cut =
    let held_keys = filter (λ (r : Room). has_key cut.keys r.key) view.rooms in
    let held_offers = filter (λ (o : ViewOffer). has_number cut.offers o.number) view.offers in
    seven_rows (head_words view ∷ []) (map offer_words view.offers) (map room_words view.rooms) (map (λ (o : ViewOffer). take_words o.number (lots_of takes o.number)) view.offers)
    (map (λ (r : Room). cut_key_words r.key) held_keys) (map (λ (o : ViewOffer). cut_offer_words o.number) held_offers) ((codes "END" ∷ []) ∷ [])
    (head_line view) (flat_map offer_line view.offers) (flat_map room_line view.rooms) (flat_map (take_line takes) view.offers)
    (flat_map (cut_key_line cut) view.rooms) (flat_map (cut_offer_line cut) view.offers) end_line
    (sym (append-nil (line_of (head_words view))))
    (rows_map offer_words view.offers)
    (rows_map room_words view.rooms)
    (rows_map (λ (o : ViewOffer). take_words o.number (lots_of takes o.number)) view.offers)
    (rows_filtered (λ (r : Room). has_key cut.keys r.key) (λ (r : Room). cut_key_words r.key) view.rooms)
    (rows_filtered (λ (o : ViewOffer). has_number cut.offers o.number) (λ (o : ViewOffer). cut_offer_words o.number) view.offers)
    (sym (append-nil (line_of (codes "END" ∷ []))))

pub rows_match : (view : GroupView) (takes : List Take) (cut : CutLists) → IsWritable view takes → Matches (rows_of view takes cut) (said_of view takes cut)
rows_match view takes cut writable =
    let offers = matches_map offer_words line.Offer view.offers (recursion_from_All (λ (o : ViewOffer). IsLineOf (offer_words o) (line.Offer o)) view.offers
    (λ k d k_in. offer_back (get_or view.offers k d) (writable.paths k d k_in) (writable.names k d k_in) (writable.numbers k d k_in) (writable.lots k d k_in))) in
    let rooms = matches_map room_words line.Room view.rooms (recursion_from_All (λ (r : Room). IsLineOf (room_words r) (line.Room r)) view.rooms
    (λ k d k_in. room_back (get_or view.rooms k d) (writable.keys k d k_in) (writable.rooms k d k_in))) in
    let take_lines = matches_map (λ (o : ViewOffer). take_words o.number (lots_of takes o.number)) (λ (o : ViewOffer). line.Take (record { offer = o.number; lots = lots_of takes o.number })) view.offers
    (recursion_from_All (λ (o : ViewOffer). IsLineOf (take_words o.number (lots_of takes o.number)) (line.Take (record { offer = o.number; lots = lots_of takes o.number }))) view.offers
    (λ k d k_in. let number = (get_or view.offers k d).number in take_back (record { offer = number; lots = lots_of takes number }) (writable.numbers k d k_in) (writable.taken number))) in
    let held_keys = filter (λ (r : Room). has_key cut.keys r.key) view.rooms in
    let keys = matches_map (λ (r : Room). cut_key_words r.key) (λ (r : Room). line.CutKey r.key) held_keys
    (recursion_from_All (λ (r : Room). IsLineOf (cut_key_words r.key) (line.CutKey r.key)) held_keys
    (All-filter (λ (r : Room). has_key cut.keys r.key) (λ (r : Room). IsLineOf (cut_key_words r.key) (line.CutKey r.key)) view.rooms
    (λ k d k_in. cut_key_back (get_or view.rooms k d).key (writable.keys k d k_in)))) in
    let held_offers = filter (λ (o : ViewOffer). has_number cut.offers o.number) view.offers in
    let numbers = matches_map (λ (o : ViewOffer). cut_offer_words o.number) (λ (o : ViewOffer). line.CutOffer o.number) held_offers
    (recursion_from_All (λ (o : ViewOffer). IsLineOf (cut_offer_words o.number) (line.CutOffer o.number)) held_offers
    (All-filter (λ (o : ViewOffer). has_number cut.offers o.number) (λ (o : ViewOffer). IsLineOf (cut_offer_words o.number) (line.CutOffer o.number)) view.offers
    (λ k d k_in. cut_offer_back (get_or view.offers k d).number (writable.numbers k d k_in)))) in
    seven_match (head_words view ∷ []) (map offer_words view.offers) (map room_words view.rooms) (map (λ (o : ViewOffer). take_words o.number (lots_of takes o.number)) view.offers)
    (map (λ (r : Room). cut_key_words r.key) held_keys) (map (λ (o : ViewOffer). cut_offer_words o.number) held_offers) ((codes "END" ∷ []) ∷ [])
    (line.Sheet (record { group = view.group; version = view.version }) ∷ []) (map line.Offer view.offers) (map line.Room view.rooms)
    (map (λ (o : ViewOffer). line.Take (record { offer = o.number; lots = lots_of takes o.number })) view.offers)
    (map (λ (r : Room). line.CutKey r.key) held_keys) (map (λ (o : ViewOffer). line.CutOffer o.number) held_offers) (line.End ∷ [])
    (head_back view writable.group writable.version, tt) offers rooms take_lines keys numbers (end_back, tt)

-- the lines of a written sheet have the content of its head, offers, rooms, takes and cut
pub read_as_written : (view : GroupView) (takes : List Take) (cut : CutLists) → IsWritable view takes → IsReadAsWritten view takes cut
read_as_written view takes cut writable =
    let rows = rows_of view takes cut in
    let matched = rows_match view takes cut writable in
    ap said_in (ap lines (text_of_rows view takes cut) ∙ lines_of_rows rows (rows_are rows (said_of view takes cut) matched))
    ∙ said_rows rows (said_of view takes cut) matched
