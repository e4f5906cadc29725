-- Stored entries are unchanged when texts are added after theirs or removed there.
use Rattle.std.proofs.Common.{◌≡◌, ℕ, suc, ◌+◌, ◌-◌, ◌<◌, ◌≤◌, ◌^◌, List, [], ◌∷◌, ◌++◌, All, length, map, min, take, drop, Some, arith, refl, sym, ap, inl, inr, subst, ◌∙◌, get_or, take-append-drop}
use Rattle.std.specs.List.{AllPairs, slice_get}
use Rattle.std.specs.Option.{option_map}
use Rattle.std.proofs.lemmas.Bool.{cases_eq}
use Rattle.std.proofs.lemmas.Option.{slice_get-get_or, slice_get-map, slice_get_read}
use Rattle.std.proofs.lemmas.List.{append-nil, append_assoc, drop-append-le, length-append, get_or-take, length-drop, length-take, length-take-le, map-append, take-append-le, take-map}
use Rattle.std.proofs.lemmas.List.Elements.{All-push, All-take}
use Rattle.std.proofs.lemmas.List.Quantifiers.{all_pairs_push}
use Rattle.std.proofs.Math.Seq.{drop-append_seam, take-append_seam}
use Rattle.gu_terms.specs.PackedEntries.{AreKept, AreShort, AreSound, AreTextsOf, IsNameOf, IsWithin, Texts, end_of, end_of_last, entry_of, entry_with, joined, size_of, span_of, text_at, texts_at}
use Rattle.gu_terms.specs.declared.kept_texts.Span.{Span}
use Rattle.gu_terms.specs.declared.packed.Packed.{Packed}

-- bytes within the texts are unchanged, whatever follows
text_at-front : (texts more : List ℕ) (at len : ℕ) → at + len ≤ length texts → text_at (texts ++ more) at len ≡ text_at texts at len
text_at-front texts more at len within =
    ap (take len) (drop-append-le at texts more (omega (arith, within)))
    ∙ take-append-le len (drop at texts) more (omega (arith, length-drop at texts, within))

-- so are the texts of an entry
texts_at-front : (texts more : List ℕ) (s : Span) → s.at + size_of s ≤ length texts → texts_at (texts ++ more) s ≡ texts_at texts s
texts_at-front texts more s h =
    let own_id = text_at-front texts more s.at s.own_id (omega (arith, h)) in
    let other_id = text_at-front texts more (s.at + s.own_id) s.other_id (omega (arith, h)) in
    let symbol_or_group = text_at-front texts more (s.at + s.own_id + s.other_id) s.symbol_or_group (omega (arith, h)) in
    let account_or_key = text_at-front texts more (s.at + s.own_id + s.other_id + s.symbol_or_group) s.account_or_key (omega (arith, h)) in
    let firm = text_at-front texts more (s.at + s.own_id + s.other_id + s.symbol_or_group + s.account_or_key) s.firm (omega (arith, h)) in
    let reply = text_at-front texts more (s.at + s.own_id + s.other_id + s.symbol_or_group + s.account_or_key + s.firm) s.reply (omega (arith, h)) in
    rw (own_id, other_id, symbol_or_group, account_or_key, firm, reply) refl

module _ (texts more : List ℕ) (kept : Packed) (h : end_of kept ≤ length texts) where
  -- so the entry is the same
  entry_of-front : entry_of (texts ++ more) kept ≡ entry_of texts kept
  entry_of-front = ap (λ (t : Texts). entry_with t kept) (texts_at-front texts more kept.span h)

  AreSound-front : AreSound (texts_at texts kept.span) kept ≡ AreSound (texts_at (texts ++ more) kept.span) kept
  AreSound-front = ap (λ (t : Texts). AreSound t kept) (sym (texts_at-front texts more kept.span h))

IsWithin-front : (texts more : List ℕ) (kept : Packed) → IsWithin texts kept → IsWithin (texts ++ more) kept
IsWithin-front texts more kept h = record {
  within = omega (arith, length-append texts more, h.within);
  sound = subst (λ X. X) (AreSound-front texts more kept h.within) h.sound;
}

map-front : (texts more : List ℕ) (entries : List Packed) → All (λ k. end_of k ≤ length texts) entries
    → map (entry_of (texts ++ more)) entries ≡ map (entry_of texts) entries
map-front texts more [] h = refl
map-front texts more (k ∷ ks) h =
    ap (λ e. e ∷ map (entry_of (texts ++ more)) ks) (entry_of-front texts more k (h 0 k (omega arith)))
    ∙ ap (λ es. entry_of texts k ∷ es) (map-front texts more ks (λ i d within. h (suc i) d (omega arith)))

-- a text after others is found at its position
text_at-new : (before text more all : List ℕ) (at : ℕ) → all ≡ before ++ (text ++ more) → at ≡ length before → text_at all at (length text) ≡ text
text_at-new before text more all at is there = rw (is, there, drop-append_seam before (text ++ more), take-append_seam text more) refl

-- the total length of texts in bytes
size_of-new : (t : Texts) → size_of (span_of 0 t) ≡ length (joined t)
size_of-new t =
    omega (
      arith,
      length-append t.own_id (t.other_id ++ (t.symbol_or_group ++ (t.account_or_key ++ (t.firm ++ t.reply)))),
      length-append t.other_id (t.symbol_or_group ++ (t.account_or_key ++ (t.firm ++ t.reply))),
      length-append t.symbol_or_group (t.account_or_key ++ (t.firm ++ t.reply)),
      length-append t.account_or_key (t.firm ++ t.reply),
      length-append t.firm t.reply,
    )

-- there is room for an entry's texts, which aren't long
pub joined_room : (texts : List ℕ) (t : Texts) → length texts ≤ 4000000000 → AreShort t → length (joined t) + length texts < 2 ^ 32
joined_room texts t few h = omega (arith, few, size_of-new t, h.own_id, h.other_id, h.symbol_or_group, h.account_or_key, h.firm, h.reply)

-- the texts of an entry lie within all texts
module _ (texts : List ℕ) (t : Texts) where
  texts_at-new : texts_at (texts ++ joined t) (span_of (length texts) t) ≡ t
  texts_at-new =
      let all : List ℕ = texts ++ joined t in
      let one : List ℕ = texts ++ t.own_id in
      let two : List ℕ = one ++ t.other_id in
      let three : List ℕ = two ++ t.symbol_or_group in
      let four : List ℕ = three ++ t.account_or_key in
      let five : List ℕ = four ++ t.firm in
      let later : List ℕ = t.firm ++ t.reply in
      let own_id : text_at all (length texts) (length t.own_id) ≡ t.own_id =
      text_at-new texts t.own_id (t.other_id ++ (t.symbol_or_group ++ (t.account_or_key ++ later))) all (length texts) refl refl in
      let other_id : text_at all (length texts + length t.own_id) (length t.other_id) ≡ t.other_id =
      text_at-new one t.other_id (t.symbol_or_group ++ (t.account_or_key ++ later)) all (length texts + length t.own_id) (simp append_assoc) (simp length-append) in
      let symbol_or_group : text_at all (length texts + length t.own_id + length t.other_id) (length t.symbol_or_group) ≡ t.symbol_or_group =
      text_at-new two t.symbol_or_group (t.account_or_key ++ later) all (length texts + length t.own_id + length t.other_id) (simp append_assoc) (simp length-append) in
      let account_or_key : text_at all (length texts + length t.own_id + length t.other_id + length t.symbol_or_group) (length t.account_or_key) ≡ t.account_or_key =
      text_at-new three t.account_or_key later all (length texts + length t.own_id + length t.other_id + length t.symbol_or_group) (simp append_assoc) (simp length-append) in
      let firm : text_at all (length texts + length t.own_id + length t.other_id + length t.symbol_or_group + length t.account_or_key) (length t.firm) ≡ t.firm =
      text_at-new four t.firm t.reply all (length texts + length t.own_id + length t.other_id + length t.symbol_or_group + length t.account_or_key)
      (simp append_assoc) (simp length-append) in
      let reply : text_at all (length texts + length t.own_id + length t.other_id + length t.symbol_or_group + length t.account_or_key + length t.firm) (length t.reply) ≡ t.reply =
      text_at-new five t.reply [] all (length texts + length t.own_id + length t.other_id + length t.symbol_or_group + length t.account_or_key + length t.firm)
      (simp (append_assoc, append-nil)) (simp length-append) in
      rw (own_id, other_id, symbol_or_group, account_or_key, firm, reply) refl

-- one more entry, whose texts follow the others
module _ (texts : List ℕ) (t : Texts) (entries : List Packed) (new : Packed) (h : AreKept texts entries)
    (short : length (joined t) + length texts < 2 ^ 32) (span : new.span ≡ span_of (length texts) t) (own : AreTextsOf t new.body) (name : IsNameOf t.reply new.reply) where
  abbrev pub all : List ℕ
  all = texts ++ joined t

  texts-new : texts_at all new.span ≡ t
  texts-new = rw span (texts_at-new texts t)

  entry-new : entry_of all new ≡ entry_with t new
  entry-new = ap (λ (t : Texts). entry_with t new) texts-new

  long : length all ≡ length texts + length (joined t)
  long = length-append texts (joined t)

  end-new : end_of new ≡ length all
  end-new = rw span (omega (arith, long, size_of-new t))

  start-new : new.span.at ≡ length texts
  start-new = rw span refl

  IsWithin-new : IsWithin all new
  IsWithin-new = record { within = omega (arith, end-new); sound = rw texts-new (record { texts = own; reply = name }) }

  AreKept-more : AreKept all (entries ++ new ∷ [])
  AreKept-more = record {
    short = omega (arith, long, short);
    within = All-push (IsWithin all) entries new (λ i d inside. IsWithin-front texts (joined t) (get_or entries i d) (h.within i d inside)) IsWithin-new;
    behind = all_pairs_push (λ earlier later. end_of earlier ≤ end_of later) entries new h.behind (λ i d inside. omega (arith, (h.within i d inside).within, end-new, long));
  }

  pub entries_more : map (entry_of all) (entries ++ new ∷ []) ≡ map (entry_of texts) entries ++ entry_with t new ∷ []
  entries_more =
      map-append (entry_of all) entries (new ∷ [])
      ∙ ap (λ es. es ++ entry_of all new ∷ []) (map-front texts (joined t) entries (λ i d inside. (h.within i d inside).within))
      ∙ ap (λ e. map (entry_of texts) entries ++ e ∷ []) entry-new

module _ {X : Type 0} (R : X → X → Type 0) (n : ℕ) (xs : List X) (h : AllPairs R xs) where
  AllPairs-take : AllPairs R (take n xs)
  AllPairs-take i j d before inside =
      let long : length (take n xs) ≡ min n (length xs) = length-take n xs in
      rw (get_or-take n xs i d (omega (arith, long, before, inside)), get_or-take n xs j d (omega (arith, long, inside)))
      (h i j d before (omega (arith, long, inside)))

module _ (texts later : List ℕ) (t : Texts) (entries more : List Packed) (new : Packed) (h : AreKept texts entries)
    (short : length (joined t) + length texts < 2 ^ 32) (span : new.span ≡ span_of (length texts) t) (own : AreTextsOf t new.body) (name : IsNameOf t.reply new.reply)
    (longer : later ≡ texts ++ joined t) (one : more ≡ entries ++ new ∷ []) where
  pub kept_more : AreKept later more
  kept_more = rw (longer, one) (AreKept-more texts t entries new h short span own name)

-- a prefix of the texts that contains those of all entries is kept
module _ (texts : List ℕ) (entries : List Packed) (h : AreKept texts entries) (end : ℕ) (inside : end ≤ length texts)
    (below : All (λ k. end_of k ≤ end) entries) where
  front-behind : take end texts ++ drop end texts ≡ texts
  front-behind = take-append-drop end texts

  front : length (take end texts) ≡ end
  front = length-take-le end texts inside

  within-front : All (λ k. end_of k ≤ length (take end texts)) entries
  within-front i d within = omega (arith, front, below i d within)

  IsWithin-kept : All (IsWithin (take end texts)) entries
  IsWithin-kept i d within =
      let k : Packed = get_or entries i d in
      record {
        within = within-front i d within;
        sound =
            subst (λ X. X) (sym (AreSound-front (take end texts) (drop end texts) k (within-front i d within)))
            (rw front-behind (h.within i d within).sound);
      }

  AreKept-front : AreKept (take end texts) entries
  AreKept-front = record { short = omega (arith, front, inside, h.short); within = IsWithin-kept; behind = h.behind }

  entries-front : map (entry_of (take end texts)) entries ≡ map (entry_of texts) entries
  entries-front = sym (map-front (take end texts) (drop end texts) entries within-front) ∙ rw front-behind refl

-- the texts of all entries end no later than those of the last
below_last : (texts : List ℕ) (entries : List Packed) → AreKept texts entries → All (λ k. end_of k ≤ end_of_last entries) entries
below_last texts entries h i d inside =
    let last : ℕ = length entries - 1 in
    let is : slice_get entries last ≡ Some (get_or entries last d) = slice_get-get_or entries last d (omega (arith, inside)) in
    rw is (elim (cases_eq i last) [
      | inl same ↦ rw same (omega arith)
      | inr other ↦ h.behind i last d (omega (arith, inside, other)) (omega (arith, inside))
    ])

last_within : (texts : List ℕ) (entries : List Packed) → AreKept texts entries → end_of_last entries ≤ length texts
last_within texts [] h = omega arith
last_within texts (k ∷ ks) h =
    let last : ℕ = length (k ∷ ks) - 1 in
    let is : slice_get (k ∷ ks) last ≡ Some (get_or (k ∷ ks) last k) = slice_get-get_or (k ∷ ks) last k (omega arith) in
    rw is (h.within last k (omega arith)).within

-- some entries and their texts are removed
module _ (texts later : List ℕ) (entries fewer : List Packed) (count : ℕ) (h : AreKept texts entries) (first : fewer ≡ take count entries)
    (cut : later ≡ take (end_of_last fewer) texts) where
  still : AreKept texts fewer
  still =
      rw first (record {
        short = h.short;
        within = All-take (IsWithin texts) count entries h.within;
        behind = AllPairs-take (λ earlier later. end_of earlier ≤ end_of later) count entries h.behind;
      })

  pub kept_fewer : AreKept later fewer
  kept_fewer = rw cut (AreKept-front texts fewer still (end_of_last fewer) (last_within texts fewer still) (below_last texts fewer still))

  as_it_was : map (entry_of later) fewer ≡ map (entry_of texts) fewer
  as_it_was = rw cut (entries-front texts fewer still (end_of_last fewer) (last_within texts fewer still) (below_last texts fewer still))

  pub entries_fewer : map (entry_of later) fewer ≡ take count (map (entry_of texts) entries)
  entries_fewer = as_it_was ∙ ap (map (entry_of texts)) first ∙ sym (take-map (entry_of texts) count entries)

-- the entry at an index is the one stored there
pub entry_there : (texts : List ℕ) (entries : List Packed) (place : ℕ) (kept : Packed) → place < length entries → kept ≡ get_or entries place kept
    → slice_get (map (entry_of texts) entries) place ≡ Some (entry_of texts kept)
entry_there texts entries place kept within is =
    slice_get-map (entry_of texts) entries place
    ∙ ap (option_map (entry_of texts)) (slice_get_read entries (length entries) place kept refl within is)
