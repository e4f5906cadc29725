-- Batches while they are made.
use Rattle.gu_keeping.proofs.Words.{◌≡◌, ◌≢◌, ◌≤◌, ◌<◌, ◌+◌, ◌-◌, ◌++◌, ◌∷◌, [], ◌∙◌, ℕ, zero, suc, List, Option, None, Some, length, map, take, get_or, refl, sym, ap, subst, append_assoc, append-nil, length-append, arith, flat_map, flat_map-append, slice_get, take_at, take_more, sha256, joined, Day, Entry, line_of, Origin, open_after, AreEntryRows, AreRows, IsBatchText, digest_row, IsChainOf, IsCutTo, chain_after, chain_after_all, empty_chain, open_from, shown_after, shown_text, AreBatches, IsNextBatch, IsOpening, unknown_origins, AddsEntry, AddsToLink, IsBatchOf, IsLinkOf, Chain}
use Rattle.std.proofs.lemmas.Option.{slice_get-get_or, slice_get_within}
use Rattle.gu_text.proofs.ReadBackLemmas.{line_of-joined}
use Rattle.gu_keeping.specs.declared.batch.Batch.{Batch}
use Rattle.gu_keeping.specs.declared.chain.Link.{Link}
use Rattle.gu_keeping.proofs.ChainLemmas.{all_more, chain_count, same_chain}

-- ---- links

-- one more entry
open_from-push : (today : Option Day) (entries : List Entry) (entry : Entry) → open_from today (entries ++ entry ∷ []) ≡ open_after (open_from today entries) entry
open_from-push today [] entry = refl
open_from-push today (first ∷ later) entry = open_from-push (open_after today first) later entry

-- the text shown for one more entry
shown_after-push : (count : ℕ) (entries : List Entry) (entry : Entry)
    → shown_after count (entries ++ entry ∷ []) ≡ shown_after count entries ++ shown_text (count + length entries + 1) entry
shown_after-push count [] entry =
    append-nil (shown_text (count + 1) entry) ∙ ap (λ (n : ℕ). shown_text n entry) (let same : count + 1 ≡ count + 0 + 1 = omega arith in same)
shown_after-push count (first ∷ later) entry =
    let number : count + 1 + length later + 1 ≡ count + length (first ∷ later) + 1 = omega arith in
    ap (λ (t : List ℕ). shown_text (count + 1) first ++ t) (shown_after-push (count + 1) later entry ∙ ap (λ (n : ℕ). shown_after (count + 1) later ++ shown_text n entry) number)
    ∙ sym (append_assoc (shown_text (count + 1) first) (shown_after (count + 1) later) (shown_text (count + length (first ∷ later) + 1) entry))

pub link_more : (chain : Chain) (entries : List Entry) (entry : Entry) (old new : Link) → IsLinkOf chain entries old → AddsToLink entry old new → IsLinkOf chain (entries ++ entry ∷ []) new
link_more chain entries entry old new of adds = record {
  chain_is = adds.chain_is ∙ of.chain_is;
  count_is = omega (arith, adds.count_is, of.count_is, length-append entries (entry ∷ []));
  today_is = adds.today_is ∙ ap (λ (today : Option Day). open_after today entry) of.today_is ∙ sym (open_from-push chain.today entries entry);
  shown_is =
      adds.shown_is
      ∙ ap (λ (t : List ℕ). t ++ shown_text (old.count + 1) entry) of.shown_is
      ∙ ap (λ (n : ℕ). shown_after chain.count entries ++ shown_text (n + 1) entry) of.count_is
      ∙ sym (shown_after-push chain.count entries entry);
}

-- a link without entries is its chain
pub ended_none : (chain : Chain) (entries : List Entry) (link : Link) → IsLinkOf chain entries link → link.count ≡ link.chain.count → link.chain ≡ chain_after chain entries
ended_none chain [] link of none = of.chain_is
ended_none chain (entry ∷ later) link of none =
    absurd (omega (arith, of.count_is, ap (λ (c : Chain). c.count) of.chain_is, none))

-- one with entries has their digest
pub ended_some : (chain : Chain) (entries : List Entry) (link : Link) (ended : Chain) → IsLinkOf chain entries link → link.count ≢ link.chain.count
    → ended.count ≡ link.count → ended.today ≡ link.today → ended.digest ≡ sha256 (link.chain.digest ++ link.shown.items) → ended ≡ chain_after chain entries
ended_some chain [] link ended of some counts days digests =
    absurd (some (omega (arith, of.count_is, ap (λ (c : Chain). c.count) of.chain_is)))
ended_some chain (entry ∷ later) link ended of some counts days digests =
    same_chain ended (chain_after chain (entry ∷ later)) (counts ∙ of.count_is) (days ∙ of.today_is)
    (digests
    ∙ ap (λ (c : Chain). sha256 (c.digest ++ link.shown.items)) of.chain_is
    ∙ ap (λ (t : List ℕ). sha256 (chain.digest ++ t)) of.shown_is)

-- ---- rows

-- the rows of one more entry
rows_more : (today : Option Day) (origins : List (Option Origin)) (entries : List Entry) (rows last : List (List (List ℕ))) (origin : Option Origin) (entry : Entry)
    → AreRows today origins entries rows → AreEntryRows (open_from today entries) origin entry last
    → AreRows today (origins ++ origin ∷ []) (entries ++ entry ∷ []) (rows ++ last)
rows_more today [] [] rows last origin entry are more =
    (last, [], more, refl, ap (λ (r : List (List (List ℕ))). r ++ last) are ∙ sym (append-nil last))
rows_more today [] (e ∷ entries) rows last origin entry are more = absurd are
rows_more today (o ∷ origins) [] rows last origin entry are more = absurd are
rows_more today (o ∷ origins) (e ∷ entries) rows last origin entry are more = (
  are.0,
  are.1 ++ last,
  are.2,
  rows_more (open_after today e) origins entries are.1 last origin entry are.3 more,
  ap (λ (r : List (List (List ℕ))). r ++ last) are.4 ∙ append_assoc are.0 are.1 last,
)

-- ---- batches

-- one more entry
entry_added : (chain : Chain) (origins : List (Option Origin)) (entries : List Entry) (origin : Option Origin) (entry : Entry) (old new : Batch)
    → IsBatchOf chain origins entries old → AddsEntry origin entry old new → IsBatchOf chain (origins ++ origin ∷ []) (entries ++ entry ∷ []) new
entry_added chain origins entries origin entry old new of adds = record {
  rows = of.rows ++ adds.rows;
  are =
      rows_more chain.today origins entries of.rows adds.rows origin entry of.are
      (subst (λ (today : Option Day). AreEntryRows today origin entry adds.rows) of.link.today_is adds.are);
  text_is =
      adds.text_is
      ∙ ap (λ (t : List ℕ). t ++ flat_map line_of adds.rows) of.text_is
      ∙ sym (flat_map-append line_of of.rows adds.rows);
  link = link_more chain entries entry old.link new.link of.link adds.link;
}

-- the same batch
pub same_batch : (chain : Chain) (origins : List (Option Origin)) (entries : List Entry) (old new : Batch)
    → IsBatchOf chain origins entries old → new.text.items ≡ old.text.items → new.link ≡ old.link → IsBatchOf chain origins entries new
same_batch chain origins entries old new of text link = record {
  rows = of.rows;
  are = of.are;
  text_is = text ∙ of.text_is;
  link = subst (IsLinkOf chain entries) (sym link) of.link;
}

-- the text of an ended batch
pub batch_ended : (chain : Chain) (origins : List (Option Origin)) (entries : List Entry) (batch : Batch) (ended : Chain) (text : List ℕ)
    → IsBatchOf chain origins entries batch → ended ≡ chain_after chain entries → text ≡ batch.text.items ++ line_of (digest_row ended)
    → IsBatchText chain origins entries text
batch_ended chain origins entries batch ended text of is text_is = record {
  rows = of.rows;
  are = of.are;
  text_is =
      text_is
      ∙ ap (λ (t : List ℕ). t ++ line_of (digest_row ended)) of.text_is
      ∙ ap (λ (c : Chain). flat_map line_of of.rows ++ line_of (digest_row c)) is
      ∙ ap (λ (t : List ℕ). flat_map line_of of.rows ++ t) (sym (append-nil (line_of (digest_row (chain_after chain entries)))))
      ∙ sym (flat_map-append line_of of.rows (digest_row (chain_after chain entries) ∷ []));
}

-- ---- the first elements of a list, and one more

map_some-append : (xs ys : List Origin) → map Some (xs ++ ys) ≡ map Some xs ++ map Some ys
map_some-append [] ys = refl
map_some-append (x ∷ xs) ys = ap (λ (l : List (Option Origin)). Some x ∷ l) (map_some-append xs ys)

unknown-append : (xs ys : List Entry) → unknown_origins (xs ++ ys) ≡ unknown_origins xs ++ unknown_origins ys
unknown-append [] ys = refl
unknown-append (x ∷ xs) ys = ap (λ (l : List (Option Origin)). None ∷ l) (unknown-append xs ys)

-- and their number
pub length-take_within : (n : ℕ) (xs : List Entry) → n ≤ length xs → length (take n xs) ≡ n
length-take_within zero xs within = refl
length-take_within (suc n) [] within = absurd (omega (arith, within))
length-take_within (suc n) (x ∷ xs) within = let rest = length-take_within n xs (omega (arith, within)) in omega (arith, rest)

one_more : {X : Type 0} (xs : List X) (place : ℕ) (x : X) → place < length xs → x ≡ get_or xs place x → take (place + 1) xs ≡ take place xs ++ x ∷ []
one_more xs place x within is = take_more xs place x within ∙ ap (λ (y : _). take place xs ++ y ∷ []) (sym is)

-- an entry is added with its origin
pub place_added : (chain : Chain) (origins : List Origin) (entries : List Entry) (place : ℕ) (origin : Origin) (entry : Entry) (old new : Batch)
    → place < length origins → place < length entries → origin ≡ get_or origins place origin → entry ≡ get_or entries place entry
    → IsBatchOf chain (map Some (take place origins)) (take place entries) old → AddsEntry (Some origin) entry old new
    → IsBatchOf chain (map Some (take (place + 1) origins)) (take (place + 1) entries) new
place_added chain origins entries place origin entry old new in_origins in_entries origin_is entry_is of adds =
    let marks : map Some (take (place + 1) origins) ≡ map Some (take place origins) ++ Some origin ∷ [] =
    ap (λ (l : List Origin). map Some l) (one_more origins place origin in_origins origin_is) ∙ map_some-append (take place origins) (origin ∷ []) in
    subst (λ (l : List (Option Origin)). IsBatchOf chain l (take (place + 1) entries) new) (sym marks)
    (subst (λ (l : List Entry). IsBatchOf chain (map Some (take place origins) ++ Some origin ∷ []) l new) (sym (one_more entries place entry in_entries entry_is))
    (entry_added chain (map Some (take place origins)) (take place entries) (Some origin) entry old new of adds))

-- an entry is added without an origin
pub unknown_added : (chain : Chain) (entries : List Entry) (entry : Entry) (old new : Batch) → IsBatchOf chain (unknown_origins entries) entries old → AddsEntry None entry old new
    → IsBatchOf chain (unknown_origins (entries ++ entry ∷ [])) (entries ++ entry ∷ []) new
unknown_added chain entries entry old new of adds =
    subst (λ (l : List (Option Origin)). IsBatchOf chain l (entries ++ entry ∷ []) new) (sym (unknown-append entries (entry ∷ [])))
    (entry_added chain (unknown_origins entries) entries None entry old new of adds)

-- ---- the batch of the first waiting entries

pub next_batch : (chain : Chain) (origins : List Origin) (waiting : List Entry) (count : ℕ) (text : List ℕ)
    → count ≤ length waiting → count ≤ length origins → 1 ≤ count
    → IsBatchText chain (map Some (take count origins)) (take count waiting) text → IsNextBatch origins chain (take count waiting) text
next_batch chain origins waiting count text in_waiting in_origins some batch =
    let long : length (take count waiting) ≡ count = length-take_within count waiting in_waiting in
    record {
      some = omega (arith, long, some);
      within = omega (arith, long, in_origins);
      batch = subst (λ (n : ℕ). IsBatchText chain (map Some (take n origins)) (take count waiting) text) (sym long) batch;
    }

-- ---- openings

-- one more batch
batches_more : (chain : Chain) (parts : List (List Entry)) (part : List Entry) (text last : List ℕ) → AreBatches chain parts text
    → IsBatchText (chain_after_all chain parts) (unknown_origins part) part last → AreBatches chain (parts ++ part ∷ []) (text ++ last)
batches_more chain [] part text last are batch = (last, [], batch, refl, ap (λ (t : List ℕ). t ++ last) are ∙ sym (append-nil last))
batches_more chain (p ∷ parts) part text last are batch = (
  are.0,
  are.1 ++ last,
  are.2,
  batches_more (chain_after chain p) parts part are.1 last are.3 batch,
  ap (λ (t : List ℕ). t ++ last) are.4 ∙ append_assoc are.0 are.1 last,
)

pub none_opened : IsOpening [] empty_chain []
none_opened = record { parts = []; all = refl; batches = refl; chain_is = refl }

pub opening_more : (before after part : List Entry) (chain next : Chain) (text last : List ℕ) → IsOpening before chain text
    → IsBatchText chain (unknown_origins part) part last → next ≡ chain_after chain part → after ≡ before ++ part → IsOpening after next (text ++ last)
opening_more before after part chain next text last opening batch next_is more = record {
  parts = opening.parts ++ part ∷ [];
  all =
      flat_map-append (λ (p : List Entry). p) opening.parts (part ∷ [])
      ∙ ap (λ (l : List Entry). l ++ (part ++ [])) opening.all
      ∙ ap (λ (l : List Entry). before ++ l) (append-nil part)
      ∙ sym more;
  batches =
      batches_more empty_chain opening.parts part text last opening.batches
      (subst (λ (c : Chain). IsBatchText c (unknown_origins part) part last) opening.chain_is batch);
  chain_is =
      next_is ∙ ap (λ (c : Chain). chain_after c part) opening.chain_is ∙ sym (all_more empty_chain opening.parts part);
}

-- the chain after an opening is that of its entries
pub opening_chain : (entries : List Entry) (chain : Chain) (text : List ℕ) → IsOpening entries chain text → IsChainOf chain entries
opening_chain entries chain text opening =
    let cut : IsCutTo chain entries = record { batches = opening.parts; all = opening.all; chain_is = opening.chain_is } in
    ∣ cut ∣₁

-- ---- the first entries of a history, and one more

pub next_taken : (history : List Entry) (place : ℕ) (entry : Entry) → slice_get history place ≡ Some entry → take (place + 1) history ≡ take place history ++ entry ∷ []
next_taken history place entry is =
    let within = slice_get_within history place entry is in
    let read : Some (get_or history place entry) ≡ Some entry = sym (slice_get-get_or history place entry within) ∙ is in
    let same : get_or history place entry ≡ entry = cc in
    take_more history place entry within ∙ ap (λ (e : Entry). take place history ++ e ∷ []) same

-- ---- a line without its LF

pub without_feed : (words : List (List ℕ)) (items left : List ℕ) (len : ℕ) → len ≡ length items → items ≡ line_of words → left ≡ take (len - 1) items → left ≡ joined words
without_feed words items left len long is rest =
    let whole : items ≡ joined words ++ 10 ∷ [] = is ∙ line_of-joined words in
    let count : len - 1 ≡ length (joined words) = omega (arith, long, ap (λ (t : List ℕ). length t) whole, length-append (joined words) (10 ∷ [])) in
    rest ∙ ap (λ (n : ℕ). take n items) count ∙ ap (λ (t : List ℕ). take (length (joined words)) t) whole ∙ take_at (joined words) (10 ∷ []) (length (joined words)) refl

-- ---- a batch of a history's entries

-- the entries of a batch that was ended at an index of a history
pub part_count : (chain ended : Chain) (entries : List Entry) (place : ℕ) → chain.count + length entries ≡ place → ended ≡ chain_after chain entries → ended.count ≡ place
part_count chain ended entries place count is = omega (arith, ap (λ (c : Chain). c.count) is, chain_count chain entries, count)

pub part_made : (chain ended : Chain) (history entries : List Entry) (place : ℕ) (text : List ℕ)
    → take place history ≡ take chain.count history ++ entries → chain.count + length entries ≡ place
    → IsBatchText chain (unknown_origins entries) entries text × (ended ≡ chain_after chain entries)
    → (more : List Entry) × (ended ≡ chain_after chain more) × (take ended.count history ≡ take chain.count history ++ more)
    × IsBatchText chain (unknown_origins more) more text
part_made chain ended history entries place text so_far count made = (
  entries,
  made.1,
  ap (λ (n : ℕ). take n history) (part_count chain ended entries place count made.1) ∙ so_far,
  made.0,
)
