-- What a chain says about its entries: their number, the day that is open after them, and a digest of 32 bytes.
use Rattle.gu_keeping.proofs.Words.{◌≡◌, ◌+◌, ◌*◌, ◌++◌, ◌∷◌, [], ◌∙◌, ℕ, zero, suc, List, Option, None, Some, length, refl, sym, ap, append-nil, length-append, arith, flat_map, slice_index, flat_map-append, digest_bytes, final_hash, initial_hash_256, sha256, Day, Entry, open_after, IsChainOf, IsCutTo, chain_after, chain_after_all, empty_chain, open_from, shown_after, Chain}
use Rattle.std.proofs.Math.Logic.{∥∥₁_elim, ∥∥₁_map}
use Rattle.std.specs.Coded.{Coded-set, coded_list, coded_ℕ}
use Rattle.std.specs.Int.{to_be_bytes, w32}
use Rattle.gu_terms.proofs.SameValues.{same_date}

-- chains with equal parts are equal
pub same_chain : (a b : Chain) → a.count ≡ b.count → a.today ≡ b.today → a.digest ≡ b.digest → a ≡ b
same_chain a b counts days digests = λ i. record { count = counts i; today = days i; digest = digests i }

-- ---- one batch

pub chain_count : (chain : Chain) (entries : List Entry) → (chain_after chain entries).count ≡ chain.count + length entries
chain_count chain [] = omega arith
chain_count chain (entry ∷ later) = refl

chain_today : (chain : Chain) (entries : List Entry) → (chain_after chain entries).today ≡ open_from chain.today entries
chain_today chain [] = refl
chain_today chain (entry ∷ later) = refl

digest_bytes_long : (h : List ℕ) (n : ℕ) → length (digest_bytes h n) ≡ 4 * n
unfolding digest_bytes
digest_bytes_long h zero = refl
digest_bytes_long h (suc n) = omega (arith, length-append (digest_bytes h n) (to_be_bytes w32 (slice_index h n)), digest_bytes_long h n)

digest_long : (m : List ℕ) → length (sha256 m) ≡ 32
unfolding sha256
digest_long m = digest_bytes_long (final_hash initial_hash_256 m) 8

pub chain_long : (chain : Chain) (entries : List Entry) → length chain.digest ≡ 32 → length (chain_after chain entries).digest ≡ 32
chain_long chain [] long = long
chain_long chain (entry ∷ later) long = digest_long (chain.digest ++ shown_after chain.count (entry ∷ later))

-- ---- batches

open_from-append : (today : Option Day) (xs ys : List Entry) → open_from today (xs ++ ys) ≡ open_from (open_from today xs) ys
open_from-append today [] ys = refl
open_from-append today (x ∷ xs) ys = open_from-append (open_after today x) xs ys

all_count : (chain : Chain) (batches : List (List Entry)) → (chain_after_all chain batches).count ≡ chain.count + length (flat_map (λ b. b) batches)
all_count chain [] = omega arith
all_count chain (batch ∷ later) =
    omega (arith, all_count (chain_after chain batch) later, chain_count chain batch, length-append batch (flat_map (λ b. b) later))

all_today : (chain : Chain) (batches : List (List Entry)) → (chain_after_all chain batches).today ≡ open_from chain.today (flat_map (λ b. b) batches)
all_today chain [] = refl
all_today chain (batch ∷ later) =
    all_today (chain_after chain batch) later
    ∙ ap (λ (today : Option Day). open_from today (flat_map (λ b. b) later)) (chain_today chain batch)
    ∙ sym (open_from-append chain.today batch (flat_map (λ b. b) later))

all_long : (chain : Chain) (batches : List (List Entry)) → length chain.digest ≡ 32 → length (chain_after_all chain batches).digest ≡ 32
all_long chain [] long = long
all_long chain (batch ∷ later) long = all_long (chain_after chain batch) later (chain_long chain batch long)

pub all_more : (chain : Chain) (batches : List (List Entry)) (batch : List Entry) → chain_after_all chain (batches ++ batch ∷ []) ≡ chain_after (chain_after_all chain batches) batch
all_more chain [] batch = refl
all_more chain (first ∷ later) batch = all_more (chain_after chain first) later batch

-- ---- days by their numbers, which are a set

abbrev today_numbers : Option Day → List ℕ
today_numbers None = []
today_numbers (Some day) = day.year ∷ day.month ∷ day.day ∷ []

same_today : (a b : Option Day) → today_numbers a ≡ today_numbers b → a ≡ b
same_today None None same = refl
same_today None (Some day) same = let parts : [] ≡ day.year ∷ day.month ∷ day.day ∷ [] = same in absurd (cc)
same_today (Some day) None same = let parts : day.year ∷ day.month ∷ day.day ∷ [] ≡ [] = same in absurd (cc)
same_today (Some a) (Some b) same =
    let parts : a.year ∷ a.month ∷ a.day ∷ [] ≡ b.year ∷ b.month ∷ b.day ∷ [] = same in
    let years : a.year ≡ b.year = cc in
    let months : a.month ≡ b.month = cc in
    let days : a.day ≡ b.day = cc in
    ap (λ (day : Day). Some day) (same_date a b years months days)

-- ---- a chain of entries

cut_count : (chain : Chain) (entries : List Entry) → IsCutTo chain entries → chain.count ≡ length entries
cut_count chain entries cut =
    omega (arith, ap (λ (c : Chain). c.count) cut.chain_is, all_count empty_chain cut.batches, ap (λ (l : List Entry). length l) cut.all)

cut_today : (chain : Chain) (entries : List Entry) → IsCutTo chain entries → chain.today ≡ open_from None entries
cut_today chain entries cut =
    ap (λ (c : Chain). c.today) cut.chain_is ∙ all_today empty_chain cut.batches ∙ ap (λ (l : List Entry). open_from None l) cut.all

cut_long : (chain : Chain) (entries : List Entry) → IsCutTo chain entries → length chain.digest ≡ 32
cut_long chain entries cut = ap (λ (c : Chain). length c.digest) cut.chain_is ∙ all_long empty_chain cut.batches refl

cut_more : (chain : Chain) (entries more : List Entry) → IsCutTo chain entries → IsCutTo (chain_after chain more) (entries ++ more)
cut_more chain entries more cut = record {
  batches = cut.batches ++ more ∷ [];
  all =
      flat_map-append (λ (b : List Entry). b) cut.batches (more ∷ [])
      ∙ ap (λ (l : List Entry). l ++ (more ++ [])) cut.all
      ∙ ap (λ (l : List Entry). entries ++ l) (append-nil more);
  chain_is = ap (λ (c : Chain). chain_after c more) cut.chain_is ∙ sym (all_more empty_chain cut.batches more);
}

none_cut : IsCutTo empty_chain []
none_cut = record { batches = []; all = refl; chain_is = refl }

pub none_chained : IsChainOf empty_chain []
none_chained = ∣ none_cut ∣₁

pub count_of : (chain : Chain) (entries : List Entry) → IsChainOf chain entries → chain.count ≡ length entries
count_of chain entries of = ∥∥₁_elim of (Coded-set coded_ℕ chain.count (length entries)) (cut_count chain entries)

pub today_of : (chain : Chain) (entries : List Entry) → IsChainOf chain entries → chain.today ≡ open_from None entries
today_of chain entries of =
    same_today chain.today (open_from None entries)
    (∥∥₁_elim of (Coded-set (coded_list coded_ℕ) (today_numbers chain.today) (today_numbers (open_from None entries)))
    (λ cut. ap (λ (today : Option Day). today_numbers today) (cut_today chain entries cut)))

pub long_of : (chain : Chain) (entries : List Entry) → IsChainOf chain entries → length chain.digest ≡ 32
long_of chain entries of = ∥∥₁_elim of (Coded-set coded_ℕ (length chain.digest) 32) (cut_long chain entries)

-- with one more batch
pub chain_more : (chain : Chain) (entries more : List Entry) → IsChainOf chain entries → IsChainOf (chain_after chain more) (entries ++ more)
chain_more chain entries more of = ∥∥₁_map of (cut_more chain entries more)
