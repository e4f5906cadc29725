-- The entries that a keeper took from the desk.
use Rattle.gu_keeping.proofs.Words.{◌≡◌, ◌≤◌, ◌+◌, ◌++◌, ◌∙◌, ℕ, List, length, take, drop, sym, ap, subst, append_assoc, length-append, take-append-drop, arith, take-append-le, take_all, take_at, Entry, IsChainOf, chain_after, kept_entries, Chain}
use Rattle.gu_keeping.proofs.ChainLemmas.{chain_count, chain_more, count_of}

-- all are kept
pub kept_all : (chain : Chain) (front : List Entry) → IsChainOf chain front → kept_entries chain front ≡ front
kept_all chain front is = ap (λ (n : ℕ). take n front) (count_of chain front is) ∙ take_all (length front) front (omega arith)

-- some wait
pub front_length : (chain : Chain) (front waiting : List Entry) → front ≡ kept_entries chain front ++ waiting → IsChainOf chain (kept_entries chain front)
    → length front ≡ chain.count + length waiting
front_length chain front waiting parts chained =
    ap (λ (l : List Entry). length l) parts
    ∙ length-append (kept_entries chain front) waiting
    ∙ ap (λ (n : ℕ). n + length waiting) (sym (count_of chain (kept_entries chain front) chained))

pub kept_within : (chain : Chain) (front waiting : List Entry) → front ≡ kept_entries chain front ++ waiting → IsChainOf chain (kept_entries chain front)
    → chain.count ≤ length front
kept_within chain front waiting parts chained = omega (arith, front_length chain front waiting parts chained)

-- more are taken
pub kept_stays : (chain : Chain) (front waiting more : List Entry) → front ≡ kept_entries chain front ++ waiting → IsChainOf chain (kept_entries chain front)
    → kept_entries chain (front ++ more) ≡ kept_entries chain front
kept_stays chain front waiting more parts chained = take-append-le chain.count front more (kept_within chain front waiting parts chained)

pub parts_more : (chain : Chain) (front waiting more : List Entry) → front ≡ kept_entries chain front ++ waiting → IsChainOf chain (kept_entries chain front)
    → front ++ more ≡ kept_entries chain (front ++ more) ++ (waiting ++ more)
parts_more chain front waiting more parts chained =
    ap (λ (l : List Entry). l ++ more) parts
    ∙ append_assoc (kept_entries chain front) waiting more
    ∙ ap (λ (l : List Entry). l ++ (waiting ++ more)) (sym (kept_stays chain front waiting more parts chained))

-- the first waiting ones are kept
pub kept_on : (chain : Chain) (front waiting : List Entry) (n : ℕ) → front ≡ kept_entries chain front ++ waiting → IsChainOf chain (kept_entries chain front)
    → kept_entries (chain_after chain (take n waiting)) front ≡ kept_entries chain front ++ take n waiting
kept_on chain front waiting n parts chained =
    let kept = kept_entries chain front in
    let first = take n waiting in
    let whole : front ≡ (kept ++ first) ++ drop n waiting =
    parts ∙ ap (λ (l : List Entry). kept ++ l) (sym (take-append-drop n waiting)) ∙ sym (append_assoc kept first (drop n waiting)) in
    let long : (chain_after chain first).count ≡ length (kept ++ first) =
    chain_count chain first ∙ ap (λ (k : ℕ). k + length first) (count_of chain kept chained) ∙ sym (length-append kept first) in
    ap (λ (l : List Entry). take (chain_after chain first).count l) whole ∙ take_at (kept ++ first) (drop n waiting) (chain_after chain first).count (sym long)

pub parts_on : (chain : Chain) (front waiting : List Entry) (n : ℕ) → front ≡ kept_entries chain front ++ waiting → IsChainOf chain (kept_entries chain front)
    → front ≡ kept_entries (chain_after chain (take n waiting)) front ++ drop n waiting
parts_on chain front waiting n parts chained =
    parts
    ∙ ap (λ (l : List Entry). kept_entries chain front ++ l) (sym (take-append-drop n waiting))
    ∙ sym (append_assoc (kept_entries chain front) (take n waiting) (drop n waiting))
    ∙ ap (λ (l : List Entry). l ++ drop n waiting) (sym (kept_on chain front waiting n parts chained))

pub chained_on : (chain : Chain) (front waiting : List Entry) (n : ℕ) → front ≡ kept_entries chain front ++ waiting → IsChainOf chain (kept_entries chain front)
    → IsChainOf (chain_after chain (take n waiting)) (kept_entries (chain_after chain (take n waiting)) front)
chained_on chain front waiting n parts chained =
    let next = chain_after chain (take n waiting) in
    subst (λ (l : List Entry). IsChainOf next l) (sym (kept_on chain front waiting n parts chained))
    (chain_more chain (kept_entries chain front) (take n waiting) chained)
