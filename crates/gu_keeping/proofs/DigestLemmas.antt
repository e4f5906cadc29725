-- A line is the digest of at most one batch of a history.
use Rattle.gu_keeping.proofs.Words.{◌≡◌, ◌≢◌, ◌≤◌, ◌<◌, ◌^◌, ◌+◌, ◌-◌, ◌++◌, ◌∷◌, [], ◌∙◌, inl, inr, ℕ, Bool, true, false, List, Some, IsTrue, length, take, drop, refl, sym, ap, subst, append_assoc, length-append, take-append-drop, arith, not, slice_get, decimal, strip_carriage_return, decimal_nonempty, drop-append-le, drop_all, take-take, take_all, take_at, Entry, HasNoLineFeed, IsParted, ended_lines, ended_lines-alone, ended_lines-parted, IsChainOf, AgreeTo, chain_to, digest_line, entries_between, is_digest_line, AddsToLink, IsLinkOf, Chain}
use Rattle.hex.specs.Hex.{encode_lower}
use Rattle.gu_keeping.specs.declared.chain.Link.{Link}
use Rattle.gu_keeping.proofs.ChainLemmas.{chain_count, chain_long, chain_more}
use Rattle.gu_keeping.proofs.Made.{length-take_within, link_more, next_taken}
use Rattle.gu_keeping.proofs.RowWords.{decimal_same, hex_bytes}

-- ---- a history's entries after those of a chain

between_count : (history : List Entry) (after count : ℕ) → after ≤ count → count ≤ length history → after + length (entries_between history after count) ≡ count
between_count history after count later within =
    let whole = length-take_within count history within in
    let first = length-take_within after (take count history) (omega (arith, whole, later)) in
    omega (
      arith,
      whole,
      first,
      length-append (take after (take count history)) (drop after (take count history)),
      ap (λ (l : List Entry). length l) (take-append-drop after (take count history)),
    )

-- none
pub between_none : (history : List Entry) (after : ℕ) → after ≤ length history → entries_between history after after ≡ []
between_none history after within = drop_all after (take after history) (omega (arith, length-take_within after history within))

-- one more
between_more : (history : List Entry) (after count : ℕ) (entry : Entry) → after ≤ count → count ≤ length history → slice_get history count ≡ Some entry
    → entries_between history after (count + 1) ≡ entries_between history after count ++ entry ∷ []
between_more history after count entry later within is =
    ap (λ (l : List Entry). drop after l) (next_taken history count entry is)
    ∙ drop-append-le after (take count history) (entry ∷ []) (omega (arith, length-take_within count history within, later))

-- they follow those of the chain
between_parts : (history : List Entry) (after count : ℕ) → after ≤ count → take after history ++ entries_between history after count ≡ take count history
between_parts history after count later =
    ap (λ (l : List Entry). l ++ entries_between history after count) (sym (take-take after count history later)) ∙ take-append-drop after (take count history)

pub link_none : (history : List Entry) (chain : Chain) (link : Link) → chain.count ≤ length history → IsLinkOf chain [] link → IsLinkOf chain (entries_between history chain.count chain.count) link
link_none history chain link within of = subst (λ (l : List Entry). IsLinkOf chain l link) (sym (between_none history chain.count within)) of

pub link_next : (history : List Entry) (chain : Chain) (count : ℕ) (entry : Entry) (old new : Link) → chain.count ≤ count → count ≤ length history → slice_get history count ≡ Some entry
    → IsLinkOf chain (entries_between history chain.count count) old → AddsToLink entry old new → IsLinkOf chain (entries_between history chain.count (count + 1)) new
link_next history chain count entry old new later within is of adds =
    subst (λ (l : List Entry). IsLinkOf chain l new) (sym (between_more history chain.count count entry later within is))
    (link_more chain (entries_between history chain.count count) entry old new of adds)

pub link_count : (history : List Entry) (chain : Chain) (count : ℕ) (link : Link) → chain.count ≤ count → count ≤ length history
    → IsLinkOf chain (entries_between history chain.count count) link → link.count ≡ count
link_count history chain count link later within of = of.count_is ∙ between_count history chain.count count later within

pub to_count : (history : List Entry) (chain : Chain) (count : ℕ) → chain.count ≤ count → count ≤ length history → (chain_to history chain count).count ≡ count
to_count history chain count later within =
    chain_count chain (entries_between history chain.count count) ∙ between_count history chain.count count later within

pub to_chain : (history : List Entry) (chain : Chain) (count : ℕ) → IsChainOf chain (take chain.count history) → chain.count ≤ count → IsChainOf (chain_to history chain count) (take count history)
to_chain history chain count of later =
    subst (λ (l : List Entry). IsChainOf (chain_to history chain count) l) (between_parts history chain.count count later)
    (chain_more chain (take chain.count history) (entries_between history chain.count count) of)

to_long : (history : List Entry) (chain : Chain) (count : ℕ) → length chain.digest ≡ 32 → length (chain_to history chain count).digest ≡ 32
to_long history chain count long = chain_long chain (entries_between history chain.count count) long

-- ---- the number in a line

line_parts : (chain : Chain) → digest_line chain ≡ 35 ∷ 32 ∷ (decimal chain.count ++ (32 ∷ encode_lower chain.digest))
line_parts chain = ap (λ (t : List ℕ). 35 ∷ 32 ∷ t) (append_assoc (decimal chain.count) (32 ∷ []) (encode_lower chain.digest))

-- the length of a comment with a digest
pub line_length : (chain : Chain) (line : List ℕ) → length chain.digest ≡ 32 → line ≡ digest_line chain → length line ≡ length (decimal chain.count) + 67
line_length chain line long is =
    omega (
      arith,
      ap (λ (t : List ℕ). length t) (is ∙ line_parts chain),
      length-append (decimal chain.count) (32 ∷ encode_lower chain.digest),
      (hex_bytes chain.digest).1,
      long,
    )

-- it is at least 68
pub line_long : (chain : Chain) (line : List ℕ) → length chain.digest ≡ 32 → chain.count < 2 ^ 64 → line ≡ digest_line chain → 68 ≤ length line
line_long chain line long few is = omega (arith, line_length chain line long is, decimal_nonempty chain.count few)

-- its number is at this place
pub line_number : (chain : Chain) (line : List ℕ) → length chain.digest ≡ 32 → line ≡ digest_line chain → take (length line - 65 - 2) (drop 2 line) ≡ decimal chain.count
line_number chain line long is =
    let rest = 32 ∷ encode_lower chain.digest in
    let count : length line - 65 - 2 ≡ length (decimal chain.count) = omega (arith, line_length chain line long is) in
    ap (λ (n : ℕ). take n (drop 2 line)) count
    ∙ ap (λ (t : List ℕ). take (length (decimal chain.count)) (drop 2 t)) (is ∙ line_parts chain)
    ∙ take_at (decimal chain.count) rest (length (decimal chain.count)) refl

-- a line is the digest after at most one number of entries
pub same_count : (history : List Entry) (chain : Chain) (m n : ℕ) → length chain.digest ≡ 32 → length history < 2 ^ 64
    → chain.count ≤ m → m ≤ length history → chain.count ≤ n → n ≤ length history
    → digest_line (chain_to history chain m) ≡ digest_line (chain_to history chain n) → m ≡ n
same_count history chain m n long few m_later m_within n_later n_within same =
    let a = chain_to history chain m in
    let b = chain_to history chain n in
    let a_count = to_count history chain m m_later m_within in
    let b_count = to_count history chain n n_later n_within in
    let texts : decimal a.count ≡ decimal b.count =
    sym (line_number a (digest_line a) (to_long history chain m long) refl) ∙ line_number b (digest_line a) (to_long history chain n long) same in
    sym a_count ∙ decimal_same a.count b.count (omega (arith, a_count, m_within, few)) (omega (arith, b_count, n_within, few)) texts ∙ b_count

-- no line is that of a number, if the number read in it isn't that, or isn't one of the history
pub no_number : (history : List Entry) (chain : Chain) (line : List ℕ) (number n : ℕ) → length chain.digest ≡ 32 → length history < 2 ^ 64
    → ((c : Chain) → length c.digest ≡ 32 → c.count < 2 ^ 64 → line ≡ digest_line c → number ≡ c.count)
    → chain.count ≤ n → n ≤ length history → line ≡ digest_line (chain_to history chain n) → number ≡ n
no_number history chain line number n long few reads later within is =
    let count = to_count history chain n later within in
    reads (chain_to history chain n) (to_long history chain n long) (omega (arith, count, within, few)) is ∙ count

-- ---- one more line

both_tests : (b : Bool) → IsTrue b → IsTrue (not b) → ⊥
both_tests true is isnt = cc
both_tests false is isnt = cc

-- a line without a digest changes nothing
pub agree_silent : (history : List Entry) (chain last : Chain) (line : List ℕ) (lines : List (List ℕ)) → is_digest_line line ≡ false
    → AgreeTo history chain lines last → AgreeTo history chain (line ∷ lines) last
agree_silent history chain last line lines none agree = inl (ap not none, agree)

pub silent_agree : (history : List Entry) (chain last : Chain) (line : List ℕ) (lines : List (List ℕ)) → is_digest_line line ≡ false
    → AgreeTo history chain (line ∷ lines) last → AgreeTo history chain lines last
silent_agree history chain last line lines none (inl agree) = agree.1
silent_agree history chain last line lines none (inr digest) = absurd (both_tests (is_digest_line line) digest.0 (ap not none))

-- a line with a digest that was found
pub agree_digest : (history : List Entry) (chain next last : Chain) (line : List ℕ) (lines : List (List ℕ)) → is_digest_line line ≡ true
    → chain.count ≤ next.count → next.count ≤ length history → next ≡ chain_to history chain next.count → line ≡ digest_line next
    → AgreeTo history next lines last → AgreeTo history chain (line ∷ lines) last
agree_digest history chain next last line lines is later within at fits agree =
    inr (
      is,
      (
        next.count,
        later,
        within,
        fits ∙ ap (λ (c : Chain). digest_line c) at,
        subst (λ (c : Chain). AgreeTo history c lines last) at agree,
      ),
    )

pub digest_agrees : (history : List Entry) (chain next last : Chain) (line : List ℕ) (lines : List (List ℕ)) → length chain.digest ≡ 32 → length history < 2 ^ 64
    → is_digest_line line ≡ true → chain.count ≤ next.count → next.count ≤ length history → next ≡ chain_to history chain next.count → line ≡ digest_line next
    → AgreeTo history chain (line ∷ lines) last → AgreeTo history next lines last
digest_agrees history chain next last line lines long few is later within at fits (inl agree) = absurd (both_tests (is_digest_line line) is agree.0)
digest_agrees history chain next last line lines long few is later within at fits (inr digest) =
    let found = digest.1 in
    let same : found.0 ≡ next.count =
    same_count history chain found.0 next.count long few found.1 found.2 later within (sym found.3 ∙ fits ∙ ap (λ (c : Chain). digest_line c) at) in
    subst (λ (c : Chain). AgreeTo history c lines last) (ap (λ (n : ℕ). chain_to history chain n) same ∙ sym at) found.4

-- a line with a digest that no batch has
pub no_digest : (history : List Entry) (chain last : Chain) (line : List ℕ) (lines : List (List ℕ)) → is_digest_line line ≡ true
    → ((n : ℕ) → chain.count ≤ n → n ≤ length history → line ≢ digest_line (chain_to history chain n)) → AgreeTo history chain (line ∷ lines) last → ⊥
no_digest history chain last line lines is none (inl agree) = both_tests (is_digest_line line) is agree.0
no_digest history chain last line lines is none (inr digest) = let found = digest.1 in none found.0 found.1 found.2 found.3

-- the first ended line
pub ended_first : (rest front behind line : List ℕ) → IsParted rest front behind → line ≡ strip_carriage_return front → ended_lines rest ≡ line ∷ ended_lines behind
ended_first rest front behind line is stripped =
    ap ended_lines is.parts ∙ ended_lines-parted front behind is.first ∙ ap (λ (l : List ℕ). l ∷ ended_lines behind) (sym stripped)

-- no line is
pub none_ended : (history : List Entry) (chain last : Chain) (rest : List ℕ) → HasNoLineFeed rest → last ≡ chain_to history chain (length history) → AgreeTo history chain (ended_lines rest) last
none_ended history chain last rest none is = subst (λ (ls : List (List ℕ)). AgreeTo history chain ls last) (sym (ended_lines-alone rest none)) is

-- the rest of a history is one more batch
pub rest_chain : (history : List Entry) (chain : Chain) → IsChainOf chain (take chain.count history) → chain.count ≤ length history → IsChainOf (chain_to history chain (length history)) history
rest_chain history chain of within =
    subst (λ (l : List Entry). IsChainOf (chain_to history chain (length history)) l) (take_all (length history) history (omega arith))
    (to_chain history chain (length history) of within)
