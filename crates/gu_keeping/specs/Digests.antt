-- The digests in a day's text, compared with a history.
use Rattle.std.specs.Prelude.{◌≡◌, ℕ, ◌-◌, ◌≤◌, ◌⊎◌, ◌==◌, ◌&&◌, ◌||◌, Bool, not, nat_le, List, [], ◌∷◌, IsTrue, length, take, drop, slice_index}
use Rattle.std.specs.List.{list_all}
use Rattle.gu_terms.specs.declared.entry.Entry.{Entry}
use Rattle.gu_text.specs.ReadBack.{joined}
use Rattle.gu_keeping.specs.Batches.{digest_row}
use Rattle.gu_keeping.specs.Chains.{chain_after, empty_chain}
use Rattle.gu_keeping.specs.declared.chain.Chain.{Chain}

-- a digit of a number, and a digit of a digest
abbrev pub is_decimal : ℕ → Bool
is_decimal b = nat_le 48 b && nat_le b 57

abbrev pub is_hexadecimal : ℕ → Bool
is_hexadecimal b = is_decimal b || (nat_le 97 b && nat_le b 102)

-- a line begins with `# ` and has a space before its last 64 bytes
abbrev pub has_marks : List ℕ → Bool
has_marks line = slice_index line 0 == 35 && slice_index line 1 == 32 && slice_index line (length line - 65) == 32

-- a line has the form of a comment with a digest: `# `, a number, a space, and 64 hexadecimal digits
abbrev pub is_digest_line : List ℕ → Bool
is_digest_line line =
    nat_le 68 (length line)
    && has_marks line
    && list_all is_decimal (take (length line - 65 - 2) (drop 2 line))
    && list_all is_hexadecimal (drop (length line - 64) line)

-- the comment with the digest of a chain
abbrev pub digest_line : Chain → List ℕ
digest_line chain = joined (digest_row chain)

-- the entries of a history after this many, up to a number
abbrev pub entries_between : List Entry → ℕ → ℕ → List Entry
entries_between history after count = drop after (take count history)

-- a day with one more batch: the entries of a history up to a number
abbrev pub chain_to : List Entry → Chain → ℕ → Chain
chain_to history chain count = chain_after chain (entries_between history chain.count count)

-- each line with the form of a digest is the digest of a history with one more batch: the entries after those of the previous digest, up to
-- a number. If there are none, it is the previous digest again. The entries after the last digest are one more batch, with which this is
-- the chain
abbrev pub AgreeTo : List Entry → Chain → List (List ℕ) → Chain → Type 0
AgreeTo history chain [] last = last ≡ chain_to history chain (length history)
AgreeTo history chain (line ∷ lines) last =
    (IsTrue (not (is_digest_line line)) × AgreeTo history chain lines last)
    ⊎ (IsTrue (is_digest_line line)
    × ((count : ℕ) × (chain.count ≤ count) × (count ≤ length history) × (line ≡ digest_line (chain_to history chain count))
    × AgreeTo history (chain_to history chain count) lines last))

-- the digests in a text's lines match a history
abbrev pub Agree : List Entry → List (List ℕ) → Type 0
Agree history lines = (last : Chain) × AgreeTo history empty_chain lines last
