-- Positions, open interest and limits as lines.
use Rattle.std.specs.Prelude.{ℕ, List, [], ◌∷◌, ◌++◌, codes}
use Rattle.std.specs.Fmt.{decimal}
use Rattle.gu_terms.specs.declared.account.AccountId.{AccountId}
use Rattle.gu_terms.specs.declared.group.Group.{Group}
use Rattle.gu_terms.specs.declared.limit_row.LimitRow.{LimitRow}
use Rattle.gu_terms.specs.declared.symbol.Symbol.{Symbol}
use Rattle.gu_text.specs.Replies.{key_words}
use Rattle.gu_text.specs.Texts.{line_of}

-- `POSITION account symbol long short`
abbrev pub position_text : AccountId → Symbol → ℕ → ℕ → List ℕ
position_text account symbol long short = line_of (codes "POSITION" ∷ account.name ∷ symbol.name ∷ decimal long ∷ decimal short ∷ [])

-- `INTEREST symbol lots`
abbrev pub interest_text : Symbol → ℕ → List ℕ
interest_text symbol lots = line_of (codes "INTEREST" ∷ symbol.name ∷ decimal lots ∷ [])

-- `LIMIT group KIND name limit use room`
abbrev pub limit_text : Group → LimitRow → List ℕ
limit_text group row =
    line_of (codes "LIMIT" ∷ group.name ∷ key_words row.key ++ decimal row.limit ∷ decimal row.used ∷ decimal row.room ∷ [])

-- `UNKNOWN`: the reference lacks the name
abbrev pub unknown_text : List ℕ
unknown_text = line_of (codes "UNKNOWN" ∷ [])
