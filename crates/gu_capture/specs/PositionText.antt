-- Positions as lines of text.
use Rattle.std.specs.Prelude.{ℕ, ◌==◌, ◌&&◌, [], List, if◌then◌else◌}
use Rattle.std.specs.List.{flat_map}
use Rattle.gu_terms.specs.declared.account.AccountId.{AccountId}
use Rattle.gu_terms.specs.declared.symbol.Symbol.{Symbol}
use Rattle.gu_rules.specs.BookState.{BookState}
use Rattle.gu_rules.specs.Positions.{long_of, short_of}
use Rattle.gu_text.specs.Rows.{position_text}

-- a position's line, or nothing if the account holds nothing of the instrument
abbrev pub position_line : BookState → AccountId → Symbol → List ℕ
position_line book account symbol =
    let long = long_of book.history account symbol in
    let short = short_of book.history account symbol in
    if long == 0 && short == 0 then [] else position_text account symbol long short

-- the lines of an account, its instruments in the order of the reference
abbrev pub account_text : BookState → AccountId → List ℕ
account_text book account = flat_map (λ i. position_line book account i.symbol) book.reference.instruments

-- the lines of all accounts in the order of the reference
abbrev pub positions_text : BookState → List ℕ
positions_text book = flat_map (λ a. account_text book a.account) book.reference.accounts
