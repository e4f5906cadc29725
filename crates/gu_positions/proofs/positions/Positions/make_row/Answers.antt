use Rattle.gu_positions.proofs.Words.{◌≡◌, ◌∙◌, true, false, length, sym, ap, subst, [], ◌∷◌, ◌++◌, if◌then◌else◌, KeepsLots, empty_row, IsKept, row_of, rows_of, is_numbered, has_row, Inside}
use Rattle.std.proofs.lemmas.List.{length-map}
use Rattle.gu_positions.proofs.KeptLots.{has_row-lookup}
use Rattle.gu_positions.proofs.OneRowMore.{has_row-one_more, has_row-present, keeps_lots-one_more, kept-one_more}
use Rattle.gu_positions.proofs.Places.{same_place-own}
use Rattle.gu_positions.proofs.RowNumbers.{numbered-append, numbered-kept, numbered-last, numbered-row_of, row_of-numbered}
use Rattle.gu_positions.proofs.positions.Positions.make_row.Goals as goal
use Rattle.gu_positions.proofs.positions.Positions.make_row.Goals.{In-Some, In_ok-make}

-- there was no such row
absent : (c : In_ok-make) → false ≡ has_row c.args.self.now c.args.account.now c.args.symbol.now
absent c =
    c.in_default.ensures.there ∙ sym (has_row-lookup c.args.account.now c.args.symbol.now c.self.inside.rows.entries)
    ∙ ap (λ rows. has_row rows c.args.account.now c.args.symbol.now) c.self.view_is

-- both tables are stored correctly, with an empty row last
kept : (c : In_ok-make) → let new : Inside = record { rows = c.make.new.rows; interests = c.make.new.interests } in
    IsKept new × (rows_of new ≡ c.args.self.now ++ empty_row c.args.account.now c.args.symbol.now ∷ [])
kept c =
    kept-one_more c.self.inside (record { rows = c.make.new.rows; interests = c.make.new.interests }) c.args.account.now c.args.symbol.now c.self.invariant c.args.self.now c.self.view_is
    (absent c) c.in_ok-make.ensures.made c.make.ensures.stay c.make.ensures.same

pub invariant_of-self-2 : goal.invariant_of-self-2
invariant_of-self-2 c = (kept c).0

pub returns-clause-made : goal.returns-clause-made
returns-clause-made c =
    (kept c).1 ∙ ap (λ there. if there then c.args.self.now else c.args.self.now ++ empty_row c.args.account.now c.args.symbol.now ∷ []) (absent c)

pub returns-clause-there : goal.returns-clause-there
returns-clause-there c =
    λ a s. ap (λ rows. has_row rows a s) (kept c).1 ∙ has_row-one_more c.args.account.now c.args.symbol.now c.args.self.now a s

pub returns-clause-same_lots : goal.returns-clause-same_lots
returns-clause-same_lots c =
    subst (KeepsLots c.args.self.now) (sym (kept c).1) (keeps_lots-one_more c.args.account.now c.args.symbol.now c.args.self.now)

pub returns-clause-row : goal.returns-clause-row
returns-clause-row c =
    row_of-numbered c.args.account.now c.args.symbol.now _ (record { number = c.len-number.result })
    (ap (λ rows. is_numbered rows c.args.account.now c.args.symbol.now c.len-number.result) (kept c).1
    ∙ ap (is_numbered (c.args.self.now ++ empty_row c.args.account.now c.args.symbol.now ∷ []) c.args.account.now c.args.symbol.now) (c.len-number.ensures.len ∙ sym (length-map c.self.inside.rows.entries row_of) ∙ ap length c.self.view_is)
    ∙ numbered-last c.args.account.now c.args.symbol.now c.args.self.now (empty_row c.args.account.now c.args.symbol.now) (same_place-own c.args.account.now c.args.symbol.now))

pub returns-clause-stay : goal.returns-clause-stay
returns-clause-stay c = λ account symbol row of.
    row_of-numbered account symbol _ row
    (ap (λ rows. is_numbered rows account symbol row.number) (kept c).1
    ∙ numbered-append account symbol c.args.self.now (empty_row c.args.account.now c.args.symbol.now ∷ []) row.number (numbered-row_of account symbol c.args.self.now row of))

-- the row that was found
there : (c : In-Some) → true ≡ has_row c.args.self.now c.args.account.now c.args.symbol.now
there c =
    c.in-Some.ensures.there ∙ sym (has_row-lookup c.args.account.now c.args.symbol.now c.self.inside.rows.entries)
    ∙ ap (λ rows. has_row rows c.args.account.now c.args.symbol.now) c.self.view_is

pub returns-in-Some-clause-made : goal.returns-in-Some-clause-made
returns-in-Some-clause-made c = ap (λ there. if there then c.args.self.now else c.args.self.now ++ empty_row c.args.account.now c.args.symbol.now ∷ []) (there c)

pub returns-in-Some-clause-there : goal.returns-in-Some-clause-there
returns-in-Some-clause-there c = has_row-present c.args.self.now c.args.account.now c.args.symbol.now (sym (there c))

pub returns-in-Some-clause-row : goal.returns-in-Some-clause-row
returns-in-Some-clause-row c =
    row_of-numbered c.args.account.now c.args.symbol.now c.args.self.now (record { number = c.in-Some.number })
    (ap (λ rows. is_numbered rows c.args.account.now c.args.symbol.now c.in-Some.number) (sym c.self.view_is)
    ∙ numbered-kept c.args.account.now c.args.symbol.now c.self.inside.rows.entries c.in-Some.number c.in-Some.ensures.at.value c.in-Some.ensures.at.here)
