use Rattle.gu_positions.proofs.Words.{◌≡◌, ◌∙◌, ap, subst, IsDistinct, more_in, with_more, IsKept, place_of, rows_of, account_at, is_numbered, symbol_at, has_row, lots_in, lots_on, same_row, Inside}
use Rattle.gu_positions.proofs.Adding.{few-more, fits, keeps-written, row_of-more, settles}
use Rattle.gu_positions.proofs.Changed.{has_row-changed, keeps-more, lots_in-with_more, lots_on-with_more}
use Rattle.gu_positions.proofs.RowNumbers.{has_row-numbered, numbered-changed, numbered-made, numbered-row_of, row_of-numbered, stands}
use Rattle.gu_positions.proofs.positions.Positions.add_to.Goals as goal
use Rattle.gu_positions.proofs.positions.Positions.add_to.Goals.{After-settle}

pub held_at-before-requires : goal.held_at-before-requires
held_at-before-requires c =
    ((place_of (account_at c.args.self.now c.args.row.now) (symbol_at c.args.self.now c.args.row.now)), stands (account_at c.args.self.now c.args.row.now) (symbol_at c.args.self.now c.args.row.now) c.self.inside.rows.entries c.args.row.now.number (rw c.self.view_is (numbered-made c.args.self.now c.args.row.now c.requires.made)))

pub with_more-after-requires : goal.with_more-after-requires
with_more-after-requires c =
    fits c.self.inside c.self.invariant c.args.side (account_at c.args.self.now c.args.row.now) (symbol_at c.args.self.now c.args.row.now) c.args.lots c.held_at-before.result (c.held_at-before.ensures (place_of (account_at c.args.self.now c.args.row.now) (symbol_at c.args.self.now c.args.row.now)) (stands (account_at c.args.self.now c.args.row.now) (symbol_at c.args.self.now c.args.row.now) c.self.inside.rows.entries c.args.row.now.number (rw c.self.view_is (numbered-made c.args.self.now c.args.row.now c.requires.made)))) (rw c.self.view_is c.requires.fits)

pub write-requires : goal.write-requires
write-requires c =
    ((place_of (account_at c.args.self.now c.args.row.now) (symbol_at c.args.self.now c.args.row.now)), stands (account_at c.args.self.now c.args.row.now) (symbol_at c.args.self.now c.args.row.now) c.self.inside.rows.entries c.args.row.now.number (rw c.self.view_is (numbered-made c.args.self.now c.args.row.now c.requires.made)))

pub settle-requires : goal.settle-requires
settle-requires c =
    settles c.self.inside c.self.invariant (account_at c.args.self.now c.args.row.now) (symbol_at c.args.self.now c.args.row.now) (more_in c.args.side c.args.lots) (keeps-more c.args.side c.args.lots)
    c.held_at-before.result c.with_more-after.result (c.held_at-before.ensures (place_of (account_at c.args.self.now c.args.row.now) (symbol_at c.args.self.now c.args.row.now)) (stands (account_at c.args.self.now c.args.row.now) (symbol_at c.args.self.now c.args.row.now) c.self.inside.rows.entries c.args.row.now.number (rw c.self.view_is (numbered-made c.args.self.now c.args.row.now c.requires.made)))) (row_of-more c.args.side c.args.lots c.held_at-before.result c.with_more-after.result c.with_more-after.ensures)
    (few-more c.self.inside c.self.invariant c.args.side (account_at c.args.self.now c.args.row.now) (symbol_at c.args.self.now c.args.row.now) c.args.lots c.args.row.now.number (rw c.self.view_is (numbered-made c.args.self.now c.args.row.now c.requires.made)) (rw c.self.view_is c.requires.fits))
    c.excess.result c.excess-2.result c.excess.ensures c.excess-2.ensures

-- both tables are stored correctly, with these rows
kept : (c : After-settle) → let later : Inside = record { rows = c.write.new.rows; interests = c.settle.new.interests } in
    IsKept later × (rows_of later ≡ with_more (rows_of c.self.inside) c.args.side (account_at c.args.self.now c.args.row.now) (symbol_at c.args.self.now c.args.row.now) c.args.lots)
kept c =
    keeps-written c.self.inside c.self.invariant (account_at c.args.self.now c.args.row.now) (symbol_at c.args.self.now c.args.row.now) (more_in c.args.side c.args.lots) (keeps-more c.args.side c.args.lots)
    c.held_at-before.result c.with_more-after.result (c.held_at-before.ensures (place_of (account_at c.args.self.now c.args.row.now) (symbol_at c.args.self.now c.args.row.now)) (stands (account_at c.args.self.now c.args.row.now) (symbol_at c.args.self.now c.args.row.now) c.self.inside.rows.entries c.args.row.now.number (rw c.self.view_is (numbered-made c.args.self.now c.args.row.now c.requires.made)))) (row_of-more c.args.side c.args.lots c.held_at-before.result c.with_more-after.result c.with_more-after.ensures)
    (few-more c.self.inside c.self.invariant c.args.side (account_at c.args.self.now c.args.row.now) (symbol_at c.args.self.now c.args.row.now) c.args.lots c.args.row.now.number (rw c.self.view_is (numbered-made c.args.self.now c.args.row.now c.requires.made)) (rw c.self.view_is c.requires.fits))
    c.excess.result c.excess-2.result c.excess.ensures c.excess-2.ensures
    (record { rows = c.write.new.rows; interests = c.settle.new.interests }) (c.write.ensures.entries (place_of (account_at c.args.self.now c.args.row.now) (symbol_at c.args.self.now c.args.row.now)) (stands (account_at c.args.self.now c.args.row.now) (symbol_at c.args.self.now c.args.row.now) c.self.inside.rows.entries c.args.row.now.number (rw c.self.view_is (numbered-made c.args.self.now c.args.row.now c.requires.made)))) (c.write.ensures.updates (place_of (account_at c.args.self.now c.args.row.now) (symbol_at c.args.self.now c.args.row.now)) (stands (account_at c.args.self.now c.args.row.now) (symbol_at c.args.self.now c.args.row.now) c.self.inside.rows.entries c.args.row.now.number (rw c.self.view_is (numbered-made c.args.self.now c.args.row.now c.requires.made))))
    c.settle.ensures.updates c.settle.ensures.stay

pub invariant_of-self : goal.invariant_of-self
invariant_of-self c = (kept c).0

pub returns-clause-rows : goal.returns-clause-rows
returns-clause-rows c = (kept c).1 ∙ ap (λ rows. with_more rows c.args.side (account_at c.args.self.now c.args.row.now) (symbol_at c.args.self.now c.args.row.now) c.args.lots) c.self.view_is

pub returns-clause-same_rows : goal.returns-clause-same_rows
returns-clause-same_rows c = λ a s.
    ap (λ rows. has_row rows a s) (returns-clause-rows c)
    ∙ has_row-changed (account_at c.args.self.now c.args.row.now) (symbol_at c.args.self.now c.args.row.now) (more_in c.args.side c.args.lots) (keeps-more c.args.side c.args.lots) c.args.self.now a s

pub returns-clause-lots : goal.returns-clause-lots
returns-clause-lots c = λ t a s.
    ap (λ rows. lots_in rows t a s) (returns-clause-rows c)
    ∙ lots_in-with_more c.args.self.now c.args.side (account_at c.args.self.now c.args.row.now) (symbol_at c.args.self.now c.args.row.now) c.args.lots
    (has_row-numbered (account_at c.args.self.now c.args.row.now) (symbol_at c.args.self.now c.args.row.now) c.args.self.now c.args.row.now.number (numbered-made c.args.self.now c.args.row.now c.requires.made)) t a s

pub returns-clause-sums : goal.returns-clause-sums
returns-clause-sums c = λ t s.
    ap (λ rows. lots_on rows t s) (returns-clause-rows c)
    ∙ lots_on-with_more c.args.self.now c.args.side (account_at c.args.self.now c.args.row.now) (symbol_at c.args.self.now c.args.row.now) c.args.lots (subst (IsDistinct same_row) c.self.view_is c.self.invariant.once)
    (has_row-numbered (account_at c.args.self.now c.args.row.now) (symbol_at c.args.self.now c.args.row.now) c.args.self.now c.args.row.now.number (numbered-made c.args.self.now c.args.row.now c.requires.made)) t s

pub returns-clause-stay : goal.returns-clause-stay
returns-clause-stay c = λ account symbol row of.
    row_of-numbered account symbol _ row
    (ap (λ rows. is_numbered rows account symbol row.number) (returns-clause-rows c)
    ∙ numbered-changed (account_at c.args.self.now c.args.row.now) (symbol_at c.args.self.now c.args.row.now) (more_in c.args.side c.args.lots) (keeps-more c.args.side c.args.lots) c.args.self.now account symbol row.number
    ∙ numbered-row_of account symbol c.args.self.now row of)
