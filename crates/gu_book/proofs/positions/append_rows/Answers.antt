use Rattle.gu_book.proofs.Words.{ℕ, List, Option, sym, ap, ◌++◌, ◌∙◌, append_assoc, take, filter_map, option_to_list, Buy, Sell, lots_in, row_of_lots}
use Rattle.gu_terms.specs.declared.query.PositionRow.{PositionRow}
use Rattle.gu_ref.specs.declared.instruments.Instrument.{Instrument}
use Rattle.gu_book.proofs.LimitLemmas.{filter_map_next}
use Rattle.gu_book.proofs.positions.append_rows.Goals as goal

pub loop-instrument-preserved : goal.loop-instrument-preserved
loop-instrument-preserved c =
    let given : Instrument → Option PositionRow = λ i. row_of_lots i.symbol (lots_in c.args.positions.now Buy c.args.account.now i.symbol) (lots_in c.args.positions.now Sell c.args.account.now i.symbol) in
    let before = c.args.rows.now.items in
    let so_far = filter_map given (take c.loop-instrument.instrument-index c.args.instruments.now) in
    let row = c.row_of_lots.ensures ∙ ap (λ (lots : ℕ × ℕ). row_of_lots c.instrument-item.result.symbol lots.0 lots.1) c.of-long.ensures in
    c.in_ok-append_row.ensures
    ∙ ap (λ (rows : List PositionRow). rows ++ option_to_list c.row_of_lots.result) c.loop-instrument.invariant
    ∙ append_assoc before so_far (option_to_list c.row_of_lots.result)
    ∙ ap (λ (r : Option PositionRow). before ++ (so_far ++ option_to_list r)) row
    ∙ ap (λ (rows : List PositionRow). before ++ rows) (sym (filter_map_next given c.args.instruments.now c.loop-instrument.instrument-index c.instrument-item.result c.loop-instrument-test.true c.instrument-item.is))
