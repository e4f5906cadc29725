use Rattle.gu_book.proofs.Words.{◌≡◌, ◌++◌, take, filter_map, Buy, Sell, lots_in, row_of_lots}
use Rattle.gu_ref.specs.declared.instruments.Instrument.{Instrument}
use Rattle.gu_book.proofs.positions.append_rows.Given as goal

abbrev pub invariant-loop-instrument : goal.invariant-loop-instrument
invariant-loop-instrument l =
    l.rows.items
    ≡ l.initial.rows.items
    ++ filter_map (λ (i : Instrument). row_of_lots i.symbol (lots_in l.positions Buy l.account i.symbol) (lots_in l.positions Sell l.account i.symbol)) (take l.instrument-index l.instruments)
