use Rattle.gu_book.proofs.Words.{List, map, subst, take_all, MovesAll, taken_by, Transfer}
use Rattle.gu_book.proofs.Moves.{carried-next, may-claim, moves-none, next-transfer}
use Rattle.gu_book.proofs.sweeping.carry_out.Goals as goal

pub loop-transfer-init : goal.loop-transfer-init
loop-transfer-init c = record { moves = λ reference may. (may, moves-none reference c.args.totals.now) }

pub carry_out-requires : goal.carry_out-requires
carry_out-requires c =
    let l = c.loop-transfer in
    let may = next-transfer c.requires.0 l.totals c.args.transfers.now l.transfer-index c.loop-transfer-test.true c.transfer-item.is (l.invariant.moves c.requires.0 c.requires.1).0 in
    record { may = may-claim c.requires.0 l.totals c.transfer-item.result _ may; rows = may.ready.0.rows }

pub loop-transfer-preserved : goal.loop-transfer-preserved
loop-transfer-preserved c =
    let l = c.loop-transfer in record {
      moves = λ reference whole.
          carried-next reference c.args.totals.now l.totals c.carry_out.new.self c.args.transfers.now l.transfer-index c.loop-transfer-test.true c.transfer-item.is c.carry_out.ensures (l.invariant.moves reference whole);
    }

pub returns : goal.returns
returns c reference may =
    subst (λ (all : List Transfer). MovesAll reference c.args.totals.now c.loop-transfer.totals (map taken_by all)) (take_all c.loop-transfer.transfer-index c.args.transfers.now c.loop-transfer-test.false)
    (c.loop-transfer.invariant.moves reference may).1
