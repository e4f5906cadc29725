use Rattle.std.proofs.Common.{arith}
use Rattle.std.proofs.lemmas.Result.{on_ok_weaker}
use Rattle.gu_log.proofs.GoingOn.{front_of, goes_on-longer, goes_on-self}
use Rattle.gu_log.proofs.rows.append_whole.Goals as goal

pub returns-in_err-append_told-clause-front : goal.returns-in_err-append_told-clause-front
returns-in_err-append_told-clause-front c = front_of _ _ (c.append_told.ensures _ (goes_on-self _))

pub end_line-requires : goal.end_line-requires
end_line-requires c =
    let longer = goes_on-longer c.args.line.now.items c.append_told.new.line.items (c.append_told.ensures _ (goes_on-self _)) in
    omega (arith, c.len-begun.ensures, longer)

pub returns-clause-line : goal.returns-clause-line
returns-clause-line c =
    on_ok_weaker c.end_line.result (λ ended. ended c.args.line.now.items (omega (arith, c.len-begun.ensures)) (c.append_told.ensures _ (goes_on-self _))) c.end_line.ensures.line
