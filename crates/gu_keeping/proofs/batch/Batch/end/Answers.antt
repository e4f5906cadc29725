use Rattle.gu_keeping.proofs.Made.{batch_ended}
use Rattle.gu_keeping.proofs.batch.Batch.end.Goals as goal

pub returns : goal.returns
returns c = λ chain origins entries of.
    let is = c.end-chain.ensures chain entries of.link in
    (batch_ended chain origins entries c.args.self c.end-chain.result c.append_digest.new.output.items of is c.in_ok-append_digest.ensures, is)
