use Rattle.std.proofs.Common.{eqb, take, drop, arith, w8}
use Rattle.std.proofs.lemmas.Simd.{bitmask_splat, length-chunk}
use Rattle.gu_fix.proofs.splitting.marks_at.Goals as goal

pub returns : goal.returns
returns c =
    let lanes = take 16 (drop c.args.place c.args.bytes.now) in
    bitmask_splat w8 eqb lanes 16 1 (length-chunk c.args.place 16 c.args.bytes.now c.requires) (omega arith)
