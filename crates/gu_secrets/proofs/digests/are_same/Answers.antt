use Rattle.std.proofs.Common.{ℕ, List, ap, get_or, arith}
use Rattle.std.proofs.lemmas.Bool.{eq-eqb, eqb-true}
use Rattle.gu_secrets.proofs.Differences.{one_more, same_bytes}
use Rattle.gu_secrets.proofs.digests.are_same.Goals as goal

pub loop-place-preserved : goal.loop-place-preserved
loop-place-preserved c = one_more c.loop-place.differences c.loop-place.place c.args.left.now c.args.right.now c.loop-place.invariant

pub returns : goal.returns
returns c =
    let so_far = c.loop-place.invariant in (
      λ none. same_bytes c.args.left.now c.args.right.now (omega arith) (λ k below. so_far.0 (eqb-true c.loop-place.differences 0 none) k (omega (arith, below))),
      λ same. eq-eqb c.loop-place.differences 0 (so_far.1 (λ k below. ap (λ (bytes : List ℕ). get_or bytes k 0) same)),
    )
