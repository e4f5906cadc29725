use Rattle.std.proofs.Common.{◌≡◌, true, slice_index_or, subst, arith}
use Rattle.gu_text.specs.Words.{is_blank}
use Rattle.gu_text.proofs.FirstBytes.{first_place}
use Rattle.gu_text.proofs.words.blank_place.Goals as goal

pub returns-then-run-lt8 : goal.returns-then-run-lt8
returns-then-run-lt8 c =
    let run = c.run_in_eight-run in
    first_place is_blank c.args.text.now run.result (λ k under. run.ensures.before k (omega arith) (omega (arith, under)))
    (omega (arith, c.if-text-lt8.false, c.if-run-lt8.true)) (subst (λ k. is_blank (slice_index_or c.args.text.now k 0) ≡ true) (omega arith) (run.ensures.stops c.if-run-lt8.true))
