use Rattle.std.proofs.Common.{◌≡◌, not}
use Rattle.std.specs.List.{prefix_len}
use lib.Lanes.{chunk}
use Rattle.std.proofs.lemmas.Simd.{run_in_chunk_fails, run_in_chunk_le, run_in_chunk_stops}
use Rattle.gu_text.specs.Words.{is_blank}
use Rattle.gu_text.proofs.FirstBytes.{run_counted}
use Rattle.gu_text.proofs.words.run_in_eight.Goals as goal

-- how many of the eight bytes come before the first space
counted : (c : goal.After-lowest_bit) → c.lowest_bit.result ≡ prefix_len (λ b. not (is_blank b)) (chunk c.args.place 8 c.args.text.now)
counted c = run_counted 32 c.args.text.now c.args.place c.lowest_bit.result c.requires c.lowest_bit.ensures

pub returns-clause-before : goal.returns-clause-before
returns-clause-before c k from under =
    run_in_chunk_fails is_blank c.args.text.now c.args.place 8 c.lowest_bit.result 0 c.requires (counted c) k from under

pub returns-clause-stops : goal.returns-clause-stops
returns-clause-stops c under = run_in_chunk_stops is_blank c.args.text.now c.args.place 8 c.lowest_bit.result 0 c.requires (counted c) under

pub returns-clause-within : goal.returns-clause-within
returns-clause-within c = run_in_chunk_le is_blank c.args.text.now c.args.place 8 c.lowest_bit.result 0 c.requires (counted c)
