use Rattle.gu_msgs.proofs.Words.{arith, refl, entry_rows, header_rows}
use Rattle.gu_msgs.proofs.OutlineLemmas.{any_text, first_texts, in_header, one_more}
use Rattle.gu_msgs.proofs.outline.Outline.header.Goals as goal

pub number-requires-clause-row : goal.number-requires-clause-row
unfolding header_rows entry_rows
number-requires-clause-row c = record { within = in_header c.args.self.now.kind 5 (omega arith); is_row = refl; plain = refl }

pub number-requires-clause-judged : goal.number-requires-clause-judged
number-requires-clause-judged c = first_texts c.args.self.now

pub flag-requires-clause-row : goal.flag-requires-clause-row
unfolding header_rows entry_rows
flag-requires-clause-row c = record { within = in_header c.args.self.now.kind 7 (omega arith); is_row = refl; plain = refl }

pub flag-requires-clause-judged : goal.flag-requires-clause-judged
unfolding header_rows entry_rows
flag-requires-clause-judged c =
    let m = c.args.self.now in
    one_more m 6 (in_header m.kind 6 (omega arith)) refl c.in_ok-number.ensures.1 (any_text _)

pub returns : goal.returns
unfolding header_rows entry_rows
returns c =
    let m = c.args.self.now in
    let ninth = one_more m 8 (in_header m.kind 8 (omega arith)) refl c.in_ok-flag.ensures.1 (any_text _) in
    (tt, one_more m 9 (in_header m.kind 9 (omega arith)) refl ninth (any_text _))
