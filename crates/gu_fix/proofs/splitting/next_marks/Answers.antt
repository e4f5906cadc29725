use Rattle.std.proofs.Common.{◌-◌, ◌/◌, ◌^◌, ℕ, ap, ◌∙◌, arith, length}
use Rattle.gu_fix.proofs.Ends.{last_marks}
use Rattle.gu_fix.proofs.splitting.next_marks.Goals as goal

pub returns-else-start-last : goal.returns-else-start-last
returns-else-start-last c =
    let bytes = c.args.bytes.now in
    let start = c.args.start in
    ap (λ (m : ℕ). m / 2 ^ (start - (length bytes - 16))) c.marks_at-else-start-last.ensures ∙ last_marks bytes start c.requires.0 (omega arith) c.requires.1
