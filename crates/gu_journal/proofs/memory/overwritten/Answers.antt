use Rattle.std.proofs.Common.{List, ℕ, ◌∙◌, ◌++◌, ap, take}
use Rattle.gu_journal.proofs.Recorded.{written_parts}
use Rattle.gu_journal.proofs.memory.overwritten.Goals as goal

pub returns : goal.returns
returns c =
    let olds = c.args.olds.now in
    let bytes = c.args.bytes.now in
    c.in_ok-extend_from_slice-2.ensures.items
    ∙ ap (λ (l : List ℕ). l ++ c.split_at-2.result.1.now)
    (c.in_ok-extend_from_slice.ensures.items ∙ ap (λ (l : List ℕ). l ++ bytes) (c.in_ok-news.ensures.items ∙ c.split_at.ensures.front))
    ∙ ap (λ (l : List ℕ). (take c.args.at olds ++ bytes) ++ l) c.split_at-2.ensures.back
    ∙ written_parts c.args.at bytes olds c.requires
