use Rattle.std.proofs.Common.{rules, arith, take, drop, length, ap, ◌∙◌, ◌-◌, sym}
use Rattle.std.proofs.lemmas.Bool.Decides.{same_from_decides, Decides-eqb}
use Rattle.std.proofs.lemmas.Slice.Eq.{bytes_eq-Decides}
use Rattle.std.specs.Int.{w32, from_le_bytes}
use Rattle.gu_trades.proofs.ShortTextLemmas.{same-fours}
use Rattle.gu_trades.proofs.short_texts.same_by_fours.Goals as goal

pub returns-then-four_at : goal.returns-then-four_at
returns-then-four_at c =
    let rest = length c.args.left.now - 4 in
    let first = sym c.four_at.ensures ∙ c.if-four_at.true ∙ c.four_at-2.ensures in
    let left = c.four_at-then-four_at.ensures in
    let right = c.four_at-then-four_at-2.ensures in
    same_from_decides _ _ (
      λ last.
          same-fours rest c.args.left.now c.args.right.now c.requires.one (omega (arith, c.requires.some)) (omega (arith, c.requires.few)) (search rules) (search rules)
          first (sym left ∙ (Decides-eqb _ _).0 last ∙ right),
      λ same. (Decides-eqb _ _).1 (left ∙ ap (λ xs. from_le_bytes w32 (take 4 (drop rest xs))) same ∙ sym right),
    )
    (bytes_eq-Decides c.args.left.now c.args.right.now)
