use Rattle.std.proofs.Common.{rules, arith, take, drop, length, ap, ◌∙◌, ◌-◌, sym}
use Rattle.std.proofs.lemmas.Bool.Decides.{same_from_decides, Decides-eqb}
use Rattle.std.proofs.lemmas.Slice.Eq.{bytes_eq-Decides}
use Rattle.std.specs.Int.{w64, from_le_bytes}
use Rattle.gu_trades.proofs.ShortTextLemmas.{same-eights}
use Rattle.gu_trades.proofs.short_texts.same_by_eights.Goals as goal

pub returns-then-eight_at : goal.returns-then-eight_at
returns-then-eight_at c =
    let rest = length c.args.left.now - 8 in
    let first = sym c.eight_at.ensures ∙ c.if-eight_at.true ∙ c.eight_at-2.ensures in
    let left = c.eight_at-then-eight_at.ensures in
    let right = c.eight_at-then-eight_at-2.ensures in
    same_from_decides _ _ (
      λ last.
          same-eights rest c.args.left.now c.args.right.now c.requires.one (omega (arith, c.requires.some)) (omega (arith, c.requires.few)) (search rules) (search rules)
          first (sym left ∙ (Decides-eqb _ _).0 last ∙ right),
      λ same. (Decides-eqb _ _).1 (left ∙ ap (λ xs. from_le_bytes w64 (take 8 (drop rest xs))) same ∙ sym right),
    )
    (bytes_eq-Decides c.args.left.now c.args.right.now)
