use Rattle.std.proofs.Common.{rules, take, drop, ap, ◌∙◌, sym}
use Rattle.std.proofs.lemmas.Bool.Decides.{same_from_decides, Decides-eqb}
use Rattle.std.proofs.lemmas.Slice.Eq.{bytes_eq-Decides}
use Rattle.std.specs.Int.{w32, from_le_bytes}
use Rattle.gu_terms.proofs.PaddedLemmas.{twelve-same}
use Rattle.gu_terms.proofs.name.are_same.Goals as goal
use Rattle.gu_terms.proofs.name.are_same.Goals.{then-four_at, else-four_at}

pub returns-then-four_at-2 : goal.returns-then-four_at-2
returns-then-four_at-2 c = elim c.if-four_at.branch [
  | then-four_at w ↦
      let first = sym c.four_at.ensures ∙ w.if-four_at.true ∙ c.four_at-2.ensures in
      let second = (Decides-eqb _ _).0 (sym w.value-is ∙ c.if-four_at-2.true) in
      let left = c.four_at-then-four_at-2-2.ensures in
      let right = c.four_at-then-four_at-2-3.ensures in
      same_from_decides _ _ (
        λ third.
            twelve-same c.args.left.now c.args.right.now (search rules) (search rules) (search rules) (search rules)
            first
            (sym w.four_at-then-four_at.ensures ∙ second ∙ w.four_at-then-four_at-2.ensures)
            (sym left ∙ (Decides-eqb _ _).0 third ∙ right),
        λ same. (Decides-eqb _ _).1 (left ∙ ap (λ xs. from_le_bytes w32 (take 4 (drop 8 xs))) same ∙ sym right),
      )
      (bytes_eq-Decides c.args.left.now c.args.right.now)
  | else-four_at w ↦ search rules
]
