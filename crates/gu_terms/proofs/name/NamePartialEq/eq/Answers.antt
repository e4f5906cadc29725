use Rattle.std.proofs.Common.{ap, ◌∙◌, sym}
use Rattle.std.proofs.lemmas.Bool.Decides.{same_from_decides}
use Rattle.std.proofs.lemmas.Slice.Eq.{bytes_eq-Decides}
use Rattle.gu_terms.specs.Padded.{padded}
use Rattle.gu_terms.proofs.PaddedLemmas.{padded-same}
use Rattle.gu_terms.proofs.name.NamePartialEq.eq.Goals as goal

pub returns-then-len : goal.returns-then-len
returns-then-len c =
    let left = c.with_zeros.ensures in
    let right = c.with_zeros-then-len.ensures in
    let arrays = bytes_eq-Decides c.with_zeros.result.now c.with_zeros-then-len.result.now in
    same_from_decides _ _ (
      λ h.
          sym c.self.view_is
          ∙ padded-same 12 c.self.inside.text c.other.inside.text (sym c.len.ensures ∙ c.if-len.true ∙ c.len-2.ensures) (sym left ∙ arrays.0 (sym c.are_same.ensures ∙ h) ∙ right)
          ∙ c.other.view_is,
      λ same. c.are_same.ensures ∙ arrays.1 (left ∙ ap (padded 12) (c.self.view_is ∙ same ∙ sym c.other.view_is) ∙ sym right),
    )
    (bytes_eq-Decides c.args.self.now c.args.other.now)
