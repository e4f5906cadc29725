use Rattle.std.proofs.Common.{ap, ◌∙◌, sym}
use Rattle.std.proofs.lemmas.Bool.Decides.{Decides-eqb}
use Rattle.std.proofs.lemmas.Slice.Eq.{slice_eq-Decides}
use Rattle.gu_terms.specs.Cuts.{CutLists}
use Rattle.gu_terms.proofs.KeyLemmas.{eq-Decides}
use Rattle.gu_terms.proofs.cut.Cut.is_of.Goals as goal

pub returns-then-eq : goal.returns-then-eq
returns-then-eq c =
    let told = slice_eq-Decides Decides-eqb _ _ _ c.eq-then-eq.ensures in
    let keys = sym c.keys.ensures.keys ∙ (slice_eq-Decides eq-Decides _ _ _ c.eq.ensures).0 c.if-eq.true in (
      λ same. let offers = sym c.offers.ensures.offers ∙ told.0 same in
          λ i. record { keys = keys i; offers = offers i },
      λ same. told.1 (c.offers.ensures.offers ∙ ap (λ (k : CutLists). k.offers) same),
    )

pub returns-else-eq : goal.returns-else-eq
returns-else-eq c = (
  λ same. cc,
  λ same. let keys = (slice_eq-Decides eq-Decides _ _ _ c.eq.ensures).1 (c.keys.ensures.keys ∙ ap (λ (k : CutLists). k.keys) same) in cc,
)
