use Rattle.std.proofs.Common.{◌≡◌, refl, ap, ◌∙◌, sym}
use Rattle.std.specs.Bool.{Decides}
use Rattle.std.proofs.lemmas.Bool.Decides.{Decides-eqb}
use Rattle.std.proofs.lemmas.Slice.Eq.{slice_eq-Decides}
use Rattle.gu_terms.specs.contracts.takes.TakePartialEq.TheImpl as take
use Rattle.gu_terms.specs.declared.takes.Take.{Take}
use Rattle.gu_terms.proofs.SameValues.{both}
use Rattle.gu_terms.proofs.takes.Takes.is_same.Goals as goal

take_eq-Decides : (a b : Take) → Decides (take.eq-value.it a b) (a ≡ b)
take_eq-Decides a b = (
  λ same. let parts = both _ _ same in
      let offers = (Decides-eqb a.offer b.offer).0 parts.0 in
      let lots = (Decides-eqb a.lots b.lots).0 parts.1 in
      λ i. record { offer = offers i; lots = lots i },
  λ same. rw ((Decides-eqb a.offer b.offer).1 (ap (λ (t : Take). t.offer) same), (Decides-eqb a.lots b.lots).1 (ap (λ (t : Take). t.lots) same)) refl,
)

pub returns : goal.returns
returns c = let decides = slice_eq-Decides take_eq-Decides _ _ _ c.eq.ensures in (
  λ same. sym c.as_slice.ensures.takes ∙ decides.0 same ∙ c.as_slice-2.ensures.takes,
  λ same. decides.1 (c.as_slice.ensures.takes ∙ same ∙ sym c.as_slice-2.ensures.takes),
)
