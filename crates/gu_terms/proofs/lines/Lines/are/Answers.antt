use Rattle.std.proofs.Common.{◌≡◌, refl, ap, ◌∙◌, sym}
use Rattle.std.specs.Bool.{Decides}
use Rattle.std.proofs.lemmas.Bool.Decides.{Decides-eqb}
use Rattle.std.proofs.lemmas.Slice.Eq.{bytes_eq-Decides, slice_eq-Decides}
use Rattle.gu_terms.specs.contracts.lines.LinePartialEq.TheImpl as line
use Rattle.gu_terms.specs.declared.lines.Line.{Line}
use Rattle.gu_terms.proofs.SameValues.{both}
use Rattle.gu_terms.proofs.lines.Lines.are.Goals as goal

line_eq-Decides : (a b : Line) → Decides (line.eq-value.it a b) (a ≡ b)
line_eq-Decides a b = (
  λ same. let parts = both _ _ same in
      let names = (bytes_eq-Decides a.account.name b.account.name).0 parts.0 in
      let account : a.account ≡ b.account = ap (λ n. record { name = n }) names in
      let lots = (Decides-eqb a.lots b.lots).0 parts.1 in
      λ i. record { account = account i; lots = lots i },
  λ same. rw ((bytes_eq-Decides a.account.name b.account.name).1 (ap (λ (l : Line). l.account.name) same), (Decides-eqb a.lots b.lots).1 (ap (λ (l : Line). l.lots) same)) refl,
)

pub returns : goal.returns
returns c = let decides = slice_eq-Decides line_eq-Decides _ _ _ c.eq.ensures in (
  λ same. sym c.as_slice.ensures.lines ∙ decides.0 same,
  λ same. decides.1 (c.as_slice.ensures.lines ∙ same),
)
