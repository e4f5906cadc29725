use Rattle.std.proofs.Common.{◌≡◌, ℕ, ◌++◌, List, [], length, drop, sym, ap, ◌∙◌, inl, inr, arith}
use Rattle.std.proofs.lemmas.Slice.Eq.{starts_is}
use Rattle.std.proofs.lemmas.List.{nil_from_length, append-nil}
use Rattle.std.proofs.lemmas.Bool.{cases_lt, both_ways}
use Rattle.std.proofs.lemmas.Bool.Decides.{Decides-eqb}
use Rattle.gu_fix.proofs.Lists.{front_of_front}
use Rattle.gu_fix.proofs.prefix.meet.Goals as goal

pub returns-then-starts_with : goal.returns-then-starts_with
returns-then-starts_with c =
    let s = c.args.bytes.now in
    let p = c.args.text.now in
    (drop (length p) s, (starts_is Decides-eqb s p _ c.starts_with.ensures.value).0 c.if-starts_with.true)

pub returns-then-starts_with-2 : goal.returns-then-starts_with-2
returns-then-starts_with-2 c =
    let s = c.args.bytes.now in
    let p = c.args.text.now in
    let x = drop (length s) p in
    let e : p ≡ s ++ x = (starts_is Decides-eqb p s _ c.starts_with-else-starts_with.ensures.value).0 c.if-starts_with-2.true in
    let first = (starts_is Decides-eqb s p _ c.starts_with.ensures.value).1 in
    elim (cases_lt 0 (length x)) [
      | inl lt ↦ (x, lt, sym e)
      | inr le ↦
          let none : x ≡ [] = nil_from_length x (omega arith) in
          let same : s ≡ p ++ [] = sym (append-nil s) ∙ ap (λ (t : List ℕ). s ++ t) (sym none) ∙ sym e ∙ sym (append-nil p) in
          absurd (both_ways _ c.if-starts_with.false (first [] same))
    ]

pub returns-else-starts_with-2 : goal.returns-else-starts_with-2
returns-else-starts_with-2 c more rest e =
    let s = c.args.bytes.now in
    let p = c.args.text.now in
    elim (cases_lt (length s) (length p)) [
      | inl lt ↦ both_ways _ c.if-starts_with-2.false ((starts_is Decides-eqb p s _ c.starts_with-else-starts_with.ensures.value).1 _ (front_of_front p s rest more (sym e) (omega arith)))
      | inr le ↦ both_ways _ c.if-starts_with.false ((starts_is Decides-eqb s p _ c.starts_with.ensures.value).1 _ (front_of_front s p more rest e le))
    ]
