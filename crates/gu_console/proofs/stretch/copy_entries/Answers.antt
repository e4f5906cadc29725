use Rattle.std.proofs.Common.{◌≡◌, ◌∙◌, ◌-◌, ◌≤◌, ◌++◌, ◌∷◌, [], ℕ, List, ap, append_assoc, arith, drop, inl, inr, sym, take}
use Rattle.gu_terms.specs.declared.entry.Entry.{Entry}
use Rattle.gu_desk.proofs.Fronts.{one_more}
use Rattle.gu_console.proofs.stretch.copy_entries.Goals as goal

pub loop-place-preserved : goal.loop-place-preserved
loop-place-preserved c =
    let i = c.loop-place.invariant in
    let history = c.args.history.now in
    let from = c.args.from in
    let before = c.args.entries.now.items in
    let entry = c.in_ok-at.field-0 in
    let low : from ≤ c.loop-place.place = omega arith in
    record {
      copied = c.in_ok-push.ensures.items
          ∙ ap (λ (es : List Entry). es ++ entry ∷ []) i.copied
          ∙ append_assoc before (take (c.loop-place.place - from) (drop from history)) (entry ∷ [])
          ∙ ap (λ (es : List Entry). before ++ es) (sym (one_more history from c.loop-place.place entry low c.in_ok-at.ensures));
      low = inl (omega arith);
    }

pub returns : goal.returns
returns c =
    let i = c.loop-place.invariant in
    let from = c.args.from in
    let same : c.loop-place.place - from ≡ c.args.end - from = elim i.low [ inl h ↦ omega arith | inr h ↦ omega arith ] in
    i.copied ∙ ap (λ (n : ℕ). c.args.entries.now.items ++ take n (drop from c.args.history.now)) same
