use Rattle.std.proofs.Common.{List, ℕ, inl, inr, sym, ◌∙◌, ap, subst}
use Rattle.gu_journal.specs.Calls.{outcomes_after}
use Rattle.gu_journal.specs.declared.memory.Call.{Call}
use Rattle.gu_journal.specs.Device.{Mixes, written}
use Rattle.gu_journal.proofs.Recorded.{keeps_to, later, left_to, nothing_else_to, seen_to}
use Rattle.gu_journal.proofs.Steps.{mixes_all, mixes_none}
use Rattle.gu_journal.proofs.memory.MemoryDevice.write_at.Goals as goal

pub invariant_of-self-2 : goal.invariant_of-self-2
invariant_of-self-2 c =
    let m = c.args.self.now in
    record { replayed = c.in_ok-news.ensures ∙ ap (λ (l : List ℕ). written c.args.at c.args.bytes.now l) c.deref.ensures.value ∙ ap (λ (l : List ℕ). written c.args.at l m.bytes.items) (sym c.in_ok-bytes.ensures.items) ∙ seen_to m.first.items m.calls.items _ _ c.in_ok-push.ensures.items m.bytes.items m.replayed }

pub returns-clause-crash : goal.returns-clause-crash
returns-clause-crash c honest f left =
    let m = c.args.self.now in
    let is = c.in_ok-bytes.ensures.items in
    elim (left_to m.first.items m.calls.items _ _ c.in_ok-push.ensures.items m.bytes.items f m.replayed left) [
      | inl all ↦
          let whole = all ∙ ap (λ (l : List ℕ). written c.args.at l m.bytes.items) is in
          (m.bytes.items, inl m.replayed, subst (Mixes c.args.at c.args.bytes.now m.bytes.items) (sym whole) (mixes_all c.args.at c.args.bytes.now m.bytes.items (c.requires.within tt)))
      | inr part ↦ (part.0, inr part.1, subst (λ (l : List ℕ). Mixes c.args.at l part.0 f) is part.2)
    ]

pub returns-in_err-news-clause-crash : goal.returns-in_err-news-clause-crash
returns-in_err-news-clause-crash c honest f left = (f, left, mixes_none c.args.at c.args.bytes.now f (c.requires.within_left honest f left))

pub returns-in_err-bytes-clause-crash : goal.returns-in_err-bytes-clause-crash
returns-in_err-bytes-clause-crash c honest f left = (f, left, mixes_none c.args.at c.args.bytes.now f (c.requires.within_left honest f left))

pub returns-in_err-push-clause-crash : goal.returns-in_err-push-clause-crash
returns-in_err-push-clause-crash c honest f left =
    let was = subst (λ (l : List Call). outcomes_after c.args.self.now.first.items l f) c.in_err-push.ensures.items left in
    (f, was, mixes_none c.args.at c.args.bytes.now f (c.requires.within_left honest f was))

pub returns-clause-time : goal.returns-clause-time
returns-clause-time c honest =
    let m = c.args.self.now in
    record {
      later = later m.first.items m.calls.items _ _ c.in_ok-push.ensures.items;
      nothing_else = λ t f before left. nothing_else_to m.first.items m.calls.items _ _ c.in_ok-push.ensures.items t f left;
      keeps = λ t f before left. keeps_to m.first.items m.calls.items _ _ c.in_ok-push.ensures.items t f left;
    }
