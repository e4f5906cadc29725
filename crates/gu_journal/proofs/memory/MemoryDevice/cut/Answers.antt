use Rattle.std.proofs.Common.{List, ℕ, take, inl, inr, ⊎_elim, sym, ◌∙◌, ap, subst}
use Rattle.gu_journal.specs.Device.{Cuts}
use Rattle.gu_journal.proofs.Recorded.{keeps_to, later, left_to, nothing_else_to, seen_to}
use Rattle.gu_journal.proofs.Steps.{cuts_all}
use Rattle.gu_journal.proofs.memory.MemoryDevice.cut.Goals as goal

pub invariant_of-self-2 : goal.invariant_of-self-2
invariant_of-self-2 c =
    let m = c.args.self.now in
    record { replayed = c.in_ok-news.ensures ∙ ap (λ (l : List ℕ). take c.args.len l) c.deref.ensures.value ∙ seen_to m.first.items m.calls.items _ _ c.in_ok-push.ensures.items m.bytes.items m.replayed }

pub returns-clause-crash : goal.returns-clause-crash
returns-clause-crash c honest f left =
    let m = c.args.self.now in
    ⊎_elim
    (λ all. (m.bytes.items, inl m.replayed, subst (Cuts c.args.len m.bytes.items) (sym all) (cuts_all c.args.len m.bytes.items)))
    (λ part. (part.0, inr part.1, part.2))
    (left_to m.first.items m.calls.items _ _ c.in_ok-push.ensures.items m.bytes.items f m.replayed left)

pub returns-clause-time : goal.returns-clause-time
returns-clause-time c honest =
    let m = c.args.self.now in
    record {
      later = later m.first.items m.calls.items _ _ c.in_ok-push.ensures.items;
      nothing_else = λ t f before left. nothing_else_to m.first.items m.calls.items _ _ c.in_ok-push.ensures.items t f left;
      keeps = λ t f before left. keeps_to m.first.items m.calls.items _ _ c.in_ok-push.ensures.items t f left;
    }
