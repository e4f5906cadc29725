use Rattle.std.proofs.Common.{inl, ⊎_elim, ◌∙◌, is_ok}
use Rattle.gu_journal.proofs.Recorded.{keeps_to, later, left_to, nothing_else_to, synced_seen}
use Rattle.gu_journal.proofs.memory.MemoryDevice.sync.Goals as goal

pub invariant_of-self : goal.invariant_of-self
invariant_of-self c = record { replayed = synced_seen c.args.self.now.first.items _ c.args.self.now.calls.items _ (is_ok c.push.result) c.push.ensures.items c.args.self.now.replayed }

pub returns-clause-durable : goal.returns-clause-durable
returns-clause-durable c honest f left =
    let m = c.args.self.now in
    ⊎_elim (λ all. all) (λ part. part) (left_to m.first.items m.calls.items _ _ c.in_ok-push.ensures.items m.bytes.items f m.replayed left)

pub returns-clause-crash : goal.returns-clause-crash
returns-clause-crash c honest f left =
    let m = c.args.self.now in
    inl (⊎_elim (λ all. all) (λ part. part) (left_to m.first.items m.calls.items _ _ c.in_ok-push.ensures.items m.bytes.items f m.replayed left) ∙ m.replayed)

pub returns-clause-time : goal.returns-clause-time
returns-clause-time c honest =
    let m = c.args.self.now in
    record {
      later = later m.first.items m.calls.items _ _ c.in_ok-push.ensures.items;
      nothing_else = λ t f before left. nothing_else_to m.first.items m.calls.items _ _ c.in_ok-push.ensures.items t f left;
      keeps = λ t f before left. keeps_to m.first.items m.calls.items _ _ c.in_ok-push.ensures.items t f left;
    }
