use Rattle.std.proofs.Common.{◌≡◌, ℕ, inl, ◌∙◌, ap, subst, arith}
use Rattle.std.specs.declared.vec.Vec.{Vec}
use Rattle.std.specs.declared.alloc.Global.{Global}
use Rattle.gu_etcd.specs.InMemory.{WentUp, log_of}
use Rattle.gu_etcd.specs.Steps.{Answers, log_in}
use Rattle.gu_etcd.proofs.memory_node.MemoryNode.put_heard.Goals as goal

pub returns-in-Ok-find : goal.returns-in-Ok-find
returns-in-Ok-find c =
    let entry = c.args.entry.now in
    let new = c.find.new.self in
    let carried = c.carry_out.ensures in
    let found = c.find.ensures in
    let same : log_in c.carry_out.new.self ≡ log_in c.args.self.now = c.in-Ok.ensures.not_put c.if-is_put.false in
    record {
      leader = found.leader ∙ carried.leader;
      log = inl (ap (λ (l : Vec (Vec ℕ Global) Global). log_of l.items) found.log ∙ same);
      answer = subst (λ (k : ℕ). Answers entry k new c.in-Ok-find.answer) carried.known (c.in-Ok-find.ensures.answer entry);
      unknown = tt;
      unanswered = λ of. absurd (cc);
      memory = λ of. absurd (cc);
      refused = λ _. subst (λ (k : ℕ). WentUp k new.refusals) carried.refusals c.in-Ok-find.ensures.refused;
      failures_stay = omega arith;
      refusals_stay = omega arith;
      shortages_stay = omega arith;
    }
