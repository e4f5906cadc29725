use Rattle.std.proofs.Common.{◌≡◌, List, ℕ, ◌-◌, ◌∷◌, [], ◌++◌, length, take, drop, sym, subst, ap, ◌∙◌, arith}
use Rattle.gu_fix.specs.Stream.{AreFrames, LeadsOn}
use Rattle.gu_fix.proofs.StreamLaws.{given_from}
use Rattle.gu_fix.proofs.Scanning.{leads_on_next, leads_on_passed}
use Rattle.gu_fix.proofs.scan.scan.Goals as goal

pub messages-preserved : goal.messages-preserved
messages-preserved c =
    let bytes = c.messages.window in
    let given = c.messages.frames.items in
    let start = c.in-Whole.start in
    let end = c.in-Whole.end in
    let next = rw c.in-Whole.is at c.in_ok-next.ensures.next in
    let same = c.in_ok-next.ensures.same in
    let copied : c.in_ok-new-in-Whole.field-0 ≡ take (end - start) (drop start c.bytes.result.now) = c.in_ok-new-in-Whole.ensures in
    let message = copied ∙ ap (λ (t : List ℕ). take (end - start) (drop start t)) (c.bytes.ensures ∙ same) in
    let items = ◌∙◌ {A = List (List ℕ)} c.in_ok-push-in-Whole.ensures.items (ap (λ (m : List ℕ). given ++ m ∷ []) message) in
    record {
      within = omega (arith, next.1.high, ap length same);
      leads_on = subst (λ (fs : List (List ℕ)). LeadsOn c.next_from.new.window fs (drop end c.next_from.new.window)) (sym items)
          (subst (λ (t : List ℕ). LeadsOn t (given ++ take (end - start) (drop start bytes) ∷ []) (drop end t)) (sym same)
          (leads_on_next bytes given c.messages.at start end c.messages.invariant.leads_on next.0 next.1));
      same = same ∙ c.messages.invariant.same;
    }

pub returns-in-Open-clause-given : goal.returns-in-Open-clause-given
returns-in-Open-clause-given c =
    let bytes = c.messages.window in
    let given = c.messages.frames.items in
    let next = rw c.in-Open.is at c.in_ok-next.ensures.next in
    subst (λ (t : List ℕ). AreFrames t given) c.messages.invariant.same
    (given_from bytes given (drop c.in-Open.place bytes) (leads_on_passed bytes given c.messages.at c.in-Open.place c.messages.invariant.leads_on next.0) next.1)

pub returns-in-Open-clause-leads_on : goal.returns-in-Open-clause-leads_on
returns-in-Open-clause-leads_on c =
    let bytes = c.messages.window in
    let given = c.messages.frames.items in
    let next = rw c.in-Open.is at c.in_ok-next.ensures.next in
    subst (λ (t : List ℕ). LeadsOn t given (drop c.in-Open.place t)) c.messages.invariant.same
    (leads_on_passed bytes given c.messages.at c.in-Open.place c.messages.invariant.leads_on next.0)
