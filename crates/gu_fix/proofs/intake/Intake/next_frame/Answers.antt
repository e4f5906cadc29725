use Rattle.std.proofs.Common.{◌≡◌, List, ℕ, ◌-◌, [], take, drop, sym, subst, ap, ◌∙◌}
use Rattle.gu_fix.specs.Stream.{IsFirstFrame, LeadsOn}
use Rattle.gu_fix.proofs.Scanning.{first_from, leads_on_passed}
use Rattle.gu_fix.proofs.StreamLaws.{leads_on_start}
use Rattle.gu_fix.proofs.intake.Intake.next_frame.Goals as goal

pub returns-in_ok-frame-in-Whole-clause-first : goal.returns-in_ok-frame-in-Whole-clause-first
returns-in_ok-frame-in-Whole-clause-first c =
    let next = rw c.in-Whole.is at c.in_ok-next.ensures.next in
    let same = c.in_ok-next.ensures.same in
    let copied : c.in_ok-frame-in-Whole.frame ≡ take (c.in-Whole.end - c.in-Whole.start) (drop c.in-Whole.start c.bytes.result.now) = c.in_ok-frame-in-Whole.ensures in
    let message = copied ∙ ap (λ (t : List ℕ). take (c.in-Whole.end - c.in-Whole.start) (drop c.in-Whole.start t)) (c.bytes.ensures ∙ same) in
    let rest = c.consume.ensures ∙ ap (drop c.in-Whole.end) same in
    subst (λ (t : List ℕ). IsFirstFrame t c.in_ok-frame-in-Whole.frame c.consume.new.self) c.self.view_is
    (subst (λ (t : List ℕ). IsFirstFrame c.self.inside.kept t c.consume.new.self) (sym message)
    (subst (IsFirstFrame c.self.inside.kept _) (sym rest) (first_from c.self.inside.kept c.in-Whole.start c.in-Whole.end next.0 next.1)))

pub returns-in-Open-clause-leads_on : goal.returns-in-Open-clause-leads_on
returns-in-Open-clause-leads_on c =
    let next = rw c.in-Open.is at c.in_ok-next.ensures.next in
    let rest = c.consume-in-Open.ensures ∙ ap (drop c.in-Open.place) c.in_ok-next.ensures.same in
    subst (λ (t : List ℕ). LeadsOn t [] c.consume-in-Open.new.self) c.self.view_is
    (subst (LeadsOn c.self.inside.kept []) (sym rest) (leads_on_passed c.self.inside.kept [] 0 c.in-Open.place (leads_on_start c.self.inside.kept) next.0))
