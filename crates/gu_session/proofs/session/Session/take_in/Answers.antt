use Rattle.gu_session.proofs.Words.{Ok, ap, sym, subst, ◌∙◌, FollowsOnto, Course, SessionState}
use Rattle.gu_session.specs.Following.{IsInTurn}
use Rattle.gu_session.proofs.InTurn.{give_up_in_turn, report_in_turn}
use Rattle.gu_session.proofs.session.Session.take_in.Goals as goal

pub returns-in_ok-hand_out-in-Ok-TradeCaptureReport-clause-done : goal.returns-in_ok-hand_out-in-Ok-TradeCaptureReport-clause-done
returns-in_ok-hand_out-in-Ok-TradeCaptureReport-clause-done c =
    let s = c.args.self.now in
    let text = c.args.output.now.items in
    let it = c.in-Ok-TradeCaptureReport in
    let is = subst (λ (s : SessionState). IsInTurn s.at c.args.heard.heading c.in-Some.number) c.self.view_is c.in-Some.ensures in
    subst (λ (course : Course). FollowsOnto s course c.args.now text text c.in_ok-hand_out-in-Ok-TradeCaptureReport.field-0 c.hand_out.new.self)
    (sym (report_in_turn s.firms s.at c.args.heard it.m c.in-Some.number c.args.now is (it.is ∙ ap Ok it.field-0-is)))
    (c.in_ok-hand_out-in-Ok-TradeCaptureReport.ensures.done text)

pub returns-in_ok-hand_out-in-Ok-AllocationInstruction-clause-done : goal.returns-in_ok-hand_out-in-Ok-AllocationInstruction-clause-done
returns-in_ok-hand_out-in-Ok-AllocationInstruction-clause-done c =
    let s = c.args.self.now in
    let text = c.args.output.now.items in
    let it = c.in-Ok-AllocationInstruction in
    let is = subst (λ (s : SessionState). IsInTurn s.at c.args.heard.heading c.in-Some.number) c.self.view_is c.in-Some.ensures in
    subst (λ (course : Course). FollowsOnto s course c.args.now text text c.in_ok-hand_out-in-Ok-AllocationInstruction.field-0 c.hand_out-in-Ok-AllocationInstruction.new.self)
    (sym (give_up_in_turn s.firms s.at c.args.heard it.m c.in-Some.number c.args.now is (it.is ∙ ap Ok it.field-0-is)))
    (c.in_ok-hand_out-in-Ok-AllocationInstruction.ensures.done text)
