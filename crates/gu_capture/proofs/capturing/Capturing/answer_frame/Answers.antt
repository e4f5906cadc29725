use Rattle.std.proofs.Common.{◌≡◌, ◌++◌, ◌∙◌, [], ℕ, List, OnOk, inr, Some, ap, subst, sym, append-nil}
use Rattle.gu_capture.specs.Capture.{AnswersFrame, Capture, PassesOver}
use Rattle.gu_capture.proofs.Capturings.{acknowledged, passes_faulty, passes_unsaid, passes_unsent, said, unsaid}
use Rattle.gu_capture.proofs.capturing.Capturing.answer_frame.Goals as goal

-- what is passed over is answered by nothing
passed : (old same : Capture) (frame output : List ℕ) → same ≡ old → PassesOver same frame [] same → (text : List ℕ) × (output ≡ output ++ text) × AnswersFrame old frame text same
passed old same frame output is over = ([], sym (append-nil output), inr (subst (λ (s : Capture). PassesOver s frame [] same) is over))

pub returns-then-is_some : goal.returns-then-is_some
returns-then-is_some c = passed c.args.self.now _ c.args.frame c.args.output.now.items c.self.view_is (passes_faulty _ c.args.frame _ _ c.in_ok-fault.ensures.fields (sym c.if-is_some.ensures))

pub returns-in_default : goal.returns-in_default
returns-in_default c =
    let found = c.report_in.ensures _ c.in_ok-content.ensures.content in
    passed c.args.self.now _ c.args.frame c.args.output.now.items c.self.view_is (passes_unsaid _ c.args.frame _ _ c.in_ok-fault.ensures.fields (unsaid _ c.report_in.result found c.in_default.is))

pub returns : goal.returns
returns c =
    let sent = c.sender_in.ensures _ c.in_ok-content.ensures.header in
    passed c.args.self.now _ c.args.frame c.args.output.now.items c.self.view_is (passes_unsent _ c.args.frame _ _ c.in_ok-fault.ensures.fields (rw c.in-None.is at sent))

pub returns-in-Some-sender_in : goal.returns-in-Some-sender_in
returns-in-Some-sender_in c =
    let found = c.report_in.ensures _ c.in_ok-content.ensures.content in
    let sent = c.sender_in.ensures _ c.in_ok-content.ensures.header in
    let before = c.args.output.now.items in
    let behind = c.acknowledge.new.output.items in
    let new = c.acknowledge.new.self in
    let same : Capture = record { book = c.self.inside.book; sending_time = c.self.inside.sending_time; next = c.self.inside.next } in
    let is : same ≡ c.args.self.now = c.self.view_is in
    let answered = acknowledged c.acknowledge.result same new c.args.frame _ _ c.in-Some-sender_in.firm c.get.result.now before behind
    c.in_ok-fault.ensures.fields (sym c.if-is_some.ensures) (said _ c.report_in.result c.get.result.now found (c.in-Some.is ∙ ap Some (sym c.get.ensures))) (rw c.in-Some-sender_in.is at sent) c.acknowledge.ensures.text c.acknowledge.ensures.after in
    subst (λ (s : Capture). OnOk c.acknowledge.result ((text : List ℕ) × (behind ≡ before ++ text) × AnswersFrame s c.args.frame text new)) is answered
