use Rattle.std.proofs.Common.{◌≡◌, ◌≤◌, ◌-◌, ◌++◌, ◌∙◌, ℕ, List, length, drop, refl, sym, ap, arith, append-nil}
use Rattle.gu_talks.proofs.Sending.{count_that_went, first_marks}
use Rattle.gu_talks.proofs.talk.Talk.send_kept.Goals as goal

pub returns : goal.returns
returns g c =
    let old = c.args.self.now in
    let gives = c.in_ok-send_first.ensures.given in
    let kept = c.send_first.new.self.held.bytes.items in
    let same = c.release.ensures.same in
    let went = count_that_went old.backlog.held.bytes.items kept gives.sent gives.parts in
    let count : c.held-before.result - c.held.result ≡ length gives.sent = omega (arith, went, c.held-before.ensures, c.held.ensures) in
    let few : length gives.sent ≤ c.free.result = omega (arith, went, c.in_ok-send_first.ensures.most) in
    record {
      conversation = refl;
      source = refl;
      input = record { bytes = same.input.bytes ∙ c.send_first.ensures.input.bytes; left = same.input.left ∙ c.send_first.ensures.input.left };
      sent = gives.sent;
      appended = gives.appended;
      parts = sym (append-nil old.backlog.held.bytes.items) ∙ gives.parts ∙ ap (λ (t : List ℕ). gives.sent ++ t) (sym same.held);
      marked = omega (arith, few, c.free.ensures.within);
      all_kept = first_marks (λ (mark : ℕ). mark ≤ c.args.kept) old.marks (length gives.sent) c.free.result few c.free.ensures.kept;
      marks = c.pass.ensures ∙ ap (λ (n : ℕ). drop n old.marks) count;
    }
