use Rattle.gu_msgs.proofs.Words.{◌∙◌, ap, arith, inl, inr, sym, body_rows, header_rows, Fault, ResendRequest}
use Rattle.gu_msgs.proofs.OutlineLemmas.{of_type, sound_values}
use Rattle.gu_msgs.proofs.session_messages.read_resend_request.Goals as goal

pub returns-then-ends_right : goal.returns-then-ends_right
unfolding header_rows body_rows
returns-then-ends_right c =
    let request = c.in_ok-request.ensures.0 in (
      of_type ResendRequest c.args.outline.now c.requires.shaped c.in_ok-request.ensures.1 (elim (c.ends_right.ensures.0 c.if-ends_right.true) [
        | inl all ↦ inl (sym request.last ∙ all)
        | inr later ↦ inr (omega (arith, request.begin, request.last, later))
      ]),
      request,
    )

pub returns-else-ends_right : goal.returns-else-ends_right
unfolding header_rows body_rows
returns-else-ends_right c =
    let request = c.in_ok-request.ensures.0 in
    inr (inr (record {
      shape = c.requires.shaped.shape;
      values = sound_values ResendRequest c.args.outline.now c.requires.shaped c.in_ok-request.ensures.1;
      disagrees = (
        ap (λ (f : Fault). f.tag) c.fault_at.ensures,
        λ ends.
            (let right = c.ends_right.ensures.1 (elim ends [
              | inl all ↦ inl (request.last ∙ all)
              | inr later ↦ inr (omega (arith, request.begin, request.last, later))
            ]) in
            let wrong = c.if-ends_right.false in cc),
      );
      reason = ap (λ (f : Fault). f.reason) c.fault_at.ensures;
    }))
