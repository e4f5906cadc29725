use Rattle.gu_session.proofs.Words.{◌≡◌, ◌+◌, ◌-◌, ◌/◌, ℕ, Some, None, suc, take, slice_get, sym, ap, ◌∙◌, subst, arith, option_copied, AreBelow}
use Rattle.gu_session.proofs.Places.{below-take, from-drop-at, from-drop-none}
use Rattle.gu_session.proofs.sent_ring.SentRing.place_of.Goals as goal

pub loop-low-preserved-then-get-number : goal.loop-low-preserved-then-get-number
loop-low-preserved-then-get-number c =
    let so_far = c.loop-low.invariant in
    let middle : ℕ = c.loop-low.low + (c.loop-low.high - c.loop-low.low) / 2 in
    let here : slice_get c.args.self.now.items middle ≡ Some c.in-Some.sent.now = sym c.get.ensures ∙ ap option_copied c.in-Some.is in
    let next : suc middle ≡ middle + 1 = omega arith in
    record {
      ordered = omega (arith, c.loop-low-test.true);
      within = so_far.within;
      below = subst (λ (n : ℕ). AreBelow c.args.number (take n c.args.self.now.items)) next
          (below-take c.args.number 1 c.requires.to c.args.self.now.items middle c.in-Some.sent.now c.requires.within here (omega arith));
      above = so_far.above;
    }

pub loop-low-preserved-in_default : goal.loop-low-preserved-in_default
loop-low-preserved-in_default c =
    let so_far = c.loop-low.invariant in
    let middle : ℕ = c.loop-low.low + (c.loop-low.high - c.loop-low.low) / 2 in
    let here : slice_get c.args.self.now.items middle ≡ Some c.in-Some.sent.now = sym c.get.ensures ∙ ap option_copied c.in-Some.is in
    record {
      ordered = omega arith;
      within = omega (arith, so_far.within, c.loop-low-test.true);
      below = so_far.below;
      above = from-drop-at c.args.number 1 c.requires.to c.args.self.now.items middle c.in-Some.sent.now c.requires.within here (omega arith);
    }

pub loop-low-preserved : goal.loop-low-preserved
loop-low-preserved c =
    let so_far = c.loop-low.invariant in
    let middle : ℕ = c.loop-low.low + (c.loop-low.high - c.loop-low.low) / 2 in
    let none : slice_get c.args.self.now.items middle ≡ None = sym c.get.ensures ∙ ap option_copied c.in_default.is in
    record {
      ordered = omega arith;
      within = omega (arith, so_far.within, c.loop-low-test.true);
      below = so_far.below;
      above = from-drop-none c.args.number c.args.self.now.items middle none;
    }
