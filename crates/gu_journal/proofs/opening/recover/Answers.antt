use Rattle.std.proofs.Common.{◌≡◌, List, ℕ, inl, inr, sym, subst, arith, length, replicate}
use Rattle.gu_journal.specs.Crashes.{Only}
use Rattle.gu_journal.specs.Device.{Mixes, written}
use Rattle.gu_journal.specs.Log.{IsSettled, LeavesText}
use Rattle.gu_journal.proofs.Moments.{then_too, weaker}
use Rattle.gu_journal.proofs.Blanking.{finds_still, recovered_kept, recovered_settled}
use Rattle.gu_journal.proofs.opening.recover.Goals as goal

pub returns-in_err-blank-clause-any_moment : goal.returns-in_err-blank-clause-any_moment
returns-in_err-blank-clause-any_moment g c honest =
    let d = c.args.device.now in
    let file = g.D.Device.seen d in
    let P = LeavesText file (g.D.Device.may_leave d) in
    let was = c.blank.ensures.before honest in
    let seen = c.in_ok-bytes.ensures.seen was in
    let at_start = weaker g.D.Device.moment g.D.Device.left_since _ _ (g.D.Device.may_leave d) P (c.settled_bytes.ensures.any_moment was) (λ f left. inl left) in
    let only = subst (λ (f : List ℕ). Only f (g.D.Device.may_leave c.settled_bytes.new.device)) (sym seen) (c.in_ok-bytes.ensures.durable was) in
    let still = finds_still file c.in_ok-bytes.bytes.items c.in-Some.found.text.items c.len.result c.in-Some.found.torn c.in-Some.found.len
    (c.in_ok-bytes.ensures.bytes was) (sym c.in-Some.ensures.text) (omega arith) c.in-Some.ensures.torn in
    let run = c.blank.ensures.any_moment honest in
    then_too g.D.Device.moment g.D.Device.left_since _ _ _ P at_start
    (weaker g.D.Device.moment g.D.Device.left_since _ _ (Mixes c.len.result (replicate c.in-Some.found.torn 0) (g.D.Device.seen c.settled_bytes.new.device)) P run
    (λ f mix. inr (still f (subst (λ (olds : List ℕ). Mixes c.len.result (replicate c.in-Some.found.torn 0) olds f) seen mix))))

pub returns-clause-kept : goal.returns-clause-kept
returns-clause-kept g c honest =
    let file = g.D.Device.seen c.args.device.now in
    let was = c.blank.ensures.before honest in
    let seen = c.in_ok-bytes.ensures.seen was in
    recovered_kept file c.in_ok-bytes.bytes.items c.in-Some.found.text.items c.len.result c.in-Some.found.torn c.in-Some.found.len
    (c.in_ok-bytes.ensures.bytes was) (sym c.in-Some.ensures.text) (omega arith) c.in-Some.ensures.torn _
    (subst (λ (f : List ℕ). g.D.Device.seen c.blank.new.device ≡ written c.len.result (replicate c.in-Some.found.torn 0) f) seen (c.in_ok-blank.ensures.written honest))

pub returns-clause-settled : goal.returns-clause-settled
returns-clause-settled g c honest =
    let file = g.D.Device.seen c.args.device.now in
    let was = c.blank.ensures.before honest in
    let seen = c.in_ok-bytes.ensures.seen was in
    let len_is : length c.in_ok-bytes.bytes.items ≡ c.in-Some.found.len = omega (arith, c.in_ok-bytes.bytes.ok, c.in-Some.ensures.len) in
    let settled = recovered_settled file c.in_ok-bytes.bytes.items c.in-Some.found.text.items c.len.result c.in-Some.found.torn c.in-Some.found.len
    (c.in_ok-bytes.ensures.bytes was) (sym c.in-Some.ensures.text) (omega arith) c.in-Some.ensures.torn (g.D.Device.seen c.blank.new.device)
    (subst (λ (f : List ℕ). g.D.Device.seen c.blank.new.device ≡ written c.len.result (replicate c.in-Some.found.torn 0) f) seen (c.in_ok-blank.ensures.written honest))
    (g.D.Device.may_leave c.blank.new.device) len_is (c.in_ok-blank.ensures.durable honest) in
    subst (λ (n : ℕ). IsSettled (g.D.Device.seen c.blank.new.device) (g.D.Device.may_leave c.blank.new.device) n c.in-Some.found.len) c.len.ensures settled

pub returns-clause-any_moment : goal.returns-clause-any_moment
returns-clause-any_moment g c honest =
    let d = c.args.device.now in
    let file = g.D.Device.seen d in
    let P = LeavesText file (g.D.Device.may_leave d) in
    let was = c.blank.ensures.before honest in
    let seen = c.in_ok-bytes.ensures.seen was in
    let at_start = weaker g.D.Device.moment g.D.Device.left_since _ _ (g.D.Device.may_leave d) P (c.settled_bytes.ensures.any_moment was) (λ f left. inl left) in
    let only = subst (λ (f : List ℕ). Only f (g.D.Device.may_leave c.settled_bytes.new.device)) (sym seen) (c.in_ok-bytes.ensures.durable was) in
    let still = finds_still file c.in_ok-bytes.bytes.items c.in-Some.found.text.items c.len.result c.in-Some.found.torn c.in-Some.found.len
    (c.in_ok-bytes.ensures.bytes was) (sym c.in-Some.ensures.text) (omega arith) c.in-Some.ensures.torn in
    let run = c.blank.ensures.any_moment honest in
    then_too g.D.Device.moment g.D.Device.left_since _ _ _ P at_start
    (weaker g.D.Device.moment g.D.Device.left_since _ _ (Mixes c.len.result (replicate c.in-Some.found.torn 0) (g.D.Device.seen c.settled_bytes.new.device)) P run
    (λ f mix. inr (still f (subst (λ (olds : List ℕ). Mixes c.len.result (replicate c.in-Some.found.torn 0) olds f) seen mix))))
