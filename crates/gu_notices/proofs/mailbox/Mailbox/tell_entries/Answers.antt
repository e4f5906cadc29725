use Rattle.gu_notices.proofs.Words.{◌≡◌, ◌∙◌, ◌-◌, ◌+◌, ◌<◌, ◌≤◌, Some, ap, arith, drop, length, subst, sym, take, slice_get, Entry, told_by, told_from, has_place, place_of, register_in, told_at_places}
use Rattle.gu_notices.specs.declared.mailbox.Mailbox.{Mailbox}
use Rattle.gu_notices.proofs.NoticeLemmas.{IsToldSoFar, told-so-far, told-skipped, told-then, told_at, told-nothing}
use Rattle.gu_notices.proofs.RecipientLemmas.{few_sides, held-out, nobody-told}
use Rattle.gu_notices.proofs.mailbox.Mailbox.tell_entries.Goals as goal
use Rattle.gu_notices.proofs.mailbox.Mailbox.tell_entries.Goals.{then-may_tell+in_ok-tell_entry, else-may_tell}

pub loop-place-init : goal.loop-place-init
loop-place-init c = record {
  start = omega arith;
  told = told-nothing c.args.self.now (register_in c.args.register.now) c.args.span.start c.args.log.now.history.now;
  before = λ went. absurd (omega (arith, went));
}

pub loop-place-preserved : goal.loop-place-preserved
loop-place-preserved c =
    let register = register_in c.args.register.now in
    let start = c.args.span.start in
    let history = c.args.log.now.history.now in
    let recipients = c.args.log.now.recipients.now in
    let place = c.loop-place.place in
    let box = c.loop-place.self in
    let within : place < length history = omega (arith, c.loop-place-test.true, c.loop-place.auto.place, c.requires.inside) in
    let step : (entry : Entry) × (slice_get history place ≡ Some entry) × IsToldSoFar box c.if-may_tell.self (told_by register (place + 1) entry) =
    elim c.if-may_tell.branch [
      | then-may_tell+in_ok-tell_entry w ↦ (
        w.show-entry.result,
        w.show-entry.ensures,
        subst (λ (b : Mailbox). IsToldSoFar box b (told_by register (place + 1) w.show-entry.result)) (sym w.self-is)
            (record { firm = w.in_ok-tell_entry.ensures.firm; list = w.in_ok-tell_entry.ensures.list }),
      )
      | else-may_tell w ↦
          let own : c.of-own.result.number ≡ place_of box.firm = c.of-own.ensures ∙ ap place_of (sym c.loop-place.invariant.told.firm) in
          let out = held-out (slice_get recipients place) c.of-own.result.number (sym c.may_tell.ensures ∙ w.if-may_tell.false) in
          let without = ap (has_place out.0) (sym own) ∙ out.2 in
          let nobody = nobody-told register history recipients place out.0 box.firm c.requires.recipients (λ id. few_sides _ (c.rules.ensures.sound.sides id)) out.1 without within in (
            nobody.0,
            nobody.1,
            subst (λ (b : Mailbox). IsToldSoFar box b (told_by register (place + 1) nobody.0)) (sym w.self-is) (told-skipped box (told_by register (place + 1) nobody.0) nobody.2),
          )
    ] in
    let before = told_from register (start + 1) (take (place - start) (drop start history)) in
    let told = told-then c.args.self.now box c.if-may_tell.self _ before (told_by register (place + 1) step.0) c.loop-place.invariant.told step.2 in
    let list = told-so-far c.args.self.now box before c.requires.empty c.loop-place.invariant.told in
    let back : place ≡ place + 1 - 1 = omega arith in
    let few : length (told_at_places register history c.args.self.now.firm start place) ≤ c.args.span.most = omega (arith, ap length list, c.len.ensures, c.if-len-span.false) in
    record {
      start = omega (arith, c.loop-place.invariant.start);
      told = subst (IsToldSoFar c.args.self.now c.if-may_tell.self) (told_at register start history place step.0 c.loop-place.invariant.start step.1) told;
      before = λ went. subst (λ n. length (told_at_places register history c.args.self.now.firm start n) ≤ c.args.span.most) back few;
    }
