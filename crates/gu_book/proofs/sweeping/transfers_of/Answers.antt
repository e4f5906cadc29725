use Rattle.gu_book.proofs.Words.{◌+◌, [], List, refl, subst, sym, take, take_all, Take, AreReady}
use Rattle.gu_book.proofs.Moves.{ready-next, same-on, same-self, shown-at}
use Rattle.gu_book.proofs.sweeping.transfers_of.Goals as goal

pub returns-in_err-transfers-clause-same : goal.returns-in_err-transfers-clause-same
returns-in_err-transfers-clause-same c = same-self c.args.totals.now

pub loop-take-init : goal.loop-take-init
loop-take-init c = record {
  ready = λ reference all. subst (AreReady reference c.args.totals.now []) (sym c.in_ok-transfers.ensures.items) (record { each = tt; takes_are = refl });
  same = same-self c.args.totals.now;
}

pub loop-take-preserved-in_default : goal.loop-take-preserved-in_default
loop-take-preserved-in_default c = record {
  ready = λ reference all.
      let open_ = shown-at reference c.args.totals.now c.loop-take.totals c.args.view.now.offers c.args.takes.now c.loop-take.take-index c.loop-take-test.true c.take-item.is c.loop-take.invariant.same all in
      absurd (c.in_default.ensures reference open_);
  same = c.loop-take.invariant.same;
}

pub loop-take-preserved : goal.loop-take-preserved
loop-take-preserved c =
    let i = c.loop-take.take-index in
    let takes = c.args.takes.now in
    let before = c.loop-take.totals in
    let after = c.make_way.new.self in
    let e = c.make_way.ensures in
    let step = c.in_ok-rows.ensures in record {
      ready = λ reference all.
          let open_ = shown-at reference c.args.totals.now before c.args.view.now.offers takes i c.loop-take-test.true c.take-item.is c.loop-take.invariant.same all in
          subst (AreReady reference after (take (i + 1) takes)) (sym c.in_ok-push.ensures.items)
          (ready-next reference before after takes i c.loop-take.transfers.items (record { moved = c.in-Some.moved; rows = c.in_ok-rows.rows }) c.loop-take-test.true c.take-item.is e.same e.stay
          (c.loop-take.invariant.ready reference all) (c.in-Some.ensures reference open_) step.rows);
      same = same-on c.args.totals.now before after c.loop-take.invariant.same e.same;
    }

pub returns-in_err-rows-clause-same : goal.returns-in_err-rows-clause-same
returns-in_err-rows-clause-same c = same-on c.args.totals.now c.loop-take.totals c.make_way.new.self c.loop-take.invariant.same c.make_way.ensures.same

pub returns-in_err-push-clause-same : goal.returns-in_err-push-clause-same
returns-in_err-push-clause-same c = same-on c.args.totals.now c.loop-take.totals c.make_way.new.self c.loop-take.invariant.same c.make_way.ensures.same

pub returns-clause-ready : goal.returns-clause-ready
returns-clause-ready c reference all =
    subst (λ (takes : List Take). AreReady reference c.loop-take.totals takes c.loop-take.transfers.items) (take_all c.loop-take.take-index c.args.takes.now c.loop-take-test.false)
    (c.loop-take.invariant.ready reference all)
