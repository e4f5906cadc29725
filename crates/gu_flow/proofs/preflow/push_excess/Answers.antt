use Rattle.gu_flow.proofs.Words.{◌≢◌, ◌≤◌, arith, get_or, near, far}
use Rattle.gu_flow.proofs.PreflowLemmas.{pushed_fits, pushed_preflow}
use Rattle.gu_flow.proofs.preflow.push_excess.Goals as goal

pub credit-requires-clause-fits : goal.credit-requires-clause-fits
credit-requires-clause-fits c = λ inner.
    let arcs = c.args.net.now.arcs.items in
    let excess = c.args.excess.now in
    let lots = c.min-lots.result in
    let inner = rw c.far.ensures.is at inner in
    let debit = rw (c.near-from.ensures.is) at c.debit.ensures in
    let not_source : far arcs c.args.end ≢ 0 = λ none. absurd (omega (arith, inner, none)) in
    let not_sink : far arcs c.args.end ≢ 1 = λ one. absurd (omega (arith, inner, one)) in
    let has : lots ≤ get_or excess (near arcs c.args.end) 0 = rw (← c.near-from.ensures.is) (omega (arith, c.min-lots.ensures)) in
    rw (c.far.ensures.is, debit (far arcs c.args.end) not_source) (pushed_fits arcs c.args.flow.now c.push.new.flow excess c.args.end lots c.requires.preflow has c.push.ensures c.args.net.now.is_network.fits not_source not_sink)

pub returns-clause-preflow : goal.returns-clause-preflow
returns-clause-preflow c =
    let arcs = c.args.net.now.arcs.items in
    let has : c.min-lots.result ≤ get_or c.args.excess.now (near arcs c.args.end) 0 = rw (← c.near-from.ensures.is) (omega (arith, c.min-lots.ensures)) in
    pushed_preflow arcs c.args.flow.now c.push.new.flow c.args.excess.now c.args.end c.min-lots.result c.requires.preflow has c.push.ensures c.debit.new.excess c.credit.new.excess
    (rw c.near-from.ensures.is at c.debit.ensures) (rw c.far.ensures.is at c.credit.ensures.more) c.credit.ensures.sink
