use Rattle.gu_keeping.proofs.Words.{◌≡◌, ◌≤◌, ℕ, length, subst, sym, arith, entries_between, IsLinkOf}
use Rattle.gu_keeping.proofs.DigestLemmas.{link_count, link_next, link_none}
use Rattle.gu_keeping.proofs.checking.chain_to.Goals as goal

pub loop-place-init : goal.loop-place-init
loop-place-init c =
    let history = c.args.history.now in
    let chain = c.args.chain in
    let link = c.in_ok-link.link in
    subst (λ (n : ℕ). IsLinkOf chain (entries_between history chain.count n) link) (sym c.count-place.ensures)
    (link_none history chain link (omega (arith, c.requires.later, c.requires.within)) c.in_ok-link.ensures)

pub add-requires : goal.add-requires
add-requires c =
    let history = c.args.history.now in
    let chain = c.args.chain in
    let place = c.loop-place.place in
    let later : chain.count ≤ place = omega (arith, c.count-place.ensures, c.loop-place.auto.place) in
    let within : place ≤ length history = omega (arith, c.loop-place-test.true, c.requires.within) in
    omega (arith, link_count history chain place c.loop-place.link later within c.loop-place.invariant, c.loop-place-test.true, c.ranges.count)

pub loop-place-preserved : goal.loop-place-preserved
loop-place-preserved c =
    let history = c.args.history.now in
    let chain = c.args.chain in
    let place = c.loop-place.place in
    let later : chain.count ≤ place = omega (arith, c.count-place.ensures, c.loop-place.auto.place) in
    let within : place ≤ length history = omega (arith, c.loop-place-test.true, c.requires.within) in
    link_next history chain place c.in_ok-entry.entry c.loop-place.link c.add.new.self later within c.in_ok-entry.ensures c.loop-place.invariant c.in_ok-add.ensures

pub returns : goal.returns
returns c =
    let history = c.args.history.now in
    let chain = c.args.chain in
    let link = c.loop-place.link in
    let count : c.loop-place.place ≡ c.args.count = omega (arith, c.loop-place-test.false, c.loop-place.auto.place-end, c.count-place.ensures, c.requires.later) in
    c.end.ensures chain (entries_between history chain.count c.args.count)
    (subst (λ (n : ℕ). IsLinkOf chain (entries_between history chain.count n) link) count c.loop-place.invariant)
