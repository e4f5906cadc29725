use Rattle.gu_flow.proofs.Words.{◌≡◌, ◌≢◌, ℕ, ◌<◌, ◌∙◌, set, ap, sym, refl, arith, length, get_or, get_or-set_same, get_or-set_other, length-set, get_or_default, arc_at}
use Rattle.gu_flow.proofs.Borders.{most_apart}
use Rattle.gu_flow.proofs.Measuring.{measured}
use Rattle.gu_flow.proofs.Raising.{head_of, level, raise_begins, raised_most, raises, tail_of}
use Rattle.gu_flow.proofs.oldest.raise_arc.Goals as goal

pub rounds-init : goal.rounds-init
rounds-init c =
    let net = c.args.net.now in
    let a = c.args.allotment.now in
    let place = c.args.place in
    let flows = c.index.ensures ∙ get_or_default a.flow.items place c.index.result.now 0 (omega (arith, c.requires.allotment.is_flow.within.all, c.requires.place.0)) in
    let inside : place < length a.floors.items = omega (arith, c.requires.allotment.floors, c.requires.place.0) in
    let e = c.measure.ensures in
    let raised : (k : ℕ) → k ≢ place → get_or (set a.floors.items place c.min.result) k 0 ≡ get_or a.floors.items k 0 = λ k other. get_or-set_other a.floors.items place k c.min.result 0 other in
    let floors : (k : ℕ) → get_or c.measure.new.self.floors.items k 0 ≡ get_or (set a.floors.items place c.min.result) k 0 = λ k. ap (λ f. get_or f.items k 0) e.same.1 in
    record {
      raising = raise_begins net.arcs.items (length net.first.items) place c.args.goal net.is_network.joins (omega (arith, net.is_network.ends)) a c.measure.new.self c.requires.allotment c.requires.place.1 e.same.0 e.same.2
          (measured net.arcs.items a _ c.measure.new.self place c.requires.allotment.rooms (λ k other. refl) raised refl e.here e.others e.size)
          (ap (λ f. length f.items) e.same.1 ∙ length-set a.floors.items place c.min.result) (floors place ∙ get_or-set_same a.floors.items place c.min.result 0 inside ∙ omega (arith, c.min.ensures, flows)) (λ k other. floors k ∙ raised k other);
      ready = c.requires.ready;
    }

pub rounds-preserved : goal.rounds-preserved
rounds-preserved c =
    let net = c.args.net.now in
    let place = c.args.place in
    let l = c.rounds.allotment in
    let r = c.rounds.invariant.raising in
    let e = c.go_round.ensures in
    let less : get_or l.floors.items place 0 < c.args.goal = omega (arith, c.rounds-test.true, c.index-in-rounds.ensures, get_or_default l.floors.items place c.index-in-rounds.result.now 0 (omega (arith, r.is.floors, c.requires.place.0))) in
    record {
      raising = raises net.arcs.items (length net.first.items) place c.args.goal c.args.allotment.now.flow.items c.args.allotment.now.floors.items l c.go_round.new.allotment r less e.allotment e.value e.here e.within e.rises e.others;
      ready = e.ready;
    }

pub returns-then-not-go_round-clause-others : goal.returns-then-not-go_round-clause-others
returns-then-not-go_round-clause-others c = λ k other. c.go_round.ensures.others k other ∙ c.rounds.invariant.raising.others k other

pub returns-then-not-go_round-clause-most : goal.returns-then-not-go_round-clause-most
returns-then-not-go_round-clause-most c =
    let net = c.args.net.now in
    let place = c.args.place in
    let l = c.rounds.allotment in
    let r = c.rounds.invariant.raising in
    let e = c.go_round.ensures in
    let less : get_or l.floors.items place 0 < c.args.goal = omega (arith, c.rounds-test.true, c.index-in-rounds.ensures, get_or_default l.floors.items place c.index-in-rounds.result.now 0 (omega (arith, r.is.floors, c.requires.place.0))) in
    let now = raises net.arcs.items (length net.first.items) place c.args.goal c.args.allotment.now.flow.items c.args.allotment.now.floors.items l c.go_round.new.allotment r less e.allotment e.value e.here e.within e.rises e.others in
    raised_most net.arcs.items (length net.first.items) c.args.allotment.now.flow.items c.args.allotment.now.floors.items c.go_round.new.allotment place c.args.goal now e.here (e.most c.if-not-go_round.true)

pub returns-else-index-clause-most : goal.returns-else-index-clause-most
returns-else-index-clause-most c =
    let net = c.args.net.now in
    let arcs = net.arcs.items in
    let place = c.args.place in
    let l = c.rounds.allotment in
    let regions = l.regions.items in
    let r = c.rounds.invariant.raising in
    let less : get_or l.floors.items place 0 < c.args.goal = omega (arith, c.rounds-test.true, c.index-in-rounds.ensures, get_or_default l.floors.items place c.index-in-rounds.result.now 0 (omega (arith, r.is.floors, c.requires.place.0))) in
    let here = level arcs (length net.first.items) place c.args.goal c.args.allotment.now.flow.items c.args.allotment.now.floors.items l l r less in
    let tail : c.index-in-rounds-2.result.now ≡ get_or regions (arc_at arcs place).from 0 =
    c.index-in-rounds-2.ensures ∙ get_or_default regions c.near-tail.result c.index-in-rounds-2.result.now 0 (omega (arith, r.is.regions, c.near-tail.ensures.within)) ∙ ap (λ n. get_or regions n 0) (c.near-tail.ensures.is ∙ tail_of arcs place) in
    let head : c.index-in-rounds-3.result.now ≡ get_or regions (arc_at arcs place).to 0 =
    c.index-in-rounds-3.ensures ∙ get_or_default regions c.far-head.result c.index-in-rounds-3.result.now 0 (omega (arith, r.is.regions, c.far-head.ensures.within)) ∙ ap (λ n. get_or regions n 0) (c.far-head.ensures.is ∙ head_of arcs place) in
    raised_most arcs (length net.first.items) c.args.allotment.now.flow.items c.args.allotment.now.floors.items l place c.args.goal r here
    (most_apart arcs (length net.first.items) net.is_network.joins (omega (arith, net.is_network.ends)) l.floors.items l.flow.items regions r.is.is_flow r.is.fixed place c.requires.place.0 here (λ same. c.if-index.false (tail ∙ same ∙ sym head)))
