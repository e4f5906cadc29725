use Rattle.gu_flow.proofs.Words.{◌<◌, ◌∙◌, refl, sym, ap, subst, arith, with_items_is, length, value_of}
use Rattle.std.proofs.Common.{rules}
use Rattle.std.specs.Vec.{with_items}
use Rattle.gu_flow.proofs.LeastSides.{Grown, grown_keeps, grown_less, grows, least_side, measured_free}
use Rattle.gu_flow.proofs.maximum.maximize.Goals as goal
use Rattle.gu_flow.proofs.maximum.maximize.Goals.{then-left-nodes+in_ok-surge, else-left-nodes}

-- the flow is greater than before this search
grown : (c : goal.After-measure_all-arg-1) → Grown c.args.net.now.arcs.items c.searches.allotment c.if-left-nodes.allotment
grown c =
    let arcs = c.args.net.now.arcs.items in
    let a = c.searches.allotment in
    let all = c.searches.invariant.free.is_flow.within.all in
    let b = c.block.ensures in
    let blocked = with_items_is a.flow c.block.new.flow (omega (arith, b.flow.within.all, all, a.flow.ok.0)) in
    elim c.if-left-nodes.branch [
      | then-left-nodes+in_ok-surge w ↦
          let e = w.in_ok-surge.ensures in
          subst (Grown arcs a) (sym w.allotment-is)
          (grows arcs a _ w.surge.new.flow (with_items_is (with_items a.flow c.block.new.flow) w.surge.new.flow (omega (arith, e.flow.within.all, all, a.flow.ok.0))) e.flow
          (omega (arith, ap (value_of arcs) c.deref_mut.ensures.value, b.more, ap (value_of arcs) (w.deref_mut-then-left-nodes.ensures.value ∙ blocked), e.value)) refl refl)
      | else-left-nodes w ↦
          subst (Grown arcs a) (sym w.allotment-is) (grows arcs a _ c.block.new.flow blocked b.flow (omega (arith, ap (value_of arcs) c.deref_mut.ensures.value, b.more)) refl refl)
    ]

pub measure_all-requires-clause-within : goal.measure_all-requires-clause-within
measure_all-requires-clause-within c = (grown c).is_flow.within

pub measure_all-requires-clause-keeps : goal.measure_all-requires-clause-keeps
measure_all-requires-clause-keeps c = grown_keeps c.args.net.now.arcs.items (length c.args.net.now.first.items) c.searches.allotment c.if-left-nodes.allotment c.searches.invariant.free (grown c)

pub searches-smaller : goal.searches-smaller
searches-smaller c = grown_less c.args.net.now.arcs.items c.searches.allotment c.if-left-nodes.allotment c.measure_all.new.self (grown c.before) c.measure_all.ensures.same.0

pub searches-preserved : goal.searches-preserved
searches-preserved c =
    let m = c.measure_all.ensures in
    record {
      free = measured_free c.args.net.now.arcs.items (length c.args.net.now.first.items) c.searches.allotment c.if-left-nodes.allotment c.measure_all.new.self c.searches.invariant.free (grown c.before) m.same.0 m.same.1 m.same.2 m.rooms;
      ready = record {
        places = record { marks = c.clear.ensures.same.1 ∙ c.seek.ensures.search.places.marks; queue = c.clear.ensures.same.2 ∙ c.seek.ensures.search.places.queue };
        clear = c.clear.ensures.clear;
        ahead = c.clear.ensures.same.0 ∙ c.seek.ensures.search.ahead;
      };
      current = elim c.if-left-nodes.branch [ then-left-nodes+in_ok-surge w ↦ search rules | else-left-nodes w ↦ search rules ];
      way = elim c.if-left-nodes.branch [ then-left-nodes+in_ok-surge w ↦ search rules | else-left-nodes w ↦ search rules ];
    }

pub returns-clause-least : goal.returns-clause-least
returns-clause-least c =
    let net = c.args.net.now in
    let e = c.searches-test.ensures in
    least_side net.arcs.items (length net.first.items) net.is_network.joins (omega (arith, net.is_network.ends)) c.searches.allotment.flow.items c.seek.new.search c.searches.invariant.free.is_flow e.search (e.out refl) (sym e.found)
