use Rattle.gu_flow.proofs.Words.{◌≡◌, ◌<◌, ◌∙◌, false, ap, sym, subst, arith, get_or_default, Mark, Search, near, far, other_end, room_inside, no_mark, level_at, mark_at}
use Rattle.gu_flow.proofs.RoundPushing.{keeps_on, leads_on, LeadsOn}
use Rattle.gu_flow.proofs.rounds.TwoWay.lead_on.Goals as goal

pub reach-requires-clause-end : goal.reach-requires-clause-end
reach-requires-clause-end c =
    let arcs = c.args.net.now.arcs.items in
    let back = c.args.self.now.back in
    let l = c.loop-node in
    let i = l.invariant in
    let same : l.self.back ≡ back = i.same in
    let mark : c.index.result.now ≡ mark_at back.marks.items l.node = c.index.ensures ∙ get_or_default l.self.back.marks.items l.node c.index.result.now no_mark (omega (arith, i.are.back.marks, i.within)) ∙ ap (λ (s : Search). mark_at s.marks.items l.node) same in
    let on : LeadsOn arcs c.args.allotment.now back.marks.items l.node (mark_at back.marks.items l.node).via =
    leads_on arcs c.args.allotment.now back l.node c.requires.under_way.back.tree c.requires.under_way.are.against (λ is. c.loop-node-test.true (is ∙ sym (ap (λ (s : Search). s.from) same))) i.behind in
    let end : c.other_end.result ≡ other_end (mark_at back.marks.items l.node).via = c.other_end.ensures ∙ ap (λ (m : Mark). other_end m.via) mark in
    rw end (on.end_in, subst (λ n. 0 < level_at l.self.ahead.marks.items n) (sym on.here) i.reached)

pub loop-node-preserved : goal.loop-node-preserved
loop-node-preserved c =
    let arcs = c.args.net.now.arcs.items in
    let a = c.args.allotment.now in
    let back = c.args.self.now.back in
    let l = c.loop-node in
    let i = l.invariant in
    let e = c.reach.ensures in
    let same : l.self.back ≡ back = i.same in
    let mark : c.index.result.now ≡ mark_at back.marks.items l.node = c.index.ensures ∙ get_or_default l.self.back.marks.items l.node c.index.result.now no_mark (omega (arith, i.are.back.marks, i.within)) ∙ ap (λ (s : Search). mark_at s.marks.items l.node) same in
    let via = (mark_at back.marks.items l.node).via in
    let on : LeadsOn arcs a back.marks.items l.node (mark_at back.marks.items l.node).via =
    leads_on arcs a back l.node c.requires.under_way.back.tree c.requires.under_way.are.against (λ is. c.loop-node-test.true (is ∙ sym (ap (λ (s : Search). s.from) same))) i.behind in
    let end : c.other_end.result ≡ other_end via = c.other_end.ensures ∙ ap (λ (m : Mark). other_end m.via) mark in
    let next : c.near-node.result ≡ near arcs via = c.near-node.ensures.is ∙ ap (λ (m : Mark). near arcs m.via) mark in
    let some : 0 < room_inside arcs a l.self.ahead.back c.other_end.result = subst (λ b. 0 < room_inside arcs a b c.other_end.result) (sym i.are.along) (subst (λ k. 0 < room_inside arcs a false k) (sym end) on.some) in
    record {
      are = record { ahead = e.places; back = i.are.back; along = e.keeps.back ∙ i.are.along; against = i.are.against };
      tree = e.tree;
      waits = e.waits;
      keeps = keeps_on c.args.self.now.ahead l.self.ahead c.reach.new.self i.keeps e.keeps;
      same = i.same;
      within = c.near-node.ensures.within;
      reached = subst (λ n. 0 < level_at c.reach.new.self.marks.items n) (ap (far arcs) end ∙ on.next ∙ sym next) (e.reached some);
      behind = subst (λ n. 0 < level_at back.marks.items n) (sym next) on.before;
    }
