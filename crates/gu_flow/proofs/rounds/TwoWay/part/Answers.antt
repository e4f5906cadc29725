use Rattle.gu_flow.proofs.Words.{◌≤◌, true, false, not, nat_lt, ◌∙◌, ap, sym, subst, arith, length, inl, inr, room_inside, IsShut, level_at, is_reached}
use Rattle.gu_flow.proofs.Looking.{search_done}
use Rattle.gu_flow.proofs.Raising.{closed_ahead, closed_back, not_same, parts, parts_most, set_apart_agrees}
use Rattle.gu_flow.proofs.rounds.TwoWay.part.Goals as goal

pub returns-then-self-clause-allotment : goal.returns-then-self-clause-allotment
returns-then-self-clause-allotment c =
    let net = c.args.net.now in
    let arcs = net.arcs.items in
    let a = c.args.allotment.now in
    let now = c.set_apart.new.self in
    let e = c.set_apart.ensures in
    let s = c.args.self.now.ahead in
    let marks = s.marks.items in
    let w = c.requires.under_way in
    let out : s.count ≤ s.done = c.if-self.true in
    let shut : IsShut arcs (room_inside arcs a false) (is_reached marks) = subst (λ b. IsShut arcs (room_inside arcs a b) (is_reached marks)) w.are.along (search_done arcs (room_inside arcs a s.back) s w.ahead out) in
    let closed = closed_ahead arcs a (is_reached marks) shut in
    parts arcs (length net.first.items) net.is_network.joins (omega (arith, net.is_network.ends)) a now c.requires.allotment c.args.place (is_reached marks) closed e.same.0 e.same.1 e.same.2 e.size (set_apart_agrees marks a.regions.items now.regions.items c.args.region e.inside e.outside)

pub returns-then-self-clause-most : goal.returns-then-self-clause-most
returns-then-self-clause-most c =
    let net = c.args.net.now in
    let arcs = net.arcs.items in
    let a = c.args.allotment.now in
    let now = c.set_apart.new.self in
    let e = c.set_apart.ensures in
    let s = c.args.self.now.ahead in
    let marks = s.marks.items in
    let w = c.requires.under_way in
    let out : s.count ≤ s.done = c.if-self.true in
    let shut : IsShut arcs (room_inside arcs a false) (is_reached marks) = subst (λ b. IsShut arcs (room_inside arcs a b) (is_reached marks)) w.are.along (search_done arcs (room_inside arcs a s.back) s w.ahead out) in
    let closed = closed_ahead arcs a (is_reached marks) shut in
    parts_most arcs (length net.first.items) net.is_network.joins (omega (arith, net.is_network.ends)) a now c.requires.allotment c.args.place (is_reached marks) closed e.same.0 e.same.1 c.requires.place.0 c.requires.place.1
    (ap (nat_lt 0) (ap (level_at marks) (sym c.requires.ends.1) ∙ c.requires.apart.0))
    (ap (nat_lt 0) (ap (level_at marks) (sym c.requires.ends.0) ∙ w.ahead.tree.begun))

pub returns-else-self-clause-allotment : goal.returns-else-self-clause-allotment
returns-else-self-clause-allotment c =
    let net = c.args.net.now in
    let arcs = net.arcs.items in
    let a = c.args.allotment.now in
    let now = c.set_apart-else-self.new.self in
    let e = c.set_apart-else-self.ensures in
    let s = c.args.self.now.back in
    let marks = s.marks.items in
    let w = c.requires.under_way in
    let out : s.count ≤ s.done = elim c.requires.out [ inl it ↦ absurd (omega (arith, it, c.if-self.false)) | inr other ↦ other ] in
    let shut : IsShut arcs (room_inside arcs a true) (is_reached marks) = subst (λ b. IsShut arcs (room_inside arcs a b) (is_reached marks)) w.are.against (search_done arcs (room_inside arcs a s.back) s w.back out) in
    let closed = closed_back arcs a (is_reached marks) shut in
    parts arcs (length net.first.items) net.is_network.joins (omega (arith, net.is_network.ends)) a now c.requires.allotment c.args.place (λ n. not (is_reached marks n)) closed e.same.0 e.same.1 e.same.2 e.size (λ n m same. set_apart_agrees marks a.regions.items now.regions.items c.args.region e.inside e.outside n m (not_same (is_reached marks n) (is_reached marks m) same))

pub returns-else-self-clause-most : goal.returns-else-self-clause-most
returns-else-self-clause-most c =
    let net = c.args.net.now in
    let arcs = net.arcs.items in
    let a = c.args.allotment.now in
    let now = c.set_apart-else-self.new.self in
    let e = c.set_apart-else-self.ensures in
    let s = c.args.self.now.back in
    let marks = s.marks.items in
    let w = c.requires.under_way in
    let out : s.count ≤ s.done = elim c.requires.out [ inl it ↦ absurd (omega (arith, it, c.if-self.false)) | inr other ↦ other ] in
    let shut : IsShut arcs (room_inside arcs a true) (is_reached marks) = subst (λ b. IsShut arcs (room_inside arcs a b) (is_reached marks)) w.are.against (search_done arcs (room_inside arcs a s.back) s w.back out) in
    let closed = closed_back arcs a (is_reached marks) shut in
    parts_most arcs (length net.first.items) net.is_network.joins (omega (arith, net.is_network.ends)) a now c.requires.allotment c.args.place (λ n. not (is_reached marks n)) closed e.same.0 e.same.1 c.requires.place.0 c.requires.place.1
    (ap (λ n. not (nat_lt 0 n)) (ap (level_at marks) (sym c.requires.ends.1) ∙ w.back.tree.begun))
    (ap (λ n. not (nat_lt 0 n)) (ap (level_at marks) (sym c.requires.ends.0) ∙ c.requires.apart.1))
