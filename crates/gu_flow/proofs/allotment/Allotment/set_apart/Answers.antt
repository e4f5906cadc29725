use Rattle.gu_flow.proofs.Words.{◌≡◌, ◌<◌, ◌∙◌, ap, sym, inl, inr, arith, length, get_or, get_or-set_same, get_or-set_other, nat_lt, set, length-set, cases_eq, get_or_default, count_by-le-length, Mark}
use Rattle.gu_flow.proofs.allotment.Allotment.set_apart.Goals as goal

pub index_mut-requires : goal.index_mut-requires
index_mut-requires c =
    let s = c.args.search.now in
    let place = c.loop-place.place in
    let few = count_by-le-length (λ (m : Mark). nat_lt 0 m.level) s.marks.items in
    let at = c.index.ensures ∙ get_or_default s.queue.items place c.index.result.now 0 (omega (arith, few, c.requires.waits.counted, c.requires.places.0, c.requires.places.1, c.loop-place-test.true)) in
    omega (arith, at, (c.requires.waits.reached place c.loop-place-test.true).0, c.requires.places.0, c.loop-place.invariant.size)

pub loop-place-preserved : goal.loop-place-preserved
loop-place-preserved c =
    let s = c.args.search.now in
    let i = c.loop-place.invariant in
    let place = c.loop-place.place in
    let regions = c.loop-place.self.regions.items in
    let region = c.args.region in
    let node = c.index.result.now in
    let few = count_by-le-length (λ (m : Mark). nat_lt 0 m.level) s.marks.items in
    let at : node ≡ get_or s.queue.items place 0 = c.index.ensures ∙ get_or_default s.queue.items place node 0 (omega (arith, few, c.requires.waits.counted, c.requires.places.0, c.requires.places.1, c.loop-place-test.true)) in
    let inside : node < length regions = omega (arith, at, (c.requires.waits.reached place c.loop-place-test.true).0, c.requires.places.0, i.size) in
    record {
      size = length-set regions node region ∙ i.size;
      flow = i.flow;
      inside = λ k before. elim (cases_eq (get_or s.queue.items k 0) node) [
        | inl same ↦ ap (λ n. get_or (set regions node region) n 0) same ∙ get_or-set_same regions node region 0 inside
        | inr other ↦ get_or-set_other regions node (get_or s.queue.items k 0) region 0 other ∙ elim (cases_eq k place) [
          | inl last ↦ absurd (other (ap (λ j. get_or s.queue.items j 0) last ∙ sym at))
          | inr earlier ↦ i.inside k (omega arith)
        ]
      ];
      outside = λ n none. get_or-set_other regions node n region 0 (λ is. none place (omega arith) (sym at ∙ sym is)) ∙ i.outside n (λ k before. none k (omega arith));
    }
