use Rattle.gu_flow.proofs.Words.{◌≡◌, ◌+◌, ◌<◌, ◌∙◌, ap, arith, length, subst, get_or_default, Mark, near, far, no_mark, level_at, mark_at}
use Rattle.gu_flow.proofs.Looking.{reached_in}
use Rattle.gu_flow.proofs.Marks.{reached_fewer, tree_reaches, queue_reaches}
use Rattle.gu_flow.proofs.searching.Search.enter.Goals as goal

pub index_mut-requires-2 : goal.index_mut-requires-2
index_mut-requires-2 c =
    let marks = c.args.self.now.marks.items in
    omega (arith, c.requires.waits.counted, reached_fewer marks (far c.args.net.now.arcs.items c.args.end) (subst (λ n. n < length marks) c.far-other.ensures.is (omega (arith, c.far-other.ensures.within, c.requires.places.marks))) c.requires.new, c.requires.places.marks, c.requires.places.queue)

pub returns-clause-tree : goal.returns-clause-tree
returns-clause-tree c = λ rooms fits tree.
    let arcs = c.args.net.now.arcs.items in
    let s = c.args.self.now in
    let end = c.args.end in
    let node = c.args.node in
    let other : c.far-other.result ≡ far arcs end = c.far-other.ensures.is in
    let mark : c.index-mark.result.now ≡ mark_at s.marks.items node =
    c.index-mark.ensures ∙ get_or_default s.marks.items node c.index-mark.result.now no_mark (reached_in s.marks.items s.queue.items s.count node c.requires.waits c.requires.reached.0) in
    let same : mark_at s.marks.items node ≡ mark_at s.marks.items (near arcs end) = ap (mark_at s.marks.items) c.requires.end.1 in
    rw other
    (tree_reaches arcs s.marks.items s.queue.items s.count end (c.index-mark.result.now.level + 1) c.min.result c.requires.waits
    (subst (λ n. n < length s.marks.items) other (omega (arith, c.far-other.ensures.within, c.requires.places.marks)))
    c.requires.new
    (omega (arith, ap (λ (m : Mark). m.level) (mark ∙ same))) (omega (arith, c.requires.places.marks, c.requires.places.queue)) rooms s.from tree c.requires.end.0
    (omega (arith, c.min.ensures, c.requires.some, c.requires.reached.1, ap (λ (m : Mark). m.lots) mark)) (omega (arith, c.min.ensures, fits)) (omega (arith, ap (λ (m : Mark). m.lots) (mark ∙ same), c.min.ensures))
    (subst (λ n. 0 < level_at s.marks.items n) c.requires.end.1 c.requires.reached.0))

pub returns-clause-waits : goal.returns-clause-waits
returns-clause-waits c =
    let arcs = c.args.net.now.arcs.items in
    let s = c.args.self.now in
    let end = c.args.end in
    let node = c.args.node in
    let other : c.far-other.result ≡ far arcs end = c.far-other.ensures.is in
    let mark : c.index-mark.result.now ≡ mark_at s.marks.items node =
    c.index-mark.ensures ∙ get_or_default s.marks.items node c.index-mark.result.now no_mark (reached_in s.marks.items s.queue.items s.count node c.requires.waits c.requires.reached.0) in
    let same : mark_at s.marks.items node ≡ mark_at s.marks.items (near arcs end) = ap (mark_at s.marks.items) c.requires.end.1 in
    rw other
    (queue_reaches arcs s.marks.items s.queue.items s.count end (c.index-mark.result.now.level + 1) c.min.result c.requires.waits
    (subst (λ n. n < length s.marks.items) other (omega (arith, c.far-other.ensures.within, c.requires.places.marks)))
    c.requires.new
    (omega (arith, ap (λ (m : Mark). m.level) (mark ∙ same))) (omega (arith, c.requires.places.marks, c.requires.places.queue)))
