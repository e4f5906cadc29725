-- A search reaches one more node.
use Rattle.gu_flow.proofs.Words.{◌≡◌, ◌≢◌, ℕ, ◌+◌, ◌*◌, ◌<◌, ◌≤◌, Bool, true, false, cond, List, length, refl, ◌∙◌, ap, arith, get_or, get_or-set_other, get_or-set_same, nat_lt, length-set, sum_by-le, sum_by-set, count_by-le-length, All-from_get_or, lt-ltb, Arc, Mark, near, far, no_mark, mark_at, level_at, IsEntry, IsTree, reached_count, IsQueue}
use Rattle.std.proofs.Math.ListN.{set}
use Rattle.gu_flow.proofs.SumLemmas.{at_set}

count_step : (b : Bool) (now was level : ℕ) → b ≡ false → 0 < level → now + cond b 1 0 ≡ was + cond (nat_lt 0 level) 1 0 → now ≡ was + 1
count_step true now was level empty some h = cc
count_step false now was level empty some h = let one : now + 0 ≡ was + 1 = rw (lt-ltb 0 level some) at h in omega arith

-- one more is counted
pub count_one_more : (marks : List Mark) (n : ℕ) (e : Mark) → n < length marks → level_at marks n ≡ 0 → 0 < e.level → reached_count (set marks n e) ≡ reached_count marks + 1
count_one_more marks n e n_in new some =
    count_step (nat_lt 0 (level_at marks n)) _ _ e.level (rw new refl) some (sum_by-set (λ (x : Mark). cond (nat_lt 0 x.level) 1 0) marks n e no_mark n_in)

-- if a node isn't reached, fewer are than there are nodes
pub reached_fewer : (marks : List Mark) (n : ℕ) → n < length marks → level_at marks n ≡ 0 → reached_count marks < length marks
reached_fewer marks n n_in new =
    let e : Mark = record { via = 0; level = 1; lots = 0 } in
    let all : reached_count (set marks n e) ≤ length (set marks n e) = count_by-le-length (λ (x : Mark). nat_lt 0 x.level) (set marks n e) in
    omega (arith, count_one_more marks n e n_in new (omega arith), length-set marks n e)

-- if only one node is reached, the count is one
pub count_one : (marks : List Mark) (source : ℕ) → source < length marks → ((n : ℕ) → n ≢ source → level_at marks n ≡ 0) → level_at marks source ≡ 1 → reached_count marks ≡ 1
count_one marks source inside others here =
    let f : Mark → ℕ = λ x. cond (nat_lt 0 x.level) 1 0 in
    let none = sum_by-le f 0 (set marks source no_mark) (All-from_get_or (λ (x : Mark). f x ≤ 0) (set marks source no_mark) no_mark
    (λ k k_in. at_set (λ k (x : Mark). f x ≤ 0) marks source no_mark no_mark inside (omega arith) (λ k other. rw (others k other) (omega arith)) k)) in
    let one : f (mark_at marks source) ≡ 1 = rw here refl in
    omega (arith, none, one, sum_by-set f marks source no_mark no_mark inside)

module _ (arcs : List Arc) (marks : List Mark) (queue : List ℕ) (count end level lots : ℕ) (waits : IsQueue marks queue count) (far_in : far arcs end < length marks)
    (new : level_at marks (far arcs end) ≡ 0) (level_is : level_at marks (near arcs end) + 1 ≡ level) (places : length marks ≤ length queue) where
  abbrev node : ℕ
  node = far arcs end

  abbrev e : Mark
  e = record { via = end; level = level; lots = lots }

  abbrev after : List Mark
  after = set marks node e

  pub level_there : level_at (set marks (far arcs end) (record { via = end; level = level; lots = lots })) (far arcs end) ≡ level
  level_there = ap (λ (x : Mark). x.level) (get_or-set_same marks node e no_mark far_in)

  pub kept_mark : (m : ℕ) → 0 < level_at marks m → mark_at (set marks (far arcs end) (record { via = end; level = level; lots = lots })) m ≡ mark_at marks m
  kept_mark m was = get_or-set_other marks node m e no_mark (λ same. absurd (omega (arith, was, new, ap (level_at marks) same)))

  kept : (m : ℕ) → 0 < level_at marks m → level_at after m ≡ level_at marks m
  kept m was = ap (λ (x : Mark). x.level) (kept_mark m was)

  kept_lots : (m : ℕ) → 0 < level_at marks m → (mark_at after m).lots ≡ (mark_at marks m).lots
  kept_lots m was = ap (λ (x : Mark). x.lots) (kept_mark m was)

  count_in : count < length marks
  count_in = omega (arith, waits.counted, reached_fewer marks node far_in new)

  pub queue_before : (k : ℕ) → k < count → get_or (set queue count (far arcs end)) k 0 ≡ get_or queue k 0
  queue_before k before = get_or-set_other queue count k node 0 (λ e. absurd (omega arith))

  pub queue_reaches : IsQueue (set marks (far arcs end) (record { via = end; level = level; lots = lots })) (set queue count (far arcs end)) (count + 1)
  queue_reaches =
      let place_in : count < length queue = omega (arith, count_in) in
      record {
        counted = count_one_more marks node e far_in new (omega arith) ∙ ap (λ k. k + 1) waits.counted;
        waits = at_set (λ m (x : Mark). 0 < x.level → (k : ℕ) × ((k < count + 1) × (get_or (set queue count node) k 0 ≡ m))) marks node e no_mark far_in (λ _. (count, (omega arith, get_or-set_same queue count node 0 place_in)))
            (λ m other was. let w = waits.waits m was in (w.0, (omega (arith, w.1.0), queue_before w.0 w.1.0 ∙ w.1.1)));
        reached = at_set (λ k n. k < count + 1 → (n < length after) × (0 < level_at after n)) queue count node 0 place_in (λ _. (omega (arith, far_in, length-set marks node e), omega (arith, level_there, level_is)))
            (λ k other k_in. let w = waits.reached k (omega arith) in (omega (arith, w.0, length-set marks node e), omega (arith, kept (get_or queue k 0) w.1, w.1)));
        low = at_set (λ m (x : Mark). x.level ≤ count + 1) marks node e no_mark far_in (omega (arith, waits.low (near arcs end))) (λ m other. omega (arith, waits.low m));
      }

  module _ (room : ℕ → ℕ) (source : ℕ) (tree : IsTree arcs room source marks) (end_in : end < 2 * length arcs) (some : 0 < lots) (fits : lots ≤ room end)
      (least : lots ≤ (mark_at marks (near arcs end)).lots) (reached : 0 < level_at marks (near arcs end)) where
    pub tree_reaches : IsTree arcs room source (set marks (far arcs end) (record { via = end; level = level; lots = lots }))
    tree_reaches =
        let at_source : (mark_at after source).lots ≡ (mark_at marks source).lots = kept_lots source (omega (arith, tree.begun)) in
        record {
          begun = kept source (omega (arith, tree.begun)) ∙ tree.begun;
          some = omega (arith, at_source, tree.some);
          entered = at_set (λ m (x : Mark). m ≢ source → 0 < x.level → IsEntry arcs room after m x) marks node e no_mark far_in (λ _ _. record {
            end_in = end_in;
            here = refl;
            some = some;
            fits = fits;
            least = omega (arith, kept_lots (near arcs end) reached, least);
            falls = ap (λ l. l + 1) (kept (near arcs end) reached) ∙ level_is;
          }) (λ m other not_source was. let s = tree.entered m not_source was in
              let before : 0 < level_at marks (near arcs (mark_at marks m).via) = omega (arith, s.falls, tree.above m not_source was) in
              record {
                end_in = s.end_in;
                here = s.here;
                some = s.some;
                fits = s.fits;
                least = omega (arith, s.least, kept_lots (near arcs (mark_at marks m).via) before);
                falls = ap (λ l. l + 1) (kept (near arcs (mark_at marks m).via) before) ∙ s.falls;
              });
          above = at_set (λ m (x : Mark). m ≢ source → 0 < x.level → 1 < x.level) marks node e no_mark far_in (λ _ _. omega arith) (λ m other. tree.above m);
          levels = rw length-set (at_set (λ m (x : Mark). x.level ≤ length marks) marks node e no_mark far_in (omega (arith, waits.low (near arcs end), count_in)) (λ m other. tree.levels m));
          most_lots = at_set (λ m (x : Mark). 0 < x.level → x.lots ≤ (mark_at after source).lots) marks node e no_mark far_in (λ _. omega (arith, at_source, least, tree.most_lots (near arcs end) reached))
              (λ m other was. omega (arith, at_source, tree.most_lots m was));
        }
