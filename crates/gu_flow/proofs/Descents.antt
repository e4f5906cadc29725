-- Paths that go down a level at each step, augmented one after another.
use Rattle.gu_flow.proofs.Words.{◌≡◌, ◌≢◌, ℕ, ◌+◌, ◌-◌, ◌*◌, ◌/◌, ◌<◌, ◌≤◌, ◌==◌, cond, List, zero, suc, length, refl, sym, ◌∙◌, ap, subst, arith, inl, inr, get_or, get_or-set_other, get_or-set_same, get_or-take, take, length-set, cases_Bool, cases_eq, length-take-le, sum_by-set, Arc, Mark, arc_at, is_tail, near, far, other_end, residual_in, residual_out, last_before, IsCurrent, IsFlow, value_of, mark_at, level_at, IsTree, stand, IsStep, HasRoom, TakesEachOnce, IsWhole, IsAhead, IsDown, IsDescent}
use Rattle.std.proofs.Math.ListN.{set}
use Rattle.std.specs.List.{sum}
use Rattle.gu_flow.proofs.Linking.{last_is_before, last_is_at}
use Rattle.gu_flow.proofs.SumLemmas.{at_set}
use Rattle.gu_flow.proofs.Augmenting.{stand-more}
use Rattle.gu_flow.proofs.EndLemmas.{far-other_end, near-other_end, other_end-in, residual_in-other_end}

-- a path's earlier steps determine the node that it has reached
stand_by : (arcs : List Arc) (way other : List ℕ) (i : ℕ) → (0 < i → get_or other (i - 1) 0 ≡ get_or way (i - 1) 0) → stand arcs other i ≡ stand arcs way i
stand_by arcs way other i same = elim (cases_eq i 0) [ inl none ↦ rw none refl | inr some ↦ ap (λ e. cond (i == 0) 1 (far arcs e)) (same (omega arith)) ]

module _ (arcs : List Arc) (flow : List ℕ) (marks : List Mark) (way : List ℕ) (steps : ℕ) (d : IsDescent arcs flow marks way steps) where
  -- each step is a level lower
  stand_level : (i : ℕ) → i ≤ steps → level_at marks (stand arcs way i) + i ≡ level_at marks 1
  stand_level zero i_in = omega arith
  stand_level (suc i) i_in =
      let one : suc i ≡ i + 1 = omega arith in
      omega (arith, ap (level_at marks) (ap (stand arcs way) one ∙ stand-more arcs way i), (d.each i (omega arith)).falls, stand_level i (omega arith))

  both_levels : (i : ℕ) → i < steps → level_at marks (near arcs (get_or way i 0)) + level_at marks (far arcs (get_or way i 0)) + 2 * i + 1 ≡ 2 * level_at marks 1
  both_levels i i_in = let s = d.each i i_in in omega (arith, ap (level_at marks) s.here, s.falls, stand_level i (omega arith))

  -- so no arc is used twice
  pub falling_once : TakesEachOnce way steps
  falling_once i j i_in j_in same =
      omega (arith, both_levels i i_in, both_levels j j_in, both_ends (get_or way i 0), both_ends (get_or way j 0), ap (λ k. level_at marks (arc_at arcs k).from + level_at marks (arc_at arcs k).to) same)
    where
      both_ends : (e : ℕ) → level_at marks (near arcs e) + level_at marks (far arcs e) ≡ level_at marks (arc_at arcs (e / 2)).from + level_at marks (arc_at arcs (e / 2)).to
      both_ends e = elim (cases_Bool (is_tail e)) [ inl tail ↦ rw tail refl | inr head ↦ rw head (omega arith) ]

  -- a prefix of a path is a path
  pub front : (few : ℕ) → few ≤ steps → IsDescent arcs flow marks way few
  front few fewer = record { each = λ i i_in. d.each i (omega arith) }

  -- also by itself; one that reaches the source is whole, and has room
  taken : steps ≤ length way → IsDescent arcs flow marks (take steps way) (length (take steps way))
  taken within = rw (length-take-le steps way within) (record {
    each = λ i i_in. subst (λ n. IsStep arcs flow marks n (level_at marks n) (get_or (take steps way) i 0)) (sym (stand_by arcs way (take steps way) i (λ some. get_or-take steps way (i - 1) 0 (omega arith))))
        (subst (IsStep arcs flow marks (stand arcs way i) (level_at marks (stand arcs way i))) (sym (get_or-take steps way i 0 i_in)) (d.each i i_in));
  })

pub front_whole : (arcs : List Arc) (flow : List ℕ) (marks : List Mark) (way : List ℕ) (steps : ℕ) → steps ≤ length way → IsDescent arcs flow marks way steps → stand arcs way steps ≡ 0
    → IsWhole arcs (take steps way) × HasRoom arcs flow (take steps way) (length (take steps way)) 1
front_whole arcs flow marks way steps within d source =
    let t = taken arcs flow marks way steps d within in (
      record {
        is_way = record { ends = λ i i_in. (t.each i i_in).end_in; joined = λ i i_in. (t.each i i_in).here };
        source = ap (stand arcs (take steps way)) (length-take-le steps way within) ∙ stand_by arcs way (take steps way) steps (λ some. get_or-take steps way (steps - 1) 0 (omega arith)) ∙ source;
        once = falling_once arcs flow marks (take steps way) (length (take steps way)) t;
      },
      λ i i_in. (t.each i i_in).room,
    )

-- a path has reached a node
pub record Standing (arcs : List Arc) (flow : List ℕ) (marks : List Mark) (way : List ℕ) (steps node : ℕ) : Type 0 where
  pub descent : IsDescent arcs flow marks way steps
  pub stands : stand arcs way steps ≡ node
  pub within : steps ≤ length way

-- one more step
module _ (arcs : List Arc) (flow : List ℕ) (marks : List Mark) (way : List ℕ) (steps node end : ℕ) (top : level_at marks 1 ≤ length way)
    (s : Standing arcs flow marks way steps node) (step : IsStep arcs flow marks node (level_at marks node) end) where
  pub room_ahead : steps < length way
  room_ahead = omega (arith, stand_level arcs flow marks way steps s.descent steps (omega arith), ap (level_at marks) s.stands, step.falls)

  pub stands_on : Standing arcs flow marks (set way steps end) (steps + 1) (far arcs end)
  stands_on = record {
    descent = record {
      each = λ i i_in. subst (λ n. IsStep arcs flow marks n (level_at marks n) (get_or (set way steps end) i 0))
          (sym (stand_by arcs way (set way steps end) i (λ some. get_or-set_other way steps (i - 1) end 0 (λ e. absurd (omega arith)))))
          (at_set (λ i e. i < steps + 1 → IsStep arcs flow marks (stand arcs way i) (level_at marks (stand arcs way i)) e) way steps end 0 room_ahead (λ _. rw s.stands step) (λ i other i_in. s.descent.each i (omega arith)) i i_in);
    };
    stands = stand-more arcs (set way steps end) steps ∙ ap (far arcs) (get_or-set_same way steps end 0 room_ahead);
    within = omega (arith, room_ahead, length-set way steps end);
  }

  ahead_on : (current : List ℕ) → IsAhead arcs current way steps → end < get_or current node 0 → IsAhead arcs current (set way steps end) (steps + 1)
  ahead_on current before now = at_set (λ i e. i < steps + 1 → e < get_or current (near arcs e) 0) way steps end 0 room_ahead (λ _. rw step.here now) (λ i other i_in. before i (omega arith))

-- the path on which a search reached the sink is followed back
pub record Tracing (arcs : List Arc) (flow : List ℕ) (marks : List Mark) (way : List ℕ) (steps node : ℕ) : Type 0 where
  pub standing : Standing arcs flow marks way steps node
  pub reached : 0 < level_at marks node

module _ (arcs : List Arc) (flow : List ℕ) (marks : List Mark) (way : List ℕ) (steps node : ℕ) (tree : IsTree arcs (residual_out arcs flow) 0 marks) (top : level_at marks 1 ≤ length way) (t : Tracing arcs flow marks way steps node) (on_way : node ≢ 0) where
  abbrev entry : ℕ
  entry = other_end (mark_at marks node).via

  pub entered : IsStep arcs flow marks node (level_at marks node) (other_end (mark_at marks node).via)
  entered =
      let via = (mark_at marks node).via in
      let e = tree.entered node on_way t.reached in
      record {
        end_in = other_end-in via (length arcs) e.end_in;
        here = near-other_end arcs via ∙ e.here;
        room = rw (residual_in-other_end arcs flow via) (omega (arith, e.some, e.fits));
        falls = ap (λ n. level_at marks n + 1) (far-other_end arcs via) ∙ e.falls;
      }

  pub trace_within : steps < length way
  trace_within = room_ahead arcs flow marks way steps node entry top t.standing entered

  pub traces : Tracing arcs flow marks (set way steps (other_end (mark_at marks node).via)) (steps + 1) (far arcs (other_end (mark_at marks node).via))
  traces = record { standing = stands_on arcs flow marks way steps node entry top t.standing entered; reached = omega (arith, entered.falls, tree.above node on_way t.reached) }

-- a search for paths continues from the node that a path has reached
pub record Descending (arcs : List Arc) (flow : List ℕ) (marks : List Mark) (current way : List ℕ) (steps node : ℕ) : Type 0 where
  pub standing : Standing arcs flow marks way steps node
  pub node_in : node < length marks
  pub current_is : IsCurrent arcs current
  pub ahead : IsAhead arcs current way steps

-- the next end at a node
pub next_current : (arcs : List Arc) (current : List ℕ) (node end : ℕ) → IsCurrent arcs current → node < length current → end < 2 * length arcs → near arcs end ≡ node → IsCurrent arcs (set current node (last_before arcs end (near arcs end)))
next_current arcs current node end is node_in end_in here =
    let next = last_before arcs end (near arcs end) in
    record {
      ends = at_set (λ n x. x ≤ 2 * length arcs) current node next 0 node_in (omega (arith, last_is_before arcs end (near arcs end))) (λ n other. is.ends n);
      here = at_set (λ n x. 0 < x → near arcs (x - 1) ≡ n) current node next 0 node_in (λ some. last_is_at arcs end (near arcs end) some ∙ here) (λ n other. is.here n);
    }

-- a smaller number makes a smaller sum
pub sum_set_less : (xs : List ℕ) (i x : ℕ) → i < length xs → x < get_or xs i 0 → sum (set xs i x) < sum xs
sum_set_less xs i x i_in less = omega (arith, sum_by-set (λ (y : ℕ). y) xs i x 0 i_in)

module _ (arcs : List Arc) (flow : List ℕ) (marks : List Mark) (current way : List ℕ) (steps node : ℕ) (top : level_at marks 1 ≤ length way) (d : Descending arcs flow marks current way steps node)
    (current' : List ℕ) (is : IsCurrent arcs current') (others : (n : ℕ) → n ≢ node → get_or current' n 0 ≡ get_or current n 0) where
  -- the search hasn't passed the path's ends, and at other nodes it is unchanged
  ahead_still : IsAhead arcs current' way steps
  ahead_still i i_in =
      let standing = d.standing in
      let before = stand_level arcs flow marks way steps standing.descent in
      let apart : near arcs (get_or way i 0) ≢ node = λ same.
      absurd (omega (arith, before i (omega arith), before steps (omega arith), ap (level_at marks) (standing.descent.each i i_in).here, ap (level_at marks) same, ap (level_at marks) standing.stands)) in
      omega (arith, others (near arcs (get_or way i 0)) apart, d.ahead i i_in)

  module _ (end : ℕ) (down : IsDown arcs flow marks current' node end) where
    pub descent_within : steps < length way
    descent_within = room_ahead arcs flow marks way steps node end top d.standing down.step

    pub goes_down : far arcs end < length marks → Descending arcs flow marks current' (set way steps end) (steps + 1) (far arcs end)
    goes_down node_in = record {
      standing = stands_on arcs flow marks way steps node end top d.standing down.step;
      node_in = node_in;
      current_is = is;
      ahead = ahead_on arcs flow marks way steps node end top d.standing down.step current' ahead_still down.ahead;
    }

  -- one step back, past its end
  module _ (some : 0 < steps) where
    abbrev end : ℕ
    end = get_or way (steps - 1) 0

    pub last : IsStep arcs flow marks (stand arcs way (steps - 1)) (level_at marks (stand arcs way (steps - 1))) (get_or way (steps - 1) 0)
    last = d.standing.descent.each (steps - 1) (omega arith)

    pub falls_back : level_at marks (near arcs (get_or way (steps - 1) 0)) ≡ level_at marks node + 1
    falls_back =
        let same : steps ≡ steps - 1 + 1 = omega arith in
        omega (arith, ap (level_at marks) last.here, last.falls, ap (level_at marks) (sym (stand-more arcs way (steps - 1)) ∙ ap (stand arcs way) (sym same) ∙ d.standing.stands))

    pub passes : last_before arcs (get_or way (steps - 1) 0) (near arcs (get_or way (steps - 1) 0)) < get_or current' (near arcs (get_or way (steps - 1) 0)) 0
    passes = omega (arith, last_is_before arcs end (near arcs end), ahead_still (steps - 1) (omega arith))

    pub goes_back : near arcs (get_or way (steps - 1) 0) < length current' → near arcs (get_or way (steps - 1) 0) < length marks
        → Descending arcs flow marks (set current' (near arcs (get_or way (steps - 1) 0)) (last_before arcs (get_or way (steps - 1) 0) (near arcs (get_or way (steps - 1) 0)))) way (steps - 1) (near arcs (get_or way (steps - 1) 0))
    goes_back back_in node_in =
        let fewer = front arcs flow marks way steps d.standing.descent (steps - 1) (omega arith) in
        let before = stand_level arcs flow marks way steps d.standing.descent in
        record {
          standing = record { descent = fewer; stands = sym last.here; within = omega (arith, d.standing.within) };
          node_in = node_in;
          current_is = next_current arcs current' (near arcs end) end is back_in last.end_in refl;
          ahead = λ i i_in.
              let apart : near arcs (get_or way i 0) ≢ near arcs end = λ same.
              absurd (omega (arith, before i (omega arith), before (steps - 1) (omega arith), ap (level_at marks) (d.standing.descent.each i (omega arith)).here, ap (level_at marks) same, ap (level_at marks) last.here)) in
              omega (arith, get_or-set_other current' (near arcs end) (near arcs (get_or way i 0)) (last_before arcs end (near arcs end)) 0 apart, ahead_still i (omega arith));
        }

-- more flow than at the start, and the steps that are kept have room
pub record Blocking (arcs : List Arc) (start flow : List ℕ) (marks : List Mark) (current way : List ℕ) (kept : ℕ) : Type 0 where
  pub flow_is : IsFlow arcs flow
  pub more : value_of arcs start < value_of arcs flow
  pub descent : IsDescent arcs flow marks way kept
  pub current_is : IsCurrent arcs current
  pub ahead : IsAhead arcs current way kept
  pub within : kept ≤ length way

-- lots are pushed along the first path
pub block_begins : (arcs : List Arc) (start flow : List ℕ) (marks : List Mark) (current way : List ℕ) → IsFlow arcs flow → value_of arcs start < value_of arcs flow → IsCurrent arcs current → Blocking arcs start flow marks current way 0
block_begins arcs start flow marks current way is more current_is = record {
  flow_is = is;
  more = more;
  descent = record { each = λ i i_in. absurd (omega arith) };
  current_is = current_is;
  ahead = λ i i_in. absurd (omega arith);
  within = omega arith;
}

-- lots are pushed along one more path, and the steps before the first without room are kept
pub block_goes_on : (arcs : List Arc) (start old flow : List ℕ) (marks : List Mark) (current way : List ℕ) (steps kept : ℕ) → value_of arcs start < value_of arcs old → IsFlow arcs flow → value_of arcs old < value_of arcs flow
    → IsDescent arcs old marks way steps → IsCurrent arcs current → IsAhead arcs current way steps → steps ≤ length way → kept ≤ steps → HasRoom arcs flow (take steps way) kept 1 → Blocking arcs start flow marks current way kept
block_goes_on arcs start old flow marks current way steps kept more is rises d current_is ahead within fewer room = record {
  flow_is = is;
  more = omega arith;
  descent = record {
    each = λ i i_in. let s = d.each i (omega arith) in record {
      end_in = s.end_in;
      here = s.here;
      room = subst (λ e. 0 < residual_in arcs flow e) (get_or-take steps way i 0 (omega arith)) (room i i_in);
      falls = s.falls;
    };
  };
  current_is = current_is;
  ahead = λ i i_in. ahead i (omega arith);
  within = omega arith;
}
