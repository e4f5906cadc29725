-- A search looks at a few ends in each turn.
use Rattle.gu_flow.proofs.Words.{◌≡◌, ◌≢◌, ℕ, ◌+◌, ◌-◌, ◌*◌, ◌<◌, ◌≤◌, List, length, sym, ◌∙◌, ap, subst, arith, inl, inr, get_or, nat_lt, suc, cases_eq, cases_lt, ltb-true, ltb-false, count_by-le-length, Arc, Mark, Search, near, far, last_before, mark_at, level_at, is_reached, GoesOn, IsQueue, IsTree, IsSearch, KeepsReached, IsShut}
use native.Mathlib.Nat.{suc-mul}
use Rattle.gu_flow.proofs.Linking.{last_is_before, last_is_at, none_after}
use Rattle.gu_flow.proofs.Marks.{count_one}

-- the first node is reached, and none of its ends has been looked at
pub search_begins : (arcs : List Arc) (room : ℕ → ℕ) (s : Search) → s.from < length s.marks.items → ((n : ℕ) → n ≢ s.from → level_at s.marks.items n ≡ 0) → level_at s.marks.items s.from ≡ 1 → 0 < (mark_at s.marks.items s.from).lots
    → get_or s.queue.items 0 0 ≡ s.from → s.count ≡ 1 → s.done ≡ 0 → s.ends ≡ last_before arcs (2 * length arcs) s.from → IsSearch arcs room s
search_begins arcs room s inside others here some at one none ends =
    let low : (n : ℕ) → level_at s.marks.items n ≤ 1 = λ n. elim (cases_eq n s.from) [ inl same ↦ rw (same, here) (omega arith) | inr other ↦ omega (arith, others n other) ] in
    let first : get_or s.queue.items s.done 0 ≡ s.from = ap (λ k. get_or s.queue.items k 0) none ∙ at in
    record {
      tree = record {
        begun = here;
        some = some;
        entered = λ n not_source reached. absurd (omega (arith, others n not_source));
        above = λ n not_source reached. absurd (omega (arith, others n not_source));
        levels = λ n. omega (arith, low n);
        most_lots = λ n reached. elim (cases_eq n s.from) [ inl same ↦ rw same (omega arith) | inr other ↦ absurd (omega (arith, others n other)) ];
      };
      waits = record {
        counted = count_one s.marks.items s.from inside others here ∙ sym one;
        waits = λ n reached. elim (cases_eq n s.from) [ inl same ↦ (0, (omega arith, at ∙ sym same)) | inr other ↦ absurd (omega (arith, others n other)) ];
        reached = λ k k_in. let is : get_or s.queue.items k 0 ≡ s.from = ap (λ j. get_or s.queue.items j 0) (omega arith) ∙ at in (omega (arith, is), subst (λ j. 0 < level_at s.marks.items j) (sym is) (omega (arith, here)));
        low = λ n. omega (arith, low n);
      };
      within = omega arith;
      spent = λ k before. absurd (omega arith);
      ends_in = omega (arith, ends, last_is_before arcs (2 * length arcs) s.from);
      ends_at = λ _ left. subst (λ e. near arcs (e - 1) ≡ get_or s.queue.items s.done 0) (sym ends) (last_is_at arcs (2 * length arcs) s.from (omega (arith, ends, left)) ∙ sym first);
      half = λ _ e from e_in at_node. absurd (none_after arcs (2 * length arcs) s.from e (omega (arith, ends, from)) e_in (at_node ∙ first));
    }

-- the reached nodes have their places among the marks and in the queue
pub reached_in : (marks : List Mark) (queue : List ℕ) (count node : ℕ) → IsQueue marks queue count → 0 < level_at marks node → node < length marks
reached_in marks queue count node waits reached = let w = waits.waits node reached in subst (λ n. n < length marks) w.1.1 (waits.reached w.0 w.1.0).0

pub place_in : (marks : List Mark) (queue : List ℕ) (count place : ℕ) → IsQueue marks queue count → length queue ≡ length marks → place < count → place < length queue
place_in marks queue count place waits same on = omega (arith, waits.counted, count_by-le-length (λ (m : Mark). nat_lt 0 m.level) marks)

module _ (arcs : List Arc) (room : ℕ → ℕ) (s : Search) (is : IsSearch arcs room s) (on : s.done < s.count) where
  -- all ends of a node have been looked at
  pub search_turns : (ends : ℕ) → s.ends ≡ 0 → ends ≤ 2 * length arcs → (s.done + 1 < s.count → ends ≡ last_before arcs (2 * length arcs) (get_or s.queue.items (s.done + 1) 0))
      → IsSearch arcs room (record s { done = s.done + 1; ends = ends })
  search_turns ends none ends_in next = record {
    tree = is.tree;
    waits = is.waits;
    within = omega arith;
    spent = λ k before e from e_in at some. elim (cases_eq k s.done) [
      | inl last ↦ is.half on e (omega (arith, none)) e_in (at ∙ ap (λ j. get_or s.queue.items j 0) last) some
      | inr earlier ↦ is.spent k (omega arith) e from e_in at some
    ];
    ends_in = ends_in;
    ends_at = λ more left. let it = next more in subst (λ e. near arcs (e - 1) ≡ get_or s.queue.items (s.done + 1) 0) (sym it) (last_is_at arcs (2 * length arcs) (get_or s.queue.items (s.done + 1) 0) (omega (arith, it, left)));
    half = λ more e from e_in at. absurd (none_after arcs (2 * length arcs) (get_or s.queue.items (s.done + 1) 0) e (omega (arith, next more, from)) e_in at);
  }

  -- it goes on from an end further on
  pub search_skips : (ends : ℕ) → GoesOn arcs room s ends → IsSearch arcs room (record s { ends = ends })
  search_skips ends on_from = record {
    tree = is.tree;
    waits = is.waits;
    within = is.within;
    spent = is.spent;
    ends_in = omega (arith, on_from.ends_in, is.ends_in);
    ends_at = λ _. on_from.ends_at;
    half = λ _. on_from.half;
  }

  pub skip_begins : GoesOn arcs room s s.ends
  skip_begins = record { ends_in = omega arith; ends_at = is.ends_at on; half = is.half on }

  -- one more end reaches nothing new
  pub skips_one : (ends next : ℕ) → GoesOn arcs room s ends → 0 < ends → next ≡ last_before arcs (ends - 1) (near arcs (ends - 1)) → (0 < room (ends - 1) → 0 < level_at s.marks.items (far arcs (ends - 1)))
      → GoesOn arcs room s next
  skips_one ends next on_from left is_next there =
      let here = on_from.ends_at left in
      record {
        ends_in = omega (arith, is_next, last_is_before arcs (ends - 1) (near arcs (ends - 1)), on_from.ends_in);
        ends_at = λ more. subst (λ e. near arcs (e - 1) ≡ get_or s.queue.items s.done 0) (sym is_next) (last_is_at arcs (ends - 1) (near arcs (ends - 1)) (omega (arith, more, is_next)) ∙ here);
        half = λ e from e_in at some. elim (cases_lt e (ends - 1)) [
          | inl below ↦ absurd (none_after arcs (ends - 1) (near arcs (ends - 1)) e (omega (arith, from, is_next)) below (at ∙ sym here))
          | inr above ↦ elim (cases_eq e (ends - 1)) [
            | inl same ↦ subst (λ k. 0 < level_at s.marks.items (far arcs k)) (sym same) (there (subst (λ k. 0 < room k) same some))
            | inr past ↦ on_from.half e (omega arith) e_in at some
          ]
        ];
      }

  -- one more end is looked at
  module _ (left : 0 < s.ends) where
    pub end_here : near arcs (s.ends - 1) ≡ get_or s.queue.items s.done 0
    end_here = is.ends_at on left

    pub end_reached : 0 < level_at s.marks.items (near arcs (s.ends - 1))
    end_reached = subst (λ n. 0 < level_at s.marks.items n) (sym (is.ends_at on left)) (is.waits.reached s.done on).1

    pub search_goes_on : (now : Search) (ends : ℕ) → ends ≡ last_before arcs (s.ends - 1) (near arcs (s.ends - 1)) → KeepsReached (record s { ends = ends }) now → now.done ≡ s.done → now.ends ≡ ends
        → IsTree arcs room now.from now.marks.items → IsQueue now.marks.items now.queue.items now.count → (0 < room (s.ends - 1) → 0 < level_at now.marks.items (far arcs (s.ends - 1)))
        → IsSearch arcs room now
    search_goes_on now ends next keeps same_done same_ends tree waits there =
        let kept : (n : ℕ) → 0 < level_at s.marks.items n → 0 < level_at now.marks.items n = λ n was. omega (arith, was, ap (λ (m : Mark). m.level) (keeps.marks n was)) in
        let node : get_or now.queue.items now.done 0 ≡ get_or s.queue.items s.done 0 = ap (λ k. get_or now.queue.items k 0) same_done ∙ keeps.places s.done on in
        record {
          tree = tree;
          waits = waits;
          within = omega (arith, same_done, keeps.grows, is.within);
          spent = λ k before e from e_in at some.
              let earlier : k < s.done = omega (arith, same_done, before) in
              kept (far arcs e) (is.spent k earlier e from e_in (at ∙ keeps.places k (omega (arith, earlier, on))) some);
          ends_in = omega (arith, same_ends, next, last_is_before arcs (s.ends - 1) (near arcs (s.ends - 1)), is.ends_in);
          ends_at = λ _ more. subst (λ e. near arcs (e - 1) ≡ get_or now.queue.items now.done 0) (sym (same_ends ∙ next)) (last_is_at arcs (s.ends - 1) (near arcs (s.ends - 1)) (omega (arith, more, same_ends, next)) ∙ is.ends_at on left ∙ sym node);
          half = λ _ e from e_in at some. elim (cases_lt e (s.ends - 1)) [
            | inl below ↦ absurd (none_after arcs (s.ends - 1) (near arcs (s.ends - 1)) e (omega (arith, from, same_ends, next)) below (at ∙ node ∙ sym (is.ends_at on left)))
            | inr above ↦ elim (cases_eq e (s.ends - 1)) [
              | inl same ↦ subst (λ k. 0 < level_at now.marks.items (far arcs k)) (sym same) (there (subst (λ k. 0 < room k) same some))
              | inr past ↦ kept (far arcs e) (is.half on e (omega arith) e_in (at ∙ node) some)
            ]
          ];
        }

-- once all are looked through, nothing more can be pushed
pub search_done : (arcs : List Arc) (room : ℕ → ℕ) (s : Search) → IsSearch arcs room s → s.count ≤ s.done → IsShut arcs room (is_reached s.marks.items)
search_done arcs room s is all = record {
  each = λ e e_in from to. elim (cases_eq (room e) 0) [
    | inl none ↦ none
    | inr some ↦
        let w = is.waits.waits (near arcs e) (ltb-true 0 (level_at s.marks.items (near arcs e)) from) in
        let there = is.spent w.0 (omega (arith, w.1.0, all)) e (omega arith) e_in (sym w.1.1) (omega arith) in
        absurd (omega (arith, there, ltb-false 0 (level_at s.marks.items (far arcs e)) to))
  ];
}

-- each reached node has lots to push on
pub some_lots : (arcs : List Arc) (room : ℕ → ℕ) (source : ℕ) (marks : List Mark) (n : ℕ) → IsTree arcs room source marks → 0 < level_at marks n → 0 < (mark_at marks n).lots
some_lots arcs room source marks n tree reached = elim (cases_eq n source) [ inl here ↦ rw here tree.some | inr other ↦ (tree.entered n other reached).some ]

-- fewer turns are left
pub fewer_turns : (nodes done most ends : ℕ) → done < nodes → ends ≤ most → (nodes - (done + 1)) * (most + 1) + ends < (nodes - done) * (most + 1) + 0
fewer_turns nodes done most ends more within =
    let is : nodes - done ≡ suc (nodes - (done + 1)) = omega arith in
    let product : suc (nodes - (done + 1)) * (most + 1) ≡ (nodes - (done + 1)) * (most + 1) + (most + 1) = suc-mul (nodes - (done + 1)) (most + 1) in
    let whole : (nodes - done) * (most + 1) ≡ (nodes - (done + 1)) * (most + 1) + (most + 1) = ap (λ k. k * (most + 1)) is ∙ product in
    omega (arith, whole)
