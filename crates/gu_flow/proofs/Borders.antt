-- Flows of the same value agree at the border of the nodes that a search above the floors has reached.
use Rattle.gu_flow.proofs.Words.{◌≡◌, ◌≢◌, ℕ, ◌+◌, ◌*◌, ◌/◌, ◌%◌, ◌<◌, ◌≤◌, ◌==◌, ◌-◌, Bool, true, false, cond, List, [], length, get_or, refl, sym, ◌∙◌, ap, arith, inl, inr, cases_Bool, cases_eq, cases_lt, eq-eqb, ne_eqb, Arc, no_arc, arc_at, is_tail, JoinsNodes, IsAlike, IsClosedInside, AreFixed, CarriesMost, places, sum_over, inflow, outflow, value_of, IsFlow, IsClosed, sum_by-add, sum_by-agree, sum_by-swap}
use Rattle.std.specs.List.{sum_by}
use Rattle.gu_flow.proofs.SumLemmas.{sum_places_by, sum_places_set, cond-sum, cond-swap, sum_one_place, same_terms}

-- the flow into the nodes of a set, arc by arc, and out of them
module _ (arcs : List Arc) (nodes : ℕ) (end : Arc → ℕ) (ends_in : (k : ℕ) → k < length arcs → end (arc_at arcs k) < nodes) (inside : ℕ → Bool) (term : ℕ → ℕ) where
  pub by_nodes : sum_by (λ n. cond (inside n) (sum_over arcs (λ a. end a == n) term) 0) (places nodes) ≡ sum_by (λ k. cond (inside (end (arc_at arcs k))) (term k) 0) (places (length arcs))
  unfolding sum_over
  by_nodes =
      sum_by-agree (λ n. cond (inside n) (sum_over arcs (λ a. end a == n) term) 0) (λ n. sum_by (λ k. cond (inside n) (cond (end (arc_at arcs k) == n) (term k) 0) 0) (places (length arcs))) (places nodes)
      (λ n. cond-sum (inside n) (λ k. cond (end (arc_at arcs k) == n) (term k) 0) (places (length arcs)))
      ∙ sum_by-swap (λ n k. cond (inside n) (cond (end (arc_at arcs k) == n) (term k) 0) 0) (places nodes) (places (length arcs))
      ∙ sum_places_by (λ k. sum_by (λ n. cond (inside n) (cond (end (arc_at arcs k) == n) (term k) 0) 0) (places nodes)) (λ k. cond (inside (end (arc_at arcs k))) (term k) 0) (length arcs)
      (λ k k_in.
      sum_by-agree (λ n. cond (inside n) (cond (end (arc_at arcs k) == n) (term k) 0) 0) (λ n. cond (end (arc_at arcs k) == n) (cond (inside n) (term k) 0) 0) (places nodes)
      (λ n. cond-swap (inside n) (end (arc_at arcs k) == n) (term k))
      ∙ sum_one_place (λ n. cond (inside n) (term k) 0) nodes (end (arc_at arcs k)) (ends_in k k_in))

split_add : (b : Bool) (x y : ℕ) → cond b (x + y) 0 ≡ cond b x 0 + cond b y 0
split_add true x y = refl
split_add false x y = refl

module _ (arcs : List Arc) (nodes : ℕ) (joins : JoinsNodes arcs nodes) (some : 0 < nodes) (floors flow others : List ℕ) (is_flow : IsFlow arcs flow) (alike : IsAlike arcs floors flow others) where
  tails_in : (k : ℕ) → k < length arcs → (arc_at arcs k).from < nodes
  tails_in k k_in = (joins k no_arc k_in).0

  heads_in : (k : ℕ) → k < length arcs → (arc_at arcs k).to < nodes
  heads_in k k_in = (joins k no_arc k_in).1

  -- the flow into a node in one and out of it in the other
  abbrev one : ℕ → ℕ
  one n = inflow arcs others n + outflow arcs flow n

  abbrev other : ℕ → ℕ
  other n = inflow arcs flow n + outflow arcs others n

  module _ (inside : ℕ → Bool) where
    abbrev crossed : List ℕ → List ℕ → ℕ → ℕ
    crossed f g k = cond (inside (arc_at arcs k).to) (get_or f k 0) 0 + cond (inside (arc_at arcs k).from) (get_or g k 0) 0

    both : (f g : List ℕ) → sum_by (λ n. cond (inside n) (inflow arcs f n + outflow arcs g n) 0) (places nodes) ≡ sum_by (crossed f g) (places (length arcs))
    both f g =
        let ins = by_nodes arcs nodes (λ a. a.to) heads_in inside (λ k. get_or f k 0) in
        let outs = by_nodes arcs nodes (λ a. a.from) tails_in inside (λ k. get_or g k 0) in
        sum_by-agree (λ n. cond (inside n) (inflow arcs f n + outflow arcs g n) 0) (λ n. cond (inside n) (inflow arcs f n) 0 + cond (inside n) (outflow arcs g n) 0) (places nodes) (λ n. split_add (inside n) (inflow arcs f n) (outflow arcs g n))
        ∙ sum_by-add (λ n. cond (inside n) (inflow arcs f n) 0) (λ n. cond (inside n) (outflow arcs g n) 0) (places nodes)
        ∙ omega (arith, ins, outs, sum_by-add (λ k. cond (inside (arc_at arcs k).to) (get_or f k 0) 0) (λ k. cond (inside (arc_at arcs k).from) (get_or g k 0) 0) (places (length arcs)))

  -- they are balanced alike, even at the source
  kept : (n : ℕ) → n ≢ 0 → one n ≡ other n
  kept n not_source = elim (cases_eq n 1) [
    | inl sink ↦ rw sink (omega (arith, alike.value, alike.is_flow.taken, is_flow.taken))
    | inr inner ↦ omega (arith, alike.is_flow.kept n not_source inner, is_flow.kept n not_source inner)
  ]

  all_ones : sum_by one (places nodes) ≡ sum_by other (places nodes)
  all_ones =
      both (λ n. true) others flow
      ∙ sum_by-agree (crossed (λ n. true) others flow) (crossed (λ n. true) flow others) (places (length arcs)) (λ k. omega arith)
      ∙ sym (both (λ n. true) flow others)

  balanced : (n : ℕ) → one n ≡ other n
  balanced n = elim (cases_eq n 0) [
    | inl source ↦ rw source (omega (arith, all_ones, sum_places_set one (λ n. cond (n == 0) (one 0) (other n)) nodes 0 some (λ j apart. at j apart), last))
    | inr inner ↦ kept n inner
  ]
    where
      at : (j : ℕ) → j ≢ 0 → cond (j == 0) (one 0) (other j) ≡ one j
      at j apart = rw (ne_eqb j 0 apart) (sym (kept j apart))

      last : sum_by (λ n. cond (n == 0) (one 0) (other n)) (places nodes) + other 0 ≡ sum_by other (places nodes) + one 0
      last = sum_places_set other (λ n. cond (n == 0) (one 0) (other n)) nodes 0 some (λ j apart. rw (ne_eqb j 0 apart) refl)

  module _ (regions : List ℕ) (fixed : AreFixed arcs floors flow regions) (reached : ℕ → Bool) (closed : IsClosedInside arcs floors flow regions reached) where
    crossings : sum_by (crossed reached flow others) (places (length arcs)) ≡ sum_by (crossed reached others flow) (places (length arcs))
    crossings =
        sym (both reached flow others)
        ∙ sum_by-agree (λ n. cond (reached n) (other n) 0) (λ n. cond (reached n) (one n) 0) (places nodes) (λ n. ap (λ m. cond (reached n) m 0) (sym (balanced n)))
        ∙ both reached others flow

    -- each arc out of the reached nodes is full, and each arc into them is at its floor
    full : (k : ℕ) → k < length arcs → reached (arc_at arcs k).from ≡ true → reached (arc_at arcs k).to ≡ false → get_or others k 0 ≤ get_or flow k 0
    full k k_in from to =
        let tail : (2 * k) % 2 == 0 ≡ true = eq-eqb ((2 * k) % 2) 0 (omega arith) in
        let place : 2 * k / 2 ≡ k = omega arith in
        elim (cases_eq (get_or regions (arc_at arcs k).from 0) (get_or regions (arc_at arcs k).to 0)) [
          | inl same ↦ omega (arith, alike.is_flow.within.each k, (rw (tail, place) at (closed.each (2 * k) (omega arith))) from to same)
          | inr apart ↦ omega (arith, fixed.each others alike k k_in apart)
        ]

    low : (k : ℕ) → k < length arcs → reached (arc_at arcs k).from ≡ false → reached (arc_at arcs k).to ≡ true → get_or flow k 0 ≤ get_or others k 0
    low k k_in from to =
        let head : (2 * k + 1) % 2 == 0 ≡ false = ne_eqb ((2 * k + 1) % 2) 0 (omega arith) in
        let place : (2 * k + 1) / 2 ≡ k = omega arith in
        elim (cases_eq (get_or regions (arc_at arcs k).from 0) (get_or regions (arc_at arcs k).to 0)) [
          | inl same ↦ omega (arith, alike.keeps.each k, (rw (head, place) at (closed.each (2 * k + 1) (omega arith))) to from (sym same))
          | inr apart ↦ omega (arith, fixed.each others alike k k_in apart)
        ]

    less : (k : ℕ) → k < length arcs → crossed reached flow others k ≤ crossed reached others flow k
    less k k_in = elim (cases_Bool (reached (arc_at arcs k).from)) [
      | inl from ↦ elim (cases_Bool (reached (arc_at arcs k).to)) [
        | inl to ↦ rw (from, to) (omega arith)
        | inr off ↦ let h = full k k_in from off in rw (from, off) (omega (arith, h))
      ]
      | inr out ↦ elim (cases_Bool (reached (arc_at arcs k).to)) [
        | inl to ↦ let h = low k k_in out to in rw (out, to) (omega (arith, h))
        | inr off ↦ rw (out, off) (omega arith)
      ]
    ]

    -- so they agree at the border
    pub border_out : (k : ℕ) → k < length arcs → reached (arc_at arcs k).from ≡ true → reached (arc_at arcs k).to ≡ false → get_or others k 0 ≡ get_or flow k 0
    border_out k k_in from to =
        let same = same_terms (crossed reached flow others) (crossed reached others flow) (length arcs) less crossings k k_in in
        let is : 0 + get_or others k 0 ≡ 0 + get_or flow k 0 = rw (from, to) at same in
        omega arith

    pub border_back : (k : ℕ) → k < length arcs → reached (arc_at arcs k).from ≡ false → reached (arc_at arcs k).to ≡ true → get_or others k 0 ≡ get_or flow k 0
    border_back k k_in from to =
        let same = same_terms (crossed reached flow others) (crossed reached others flow) (length arcs) less crossings k k_in in
        let is : get_or flow k 0 + 0 ≡ get_or others k 0 + 0 = rw (from, to) at same in
        omega arith

module _ (arcs : List Arc) (nodes : ℕ) (joins : JoinsNodes arcs nodes) (some : 0 < nodes) (floors flow regions : List ℕ) (is_flow : IsFlow arcs flow) (fixed : AreFixed arcs floors flow regions) where
  -- what was fixed stays fixed when floors rise and lots are pushed round
  pub fixed_stays : (floors' flow' : List ℕ) → IsAlike arcs floors flow flow' → ((k : ℕ) → get_or floors k 0 ≤ get_or floors' k 0) → AreFixed arcs floors' flow' regions
  fixed_stays floors' flow' now rise = record {
    each = λ others alike k k_in apart.
        let was : IsAlike arcs floors flow others = record { is_flow = alike.is_flow; value = alike.value ∙ now.value; keeps = record { each = λ j. omega (arith, rise j, alike.keeps.each j) } } in
        fixed.each others was k k_in apart ∙ sym (fixed.each flow' now k k_in apart);
  }

  module _ (reached : ℕ → Bool) (closed : IsClosedInside arcs floors flow regions reached) where
    -- the nodes reached by a search that ended are a region: if the new regions differ at nodes that both were reached, or both weren't,
    -- the old ones did
    pub fixed_more : (regions' : List ℕ) → ((n m : ℕ) → reached n ≡ reached m → get_or regions n 0 ≡ get_or regions m 0 → get_or regions' n 0 ≡ get_or regions' m 0) → AreFixed arcs floors flow regions'
    fixed_more regions' now = record {
      each = λ others alike k k_in apart.
          let tail = (arc_at arcs k).from in
          let head = (arc_at arcs k).to in
          elim (cases_Bool (reached tail)) [
            | inl from ↦ elim (cases_Bool (reached head)) [
              | inl to ↦ fixed.each others alike k k_in (λ same. apart (now tail head (from ∙ sym to) same))
              | inr off ↦ border_out arcs nodes joins some floors flow others is_flow alike regions fixed reached closed k k_in from off
            ]
            | inr out ↦ elim (cases_Bool (reached head)) [
              | inl to ↦ border_back arcs nodes joins some floors flow others is_flow alike regions fixed reached closed k k_in out to
              | inr off ↦ fixed.each others alike k k_in (λ same. apart (now tail head (out ∙ sym off) same))
            ]
          ];
    }

  -- no flow that keeps the floors of the other arcs carries more, if an arc carries its floor and its ends are separated
  module _ (place : ℕ) (place_in : place < length arcs) (here : get_or floors place 0 ≡ get_or flow place 0) where
    risen : (older others : List ℕ) → ((k : ℕ) → k ≢ place → get_or floors k 0 ≡ get_or older k 0) → IsAlike arcs older flow others → get_or flow place 0 < get_or others place 0 → IsAlike arcs floors flow others
    risen older others same alike more = record {
      is_flow = alike.is_flow;
      value = alike.value;
      keeps = record { each = λ k. elim (cases_eq k place) [ inl it ↦ rw it (omega (arith, here, more)) | inr other ↦ omega (arith, same k other, alike.keeps.each k) ] };
    }

    pub most_apart : get_or regions (arc_at arcs place).from 0 ≢ get_or regions (arc_at arcs place).to 0 → CarriesMost arcs floors flow place
    most_apart apart = record {
      each = λ older others same alike. elim (cases_lt (get_or flow place 0) (get_or others place 0)) [
        | inl more ↦ omega (arith, fixed.each others (risen older others same alike more) place place_in apart)
        | inr enough ↦ enough
      ];
    }

    pub most_reached : (reached : ℕ → Bool) → IsClosedInside arcs floors flow regions reached → reached (arc_at arcs place).from ≡ false → reached (arc_at arcs place).to ≡ true → CarriesMost arcs floors flow place
    most_reached reached closed from to = record {
      each = λ older others same alike. elim (cases_lt (get_or flow place 0) (get_or others place 0)) [
        | inl more ↦ omega (arith, border_back arcs nodes joins some floors flow others is_flow (risen older others same alike more) regions fixed reached closed place place_in from to)
        | inr enough ↦ enough
      ];
    }

-- initially everything is one region
pub all_one : (arcs : List Arc) (floors flow regions : List ℕ) → ((n : ℕ) → get_or regions n 0 ≡ 0) → AreFixed arcs floors flow regions
all_one arcs floors flow regions zero = record { each = λ others alike k k_in apart. absurd (apart (zero (arc_at arcs k).from ∙ sym (zero (arc_at arcs k).to))) }

-- a closed set stays closed in each maximum flow, so the cut is the same
pub closed_stays : (arcs : List Arc) (nodes : ℕ) → JoinsNodes arcs nodes → 0 < nodes → (flow flow' : List ℕ) (reached : ℕ → Bool) → IsFlow arcs flow → IsFlow arcs flow' → value_of arcs flow' ≡ value_of arcs flow → IsClosed arcs flow reached → IsClosed arcs flow' reached
closed_stays arcs nodes joins some flow flow' reached is is' value closed =
    let alike : IsAlike arcs [] flow flow' = record { is_flow = is'; value = value; keeps = record { each = λ k. omega arith } } in
    let inside : IsClosedInside arcs [] flow [] reached = record { each = λ e e_in from to same. by_end (is_tail e) (arc_at arcs (e / 2)).capacity (get_or flow (e / 2) 0) (closed.each e e_in from to) } in
    let fixed : AreFixed arcs [] flow [] = all_one arcs [] flow [] (λ n. refl) in
    record {
      each = λ e e_in from to. elim (cases_Bool (is_tail e)) [
        | inl tail ↦
            let same : get_or flow' (e / 2) 0 ≡ get_or flow (e / 2) 0 = border_out arcs nodes joins some [] flow flow' is alike [] fixed reached inside (e / 2) (omega arith) (rw tail at from) (rw tail at to) in
            let was : (arc_at arcs (e / 2)).capacity - get_or flow (e / 2) 0 ≡ 0 = rw tail at (closed.each e e_in from to) in
            rw tail (omega (arith, same, was))
        | inr head ↦
            let same : get_or flow' (e / 2) 0 ≡ get_or flow (e / 2) 0 = border_back arcs nodes joins some [] flow flow' is alike [] fixed reached inside (e / 2) (omega arith) (rw head at to) (rw head at from) in
            let was : get_or flow (e / 2) 0 ≡ 0 = rw head at (closed.each e e_in from to) in
            rw head (same ∙ was)
      ];
    }
  where
    by_end : (b : Bool) (c f : ℕ) → cond b (c - f) f ≡ 0 → cond b (c - f) (f - 0) ≡ 0
    by_end true c f h = h
    by_end false c f h = omega arith
