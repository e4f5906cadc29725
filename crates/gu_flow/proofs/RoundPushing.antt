-- A search is extended along the path of another, and lots are pushed along its own.
use Rattle.gu_flow.proofs.Words.{◌≡◌, ◌≢◌, ℕ, ◌+◌, ◌-◌, ◌*◌, ◌/◌, ◌%◌, ◌<◌, ◌≤◌, ◌==◌, Bool, true, false, cond, List, length, refl, sym, ◌∙◌, ap, subst, arith, inl, inr, get_or, cases_Bool, eq-eqb, eqb-true, Allotment, Arc, Mark, Search, arc_at, is_tail, near, far, other_end, residual_in, KeepsFloors, room_out, inflow, outflow, IsWithin, Pushes, room_inside, HasRooms, IsBrought, mark_at, level_at, IsEntry, IsTree, KeepsReached}
use Rattle.gu_flow.proofs.EndLemmas.{near-other_end, far-other_end, other_end-in}

-- a search that goes on and on keeps what it reached
pub keeps_on : (old now new : Search) → KeepsReached old now → KeepsReached now new → KeepsReached old new
keeps_on old now new first second = record {
  from = second.from ∙ first.from;
  back = second.back ∙ first.back;
  marks = λ n was. second.marks n (omega (arith, was, ap (λ (m : Mark). m.level) (first.marks n was))) ∙ first.marks n was;
  places = λ k k_in. second.places k (omega (arith, first.grows)) ∙ first.places k k_in;
  grows = omega (arith, first.grows, second.grows);
}

pub keeps_all : (s : Search) → KeepsReached s s
keeps_all s = record { from = refl; back = refl; marks = λ n was. refl; places = λ k k_in. refl; grows = omega arith }

-- room within a region is room
under : (b : Bool) (n r : ℕ) → n ≤ cond b r 0 → n ≤ r
under true n r h = h
under false n r h = omega arith

pub fits_out : (arcs : List Arc) (a : Allotment) (e n : ℕ) → n ≤ room_inside arcs a false e → n ≤ room_out arcs a.floors.items a.flow.items e
fits_out arcs a e n h = under (get_or a.regions.items (near arcs e) 0 == get_or a.regions.items (far arcs e) 0) n (room_out arcs a.floors.items a.flow.items e) h

some_inside : (b c : Bool) (r : ℕ) → (b ≡ true → c ≡ true) → 0 < cond b r 0 → 0 < cond c r 0
some_inside true c r same h = rw (same refl) h
some_inside false c r same h = absurd (omega arith)

-- an end over which a search can go back can be crossed forward the other way
pub some_ahead : (arcs : List Arc) (a : Allotment) (e : ℕ) → 0 < room_inside arcs a true e → 0 < room_inside arcs a false (other_end e)
some_ahead arcs a e some =
    let here = get_or a.regions.items (near arcs e) 0 in
    let there = get_or a.regions.items (far arcs e) 0 in
    let turned : 0 < cond (there == here) (room_out arcs a.floors.items a.flow.items (other_end e)) 0 =
    some_inside (here == there) (there == here) (room_out arcs a.floors.items a.flow.items (other_end e)) (λ same. eq-eqb there here (sym (eqb-true here there same))) some in
    subst (λ n. 0 < cond (get_or a.regions.items n 0 == get_or a.regions.items (far arcs (other_end e)) 0) (room_out arcs a.floors.items a.flow.items (other_end e)) 0) (sym (near-other_end arcs e))
    (subst (λ n. 0 < cond (get_or a.regions.items (far arcs e) 0 == get_or a.regions.items n 0) (room_out arcs a.floors.items a.flow.items (other_end e)) 0) (sym (far-other_end arcs e)) turned)

-- the lots that a node lacks, and the nodes below it have the room that the search found
pub record RoundPushing (arcs : List Arc) (start now : Allotment) (source : ℕ) (marks : List Mark) (to lots node : ℕ) : Type 0 where
  pub within : IsWithin arcs now.flow.items
  pub keeps : KeepsFloors now.floors.items now.flow.items
  pub rooms : HasRooms arcs now
  pub same : (now.floors ≡ start.floors) × (now.regions ≡ start.regions)
  pub nodes : (n : ℕ) → inflow arcs now.flow.items n + outflow arcs start.flow.items n + cond (node == n) lots 0 ≡ inflow arcs start.flow.items n + outflow arcs now.flow.items n + cond (to == n) lots 0
  pub reached : 0 < level_at marks node
  pub few : lots ≤ (mark_at marks node).lots
  pub ahead : (m : ℕ) → m ≢ source → 0 < level_at marks m → level_at marks m ≤ level_at marks node → room_out arcs now.floors.items now.flow.items (mark_at marks m).via ≡ room_out arcs start.floors.items start.flow.items (mark_at marks m).via
  pub floor : (place : ℕ) → get_or start.floors.items place 0 ≡ get_or start.flow.items place 0 → (arc_at arcs place).to ≡ source → get_or now.flow.items place 0 ≡ get_or start.flow.items place 0

-- nothing is pushed yet
pub push_begins : (arcs : List Arc) (start : Allotment) (source : ℕ) (marks : List Mark) (to lots : ℕ) → IsWithin arcs start.flow.items → KeepsFloors start.floors.items start.flow.items → HasRooms arcs start → 0 < level_at marks to → lots ≤ (mark_at marks to).lots
    → RoundPushing arcs start start source marks to lots to
push_begins arcs start source marks to lots within keeps rooms reached few = record {
  within = within;
  keeps = keeps;
  rooms = rooms;
  same = (refl, refl);
  nodes = λ n. refl;
  reached = reached;
  few = few;
  ahead = λ m _ _ _. refl;
  floor = λ place _ _. refl;
}

-- the flow through another arc is unchanged
pub flow_stays : (arcs : List Arc) (old new : List ℕ) (k : ℕ) → residual_in arcs new (2 * k) ≡ residual_in arcs old (2 * k) → get_or new k 0 ≡ get_or old k 0
flow_stays arcs old new k same =
    let tail : is_tail (2 * k) ≡ true = eq-eqb ((2 * k) % 2) 0 (omega arith) in
    let place : 2 * k / 2 ≡ k = omega arith in
    rw (tail, place) at same

module _ (arcs : List Arc) (start now : Allotment) (source : ℕ) (marks : List Mark) (to lots node : ℕ) (tree : IsTree arcs (room_inside arcs start false) source marks) (on_way : node ≢ source)
    (p : RoundPushing arcs start now source marks to lots node) where
  abbrev via : ℕ
  via = (mark_at marks node).via

  pub entry : IsEntry arcs (room_inside arcs start false) marks node (mark_at marks node)
  entry = tree.entered node on_way p.reached

  entry_fits : (mark_at marks node).lots ≤ room_out arcs start.floors.items start.flow.items via
  entry_fits = fits_out arcs start via (mark_at marks node).lots entry.fits

  pub entry_room : lots ≤ room_out arcs now.floors.items now.flow.items (mark_at marks node).via
  entry_room = omega (arith, p.ahead node on_way p.reached (omega arith), entry_fits, p.few)

  both_ends : (e : ℕ) → level_at marks (near arcs e) + level_at marks (far arcs e) ≡ level_at marks (arc_at arcs (e / 2)).from + level_at marks (arc_at arcs (e / 2)).to
  both_ends e = elim (cases_Bool (is_tail e)) [ inl tail ↦ rw tail refl | inr head ↦ rw head (omega arith) ]

  -- an arc that is at its floor and leads to the start of the search is on no path
  apart : (place : ℕ) → get_or start.floors.items place 0 ≡ get_or start.flow.items place 0 → (arc_at arcs place).to ≡ source → via / 2 ≢ place
  apart place here head same = elim (cases_Bool (is_tail via)) [
    | inl tail ↦
        let at : (arc_at arcs (via / 2)).to ≡ node = rw tail at entry.here in
        absurd (on_way (sym at ∙ ap (λ k. (arc_at arcs k).to) same ∙ head))
    | inr tip ↦
        let room : (mark_at marks node).lots ≤ get_or start.flow.items (via / 2) 0 - get_or start.floors.items (via / 2) 0 = rw tip at entry_fits in
        absurd (omega (arith, room, ap (λ k. get_or start.flow.items k 0) same, ap (λ k. get_or start.floors.items k 0) same, here, entry.some))
  ]

  pub pushes_on : (new : Allotment) → Pushes arcs now.flow.items new.flow.items (mark_at marks node).via lots → KeepsFloors new.floors.items new.flow.items → HasRooms arcs new → (new.floors ≡ now.floors) × (new.regions ≡ now.regions)
      → RoundPushing arcs start new source marks to lots (near arcs (mark_at marks node).via)
  pushes_on new c keeps rooms same =
      let next = near arcs via in
      let deeper : 1 < level_at marks node = tree.above node on_way p.reached in
      record {
        within = c.within;
        keeps = keeps;
        rooms = rooms;
        same = (same.0 ∙ p.same.0, same.1 ∙ p.same.1);
        nodes = λ n. omega (arith, c.nodes n, p.nodes n, ap (λ m. cond (m == n) lots 0) entry.here);
        reached = omega (arith, entry.falls, deeper);
        few = omega (arith, entry.least, p.few);
        ahead = λ m not_source reached below.
            let other = tree.entered m not_source reached in
            let d = (mark_at marks m).via in
            let not_same : d / 2 ≢ via / 2 = λ one.
            absurd (omega (arith, both_ends d, both_ends via, ap (λ k. level_at marks (arc_at arcs k).from + level_at marks (arc_at arcs k).to) one, ap (level_at marks) other.here, ap (level_at marks) entry.here, other.falls, entry.falls, below)) in
            let flows : get_or new.flow.items (d / 2) 0 ≡ get_or now.flow.items (d / 2) 0 = flow_stays arcs now.flow.items new.flow.items (d / 2) (c.others (2 * (d / 2)) (λ e. not_same (omega arith))) in
            let floors : get_or new.floors.items (d / 2) 0 ≡ get_or now.floors.items (d / 2) 0 = ap (λ f. get_or f.items (d / 2) 0) same.0 in
            ap (λ y. cond (is_tail d) ((arc_at arcs (d / 2)).capacity - y) (y - get_or new.floors.items (d / 2) 0)) flows
            ∙ ap (λ z. cond (is_tail d) ((arc_at arcs (d / 2)).capacity - get_or now.flow.items (d / 2) 0) (get_or now.flow.items (d / 2) 0 - z)) floors
            ∙ p.ahead m not_source reached (omega (arith, entry.falls, below));
        floor = λ place here head.
            let not_same : 2 * place / 2 ≢ via / 2 = λ one. apart place here head (omega (arith, one)) in
            flow_stays arcs now.flow.items new.flow.items place (c.others (2 * place) not_same) ∙ p.floor place here head;
      }

-- everything is pushed
pub push_ends : (arcs : List Arc) (start now : Allotment) (source : ℕ) (marks : List Mark) (to lots node : ℕ) → node ≡ source → RoundPushing arcs start now source marks to lots node → IsBrought arcs start.flow.items now.flow.items source to lots
push_ends arcs start now source marks to lots node same p = record { nodes = λ n. omega (arith, p.nodes n, ap (λ m. cond (m == n) lots 0) same) }

-- the path on which a backward search reached a node leads on from it
pub record LeadsOn (arcs : List Arc) (a : Allotment) (marks : List Mark) (node via : ℕ) : Type 0 where
  pub end_in : other_end via < 2 * length arcs
  pub here : near arcs (other_end via) ≡ node
  pub next : far arcs (other_end via) ≡ near arcs via
  pub some : 0 < room_inside arcs a false (other_end via)
  pub before : 0 < level_at marks (near arcs via)
  pub falls : level_at marks (near arcs via) + 1 ≡ level_at marks node

pub leads_on : (arcs : List Arc) (a : Allotment) (s : Search) (node : ℕ) → IsTree arcs (room_inside arcs a s.back) s.from s.marks.items → s.back ≡ true → node ≢ s.from → 0 < level_at s.marks.items node
    → LeadsOn arcs a s.marks.items node (mark_at s.marks.items node).via
leads_on arcs a s node tree back on_way reached =
    let via = (mark_at s.marks.items node).via in
    let e = tree.entered node on_way reached in
    let room : 0 < room_inside arcs a true via = subst (λ b. 0 < room_inside arcs a b via) back (omega (arith, e.some, e.fits)) in
    record {
      end_in = other_end-in via (length arcs) e.end_in;
      here = near-other_end arcs via ∙ e.here;
      next = far-other_end arcs via;
      some = some_ahead arcs a via room;
      before = omega (arith, e.falls, tree.above node on_way reached);
      falls = e.falls;
    }
