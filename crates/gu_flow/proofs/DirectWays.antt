-- The ends of an offer's way, from the sink back to the source, are a whole path.
use Rattle.gu_flow.proofs.Words.{◌≡◌, ℕ, ◌+◌, ◌-◌, ◌*◌, ◌%◌, ◌<◌, ◌≤◌, ◌==◌, false, List, length, map, take, zero, suc, get_or, slice_get, Option, Some, None, refl, sym, ◌∙◌, ap, arith, IfSome, ne_eqb, length-map, length-take-le, slice_get-get_or, AgreementId, GroupView, IsView, IsNested, place_of, ViewOffer, arc_at, far, near, node_at, no_offer, offer_at, way_of, IsOfferOf, AreArcs, stand, IsWhole, Arc}
use Rattle.std.proofs.lemmas.List.{get_or-take}
use Rattle.gu_terms.specs.Paths.{path_through}
use Rattle.gu_terms.specs.declared.account.AccountId.{AccountId}
use Rattle.gu_terms.specs.declared.firm.FirmId.{FirmId}
use Rattle.gu_flow.proofs.Augmenting.{stand-more}
use Rattle.gu_flow.proofs.OfferWays.{path_at, step_at, way_ends, way_stepped}
use Rattle.gu_flow.proofs.Sides.{stepped_at}
use Rattle.gu_flow.proofs.ViewLoads.{lies}

-- the head of an arc, and its tail from there
near_head : (arcs : List Arc) (k : ℕ) → near arcs (2 * k + 1) ≡ (arc_at arcs k).to
near_head arcs k =
    let head : ((2 * k + 1) % 2 == 0) ≡ false = ne_eqb ((2 * k + 1) % 2) 0 (omega arith) in
    rw head (ap (λ j. (arc_at arcs j).to) (omega arith))

far_head : (arcs : List Arc) (k : ℕ) → far arcs (2 * k + 1) ≡ (arc_at arcs k).from
far_head arcs k =
    let head : ((2 * k + 1) % 2 == 0) ≡ false = ne_eqb ((2 * k + 1) % 2) 0 (omega arith) in
    rw head (ap (λ j. (arc_at arcs j).from) (omega arith))

-- a path has five keys at most
few_on : (e : FirmId) (a : AgreementId) (c : AccountId) (d : FirmId) (g : Option FirmId) → length (path_through e a c d g) ≤ 5
few_on e a c d None = omega arith
few_on e a c d (Some g) = omega arith

module _ (view : GroupView) (sound : IsView view) (nested : IsNested view) (o : ViewOffer) (h : IsOfferOf view o) where
  abbrev way : List ℕ
  way = way_of view.rooms o

  pub few : length way ≤ 5
  few =
      let p = path_at view sound nested o h in
      omega (arith, length-map o.path (place_of view.rooms), ap length p.4, few_on p.0 o.agreement p.1 p.2 p.3)

  module _ (arcs : List Arc) (are : AreArcs view arcs) (written : List ℕ) (room : length way ≤ length written)
      (at : (i : ℕ) → i < length way → get_or written i 0 ≡ 2 * get_or way (length way - 1 - i) 0 + 1) where
    abbrev ends : List ℕ
    ends = take (length way) written

    long : length ends ≡ length way
    long = length-take-le (length way) written room

    each : (i : ℕ) → i < length way → get_or ends i 0 ≡ 2 * get_or way (length way - 1 - i) 0 + 1
    each i i_in = get_or-take (length way) written i 0 i_in ∙ at i i_in

    abbrev place : ℕ → ℕ
    place i = get_or way i 0

    laid : (i : ℕ) → i < length way → (place i < length arcs) × ((arc_at arcs (place i)).from ≡ node_at way i) × ((arc_at arcs (place i)).to ≡ node_at way (i + 1))
    laid i i_in = lies view sound nested arcs are o h i (place i) (slice_get-get_or way i 0 i_in)

    -- the node at an end, and the one at which the path then is
    near_at : (i : ℕ) → i < length way → near arcs (get_or ends i 0) ≡ node_at way (length way - i)
    near_at i i_in =
        let j = length way - 1 - i in
        ap (near arcs) (each i i_in) ∙ near_head arcs (place j) ∙ (laid j (omega (arith, long))).2 ∙ ap (node_at way) (omega arith)

    stands : (i : ℕ) → i < length way + 1 → stand arcs ends i ≡ node_at way (length way - i)
    stands zero i_in = sym (way_ends view sound nested o h) ∙ ap (node_at way) (omega (arith, long))
    stands (suc i) i_in =
        let j = length way - 1 - i in
        ap (stand arcs ends) {y = i + 1} (omega arith) ∙ stand-more arcs ends i ∙ ap (far arcs) (each i (omega arith)) ∙ far_head arcs (place j)
        ∙ (laid j (omega (arith, long))).1 ∙ ap (node_at way) (omega arith)

    -- each place of the way is at its own step
    at_step : (i : ℕ) → i < length way → step_at view.rooms (place i) ≡ i
    at_step i i_in = omega (arith, stepped_at (step_at view.rooms) 0 way (way_stepped view sound nested o h) i (place i) (slice_get-get_or way i 0 i_in))

    pub is_whole : IsWhole arcs ends
    is_whole = record {
      is_way = record {
        ends = λ i i_in. omega (arith, long, each i (omega (arith, long)), (laid (length way - 1 - i) (omega (arith, long))).0);
        joined = λ i i_in. near_at i (omega (arith, long)) ∙ sym (stands i (omega (arith, long)));
      };
      source = ap (stand arcs ends) long ∙ stands (length way) (omega arith) ∙ ap (node_at way) {y = 0} (omega arith);
      once = λ i j i_in j_in same.
          let places : place (length way - 1 - i) ≡ place (length way - 1 - j) = omega (arith, each i (omega (arith, long)), each j (omega (arith, long)), same) in
          let steps = ap (step_at view.rooms) places in
          omega (arith, long, steps, at_step (length way - 1 - i) (omega (arith, long)), at_step (length way - 1 - j) (omega (arith, long)));
    }

-- the places that a view gives of an offer are its way
pub places_are : (view : GroupView) (i : ℕ) (places : List ℕ) → i < length view.offers → IfSome (slice_get view.offers i) (λ o. places ≡ map (place_of view.rooms) o.path)
    → places ≡ way_of view.rooms (offer_at view.offers i)
places_are view i places inside are = rw (slice_get-get_or view.offers i no_offer inside) at are

pub here : (view : GroupView) (i : ℕ) → i < length view.offers → IsOfferOf view (offer_at view.offers i)
here view i inside = record { place = i; within = inside; is = refl }
