-- There is room for what a sweep of a group's view takes, so its takes may be moved.
use Rattle.gu_book.proofs.Words.{◌≡◌, ◌<◌, List, sym, arith, inl, inr, ◌≤◌, Some, ap, ◌∙◌, subst, ◌-◌, Option, IfSome, cases_Bool, AllByRecursion, option_map_or, option_map, Later-from_AllPairs, along, same_group-true, same_group, lots_of, Entry, SweepEntry, Group, LimitKey, Take, Tables, room_in, Row, left_in, left_of, row_at, offer_of, ViewOffer, path_after, room_of, standing_of, IsSweepOf, group_view, offers_shown, IsKept, IsShownOpen, MayTake, lots_used, Totals}
use Rattle.gu_rules.proofs.SweptOffers.{TakesLeft, all-left}
use Rattle.gu_rules.proofs.SweptRooms.{all-used, none-used, under-room}

module _ (reference : Tables) (history : List Entry) (totals : Totals) (sweep : SweepEntry) (kept : IsKept reference history totals) (right : IsSweepOf (group_view reference history sweep.group) sweep) where
  abbrev rows : List Row
  rows = standing_of history

  abbrev offers : List ViewOffer
  offers = offers_shown reference history sweep.group

  abbrev TakesOf : Take → Type 0
  TakesOf = TakesLeft reference rows sweep.group offers

  left : AllByRecursion TakesOf sweep.takes
  left = all-left reference history sweep right

  is_left : (t : Take) (takes : TakesOf t) → left_in totals.offers t.offer ≡ left_of takes.stands.row
  is_left t takes = ap (λ (rs : List Row). left_in rs t.offer) kept.beside.offers ∙ ap (left_in rows) (sym takes.number) ∙ ap (λ (o : Option Row). option_map_or left_of o 0) takes.stands.at

  -- the view shows the offers of its takes, each open, with the paths that apply
  pub sweep-shown : AllByRecursion (IsShownOpen reference totals offers) sweep.takes
  sweep-shown = along TakesOf (IsShownOpen reference totals offers) sweep.takes
      (λ t takes.
      let s = takes.stands in
      let here : row_at totals.offers t.offer ≡ Some s.row = ap (λ (rs : List Row). row_at rs t.offer) kept.beside.offers ∙ ap (row_at rows) (sym takes.number) ∙ s.at in
      record {
        history = history;
        kept = kept;
        still_open = omega (arith, is_left t takes, s.is_left);
        path = subst (λ (found : Option Row). IfSome found (λ (row : Row). option_map (λ (o : ViewOffer). o.path) (offer_of offers t.offer) ≡ Some (path_after reference row.offer))) (sym here)
            (ap (option_map (λ (o : ViewOffer). o.path)) takes.found ∙ ap (λ (path : List LimitKey). Some path) s.path);
      }) left

  -- and its takes may be moved
  pub sweep-takes : MayTake reference totals sweep.takes
  sweep-takes =
      let later = Later-from_AllPairs (λ (a b : Take). a.offer < b.offer) sweep.takes right.ascending in
      record {
        history = history;
        kept = kept;
        ascending = later;
        still_open = along (IsShownOpen reference totals offers) (λ (t : Take). 0 < left_in totals.offers t.offer) sweep.takes (λ t shown. shown.still_open) sweep-shown;
        left = along TakesOf (λ (t : Take). t.lots ≤ left_in totals.offers t.offer) sweep.takes (λ t takes. omega (arith, is_left t takes, takes.lots, takes.stands.lots)) left;
        room = λ group key.
            let here = ap (λ (rs : List Row). lots_used reference rs sweep.takes group key) kept.beside.offers in
            let rooms : room_in totals.limits group key ≡ room_of reference history group key = λ i. kept.beside.limits group key i - kept.beside.uses group key i in
            elim (cases_Bool (same_group group sweep.group)) [
              | inl own ↦
                  let one : group ≡ sweep.group = same_group-true group sweep.group own in
                  let fits = under-room reference history sweep.group key (lots_of sweep.takes) right.right.admissible in
                  omega (arith, here, rooms, all-used reference rows sweep.group offers group key sweep.takes later left, fits, ap (λ (g : Group). room_of reference history g key) one)
              | inr other ↦ omega (arith, here, none-used reference rows sweep.group offers group key sweep.takes other left)
            ];
      }
