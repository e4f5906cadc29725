use Rattle.gu_book.proofs.Words.{◌≡◌, ◌≤◌, ◌∙◌, Result, Ok, Err, ap, arith, map, sym, subst, All, IfOk, AllByRecursion, filter_map, LimitKey, recursion_from_All, IfOk-weaker, room_in, IsSound, open_numbers, GroupView, keys_of, Room, offers_in, shown_at, rooms_in}
use Rattle.gu_view.specs.Making.{bad_offer, path_differs}
use Rattle.gu_rules.proofs.ViewLemmas.{HasPath, have_paths, none_bad_offer, none_differs, offers-are}
use Rattle.gu_rules.proofs.NestedViews.{is_nested}
use Rattle.gu_book.proofs.KeptRooms.{rooms_in-keys, rooms_in-limits}
use Rattle.gu_book.proofs.views.view_of.Goals as goal

-- the consequence of two properties of a value that was made
if_made : {T E : Type 0} (P Q R : T → Type 0) (made : Result T E) → IfOk made P → IfOk made Q → ((value : T) → P value → Q value → R value) → IfOk made R
if_made P Q R (Ok value) p q both = both value p q
if_made P Q R (Err error) p q both = tt

pub new-requires-clause-numbers : goal.new-requires-clause-numbers
new-requires-clause-numbers c =
    let reference = c.args.reference.now in
    let rows = c.args.totals.now.offers in
    let group = c.args.group.now in
    let offers : c.in_ok-offers.offers.items ≡ filter_map (shown_at reference rows) (open_numbers rows group) = c.in_ok-offers.ensures ∙ ap (filter_map (shown_at reference rows)) c.open_numbers-numbers.ensures in
    ap bad_offer offers ∙ none_bad_offer reference c.rules.ensures.sound rows group (recursion_from_All IsSound rows c.rules-2.ensures.sound) c.requires.few

pub new-requires-clause-paths : goal.new-requires-clause-paths
new-requires-clause-paths c =
    let reference = c.args.reference.now in
    let rows = c.args.totals.now.offers in
    let numbers = c.open_numbers-numbers.result.now in
    ap path_differs c.in_ok-offers.ensures ∙ none_differs reference (filter_map (shown_at reference rows) numbers) (have_paths reference c.rules.ensures.sound rows numbers)

pub of-requires-2-clause-keys : goal.of-requires-2-clause-keys
of-requires-2-clause-keys c =
    let limits = c.args.totals.now.limits in
    let group = c.args.group.now in
    ap (map (λ (r : Room). r.key)) c.in_ok-rooms.ensures ∙ rooms_in-keys limits group c.keys.result.now ∙ c.keys.ensures

pub of-requires-2-clause-limits : goal.of-requires-2-clause-limits
of-requires-2-clause-limits c =
    let limits = c.args.totals.now.limits in
    let group = c.args.group.now in
    let most : (key : LimitKey) → room_in limits group key ≤ 1000000000 = λ key. omega (arith, c.rules-3.ensures.limits group key) in
    subst (All (λ (r : Room). r.lots ≤ 1000000000)) (sym c.in_ok-rooms.ensures) (rooms_in-limits limits group most c.keys.result.now)

pub returns-clause-view : goal.returns-clause-view
returns-clause-view c =
    let reference = c.args.reference.now in
    let totals = c.args.totals.now in
    let group = c.args.group.now in
    let same = c.in_ok-offers-2.ensures in
    let offers : c.in_ok-offers-2.offers ≡ offers_in reference totals.offers group =
    same ∙ c.in_ok-offers.ensures ∙ ap (filter_map (shown_at reference totals.offers)) c.open_numbers-numbers.ensures ∙ sym (offers-are reference totals.offers group) in
    let rooms : c.in_ok-rooms.rooms.items ≡ rooms_in totals.limits group (keys_of (offers_in reference totals.offers group)) =
    c.in_ok-rooms.ensures ∙ ap (rooms_in totals.limits group) (c.keys.ensures ∙ ap keys_of offers) in
    if_made _ _ _ c.of-2.result c.of-2.ensures.made c.of-2.ensures.rooms (λ view made kept.
    λ i. record {
      group = ap (λ (v : GroupView). v.group) made i;
      version = (ap (λ (v : GroupView). v.version) made ∙ c.of.ensures) i;
      offers = (ap (λ (v : GroupView). v.offers) made ∙ offers) i;
      rooms = (kept ∙ rooms) i;
    })

pub returns-clause-nested : goal.returns-clause-nested
returns-clause-nested c =
    let reference = c.args.reference.now in
    let rows = c.args.totals.now.offers in
    let numbers = c.open_numbers-numbers.result.now in
    let offers : c.in_ok-offers-2.offers ≡ filter_map (shown_at reference rows) numbers = c.in_ok-offers-2.ensures ∙ c.in_ok-offers.ensures in
    IfOk-weaker c.of-2.result _ _
    (λ view made. is_nested reference view (subst (AllByRecursion (HasPath reference)) (sym (ap (λ (v : GroupView). v.offers) made ∙ offers)) (have_paths reference c.rules.ensures.sound rows numbers)))
    c.of-2.ensures.made
