use Rattle.gu_flow.proofs.Words.{◌≡◌, false, ap, sym, ◌∙◌, or-false, Room, is_reached, room_at}
use Rattle.gu_flow.proofs.CutMembers.{key_cut, none_cut, none_by_key, none_more}
use Rattle.gu_flow.proofs.RoomPlaces.{own_room}
use Rattle.gu_flow.proofs.cutting.add_keys.Goals as goal
use Rattle.gu_flow.proofs.cutting.add_keys.Goals.{then-cuts_key+in_ok-add_key, else-cuts_key}

pub loop-place-preserved : goal.loop-place-preserved
loop-place-preserved c =
    let view = c.args.view.now in
    let reached = is_reached c.args.marks.now in
    let arcs = c.args.arcs.now in
    let sound = c.rooms-room-items.ensures.sound in
    let rooms = c.rooms-room-items.ensures.rooms in
    let i = c.loop-place.place in
    let h = c.loop-place.invariant in
    let inside = rw rooms at c.loop-place-test.true in
    let key : c.room-item.result.key ≡ (room_at view.rooms i).key = ap (λ (r : Room). r.key) (own_room view.rooms i c.room-item.result inside (rw rooms at c.room-item.is)) in
    elim c.if-cuts_key.branch [
      | then-cuts_key+in_ok-add_key w ↦ record {
        keys = rw w.cut-is (key_cut view sound reached arcs c.loop-place.cut.keys w.add_key.new.self.keys i w.in_ok-add_key.field-0 inside h.keys (sym c.cuts_key.ensures ∙ w.if-cuts_key.true) (rw key at w.in_ok-add_key.ensures.added) (rw key at w.in_ok-add_key.ensures.keys));
        offers = rw w.cut-is (w.in_ok-add_key.ensures.offers ∙ h.offers);
        none = rw w.more-is (λ none. none_more reached arcs view.rooms i c.loop-place.more false h.none (sym (none_by_key reached arcs view.rooms i (sym c.cuts_key.ensures ∙ w.if-cuts_key.true))) (or-false c.loop-place.more ∙ none));
      }
      | else-cuts_key w ↦ record {
        keys = rw w.cut-is (none_cut h.keys (sym c.cuts_key.ensures ∙ w.if-cuts_key.false));
        offers = rw w.cut-is h.offers;
        none = rw w.more-is (none_more reached arcs view.rooms i c.loop-place.more w.cuts_offers-more.result h.none w.cuts_offers-more.ensures);
      }
    ]
