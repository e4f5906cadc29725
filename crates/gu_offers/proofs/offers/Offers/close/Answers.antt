use Rattle.gu_offers.proofs.Words.{◌∙◌, sym, refl, add-one, if◌then◌else◌, same_group, changed, closed, row_of, numbers_in}
use Rattle.gu_offers.proofs.KeptOffers.{after-changed, ascending, is_sound, kept-changed, numbers-taken_out, sound-closed}
use Rattle.gu_offers.proofs.NumberLists.{without}
use Rattle.gu_offers.proofs.offers.Offers.close.Goals as goal

pub take_out-requires : goal.take_out-requires
take_out-requires c = ascending c.self.inside c.self.invariant c.close_of-group.result

pub invariant_of-self : goal.invariant_of-self
invariant_of-self c =
    let written = c.close_of-group.ensures.written c.self.inside.day in
    kept-changed c.self.inside c.self.invariant c.place_of-place.result c.close_of-group.new.rows closed written refl
    (record { rows = c.close_of-group.new.rows; groups = c.take_out.new.self; day = c.self.inside.day }) refl refl
    (sound-closed (row_of c.self.inside.day written.was) (is_sound c.self.inside c.self.invariant c.place_of-place.result c.close_of-group.new.rows closed written))
    (λ group. c.take_out.ensures group
    ∙ (λ i. if same_group c.close_of-group.result group then without ((c.get.ensures.number ∙ sym c.place_of-place.ensures) i) (numbers_in c.self.inside.groups group) else numbers_in c.self.inside.groups group)
    ∙ numbers-taken_out c.self.inside c.self.invariant c.place_of-place.result c.close_of-group.new.rows closed written refl refl c.close_of-group.result (c.close_of-group.ensures.group written.was written.there) group)

pub returns : goal.returns
returns c =
    after-changed c.self.inside c.self.invariant c.place_of-place.result c.close_of-group.new.rows closed (c.close_of-group.ensures.written c.self.inside.day)
    ∙ (λ i. changed (c.self.view_is i) ((sym (add-one c.place_of-place.result) ∙ c.place_of-place.ensures) i) closed)
