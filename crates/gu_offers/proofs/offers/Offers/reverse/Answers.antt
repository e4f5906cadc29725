use Rattle.gu_offers.proofs.Words.{◌∙◌, sym, refl, ap, nat_lt, add-one, changed, reversed, row_of}
use Rattle.gu_offers.proofs.Found.{left_in-kept}
use Rattle.gu_offers.proofs.KeptOffers.{after-changed, is_sound, kept-changed, numbers-as_they_were, sound-reversed, sound_at}
use Rattle.gu_offers.proofs.offers.Offers.reverse.Goals as goal

pub reverse_of-requires-clause-sound : goal.reverse_of-requires-clause-sound
reverse_of-requires-clause-sound c = sound_at c.self.inside c.self.invariant c.place_of-place.result

pub invariant_of-self : goal.invariant_of-self
invariant_of-self c =
    let written = c.reverse_of.ensures in
    let shut = sym (left_in-kept c.self.inside c.args.self.now c.self.view_is c.place_of-place.result c.args.number c.place_of-place.ensures written.was written.there) ∙ c.requires.closed in
    kept-changed c.self.inside c.self.invariant c.place_of-place.result c.reverse_of.new.rows reversed written refl
    (record { rows = c.reverse_of.new.rows; groups = c.self.inside.groups; day = c.self.inside.day }) refl refl
    (sound-reversed (row_of c.self.inside.day written.was) (is_sound c.self.inside c.self.invariant c.place_of-place.result c.reverse_of.new.rows reversed written))
    (numbers-as_they_were c.self.inside c.self.invariant c.place_of-place.result c.reverse_of.new.rows reversed written refl (ap (nat_lt 0) (sym shut)))

pub returns : goal.returns
returns c =
    after-changed c.self.inside c.self.invariant c.place_of-place.result c.reverse_of.new.rows reversed c.reverse_of.ensures
    ∙ (λ i. changed (c.self.view_is i) ((sym (add-one c.place_of-place.result) ∙ c.place_of-place.ensures) i) reversed)
