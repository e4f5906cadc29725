use Rattle.gu_offers.proofs.Words.{◌∙◌, sym, refl, ap, subst, ◌≤◌, nat_lt, add-one, if◌then◌else◌, same_group, changed, taken, row_of, numbers_in}
use Rattle.gu_offers.proofs.Found.{left_in-kept}
use Rattle.gu_offers.proofs.KeptOffers.{after-changed, ascending, is_sound, kept-changed, numbers-as_they_were, numbers-taken_out, open-taken, sound-taken, sound_at}
use Rattle.gu_offers.proofs.NumberLists.{without}
use Rattle.gu_offers.proofs.offers.Offers.take.Goals as goal

pub take_of-group-requires-clause-sound : goal.take_of-group-requires-clause-sound
take_of-group-requires-clause-sound c = sound_at c.self.inside c.self.invariant c.place_of-place.result

pub take_of-group-requires-clause-left : goal.take_of-group-requires-clause-left
take_of-group-requires-clause-left c = λ g at.
    subst (λ n. c.args.lots ≤ n) (left_in-kept c.self.inside c.args.self.now c.self.view_is c.place_of-place.result c.args.number c.place_of-place.ensures g at) c.requires

pub take_out-requires : goal.take_out-requires
take_out-requires c = ascending c.self.inside c.self.invariant c.take_of-group.result.0

pub invariant_of-self : goal.invariant_of-self
invariant_of-self c =
    let e = c.take_of-group.ensures in
    let was = e.written.was in
    let left = subst (λ n. c.args.lots ≤ n) (left_in-kept c.self.inside c.args.self.now c.self.view_is c.place_of-place.result c.args.number c.place_of-place.ensures was e.written.there) c.requires in
    kept-changed c.self.inside c.self.invariant c.place_of-place.result c.take_of-group.new.rows (taken c.args.lots) e.written refl
    (record { rows = c.take_of-group.new.rows; groups = c.take_out.new.self; day = c.self.inside.day }) refl refl
    (sound-taken (row_of c.self.inside.day was) c.args.lots (is_sound c.self.inside c.self.invariant c.place_of-place.result c.take_of-group.new.rows (taken c.args.lots) e.written) left)
    (λ group. c.take_out.ensures group
    ∙ (λ i. if same_group c.take_of-group.result.0 group then without ((c.get.ensures.number ∙ sym c.place_of-place.ensures) i) (numbers_in c.self.inside.groups group) else numbers_in c.self.inside.groups group)
    ∙ numbers-taken_out c.self.inside c.self.invariant c.place_of-place.result c.take_of-group.new.rows (taken c.args.lots) e.written refl
    (ap (nat_lt 0) (sym (e.left was e.written.there) ∙ c.if-left-eq0.true)) c.take_of-group.result.0 (e.group was e.written.there) group)

pub invariant_of-self-else-left-eq0 : goal.invariant_of-self-else-left-eq0
invariant_of-self-else-left-eq0 c =
    let e = c.take_of-group.ensures in
    let was = e.written.was in
    let left = subst (λ n. c.args.lots ≤ n) (left_in-kept c.self.inside c.args.self.now c.self.view_is c.place_of-place.result c.args.number c.place_of-place.ensures was e.written.there) c.requires in
    kept-changed c.self.inside c.self.invariant c.place_of-place.result c.take_of-group.new.rows (taken c.args.lots) e.written refl
    (record { rows = c.take_of-group.new.rows; groups = c.self.inside.groups; day = c.self.inside.day }) refl refl
    (sound-taken (row_of c.self.inside.day was) c.args.lots (is_sound c.self.inside c.self.invariant c.place_of-place.result c.take_of-group.new.rows (taken c.args.lots) e.written) left)
    (numbers-as_they_were c.self.inside c.self.invariant c.place_of-place.result c.take_of-group.new.rows (taken c.args.lots) e.written refl
    (open-taken (row_of c.self.inside.day was) c.args.lots (λ none. c.if-left-eq0.false (e.left was e.written.there ∙ none))))

pub returns-then-left-eq0 : goal.returns-then-left-eq0
returns-then-left-eq0 c =
    after-changed c.self.inside c.self.invariant c.place_of-place.result c.take_of-group.new.rows (taken c.args.lots) c.take_of-group.ensures.written
    ∙ (λ i. changed (c.self.view_is i) ((sym (add-one c.place_of-place.result) ∙ c.place_of-place.ensures) i) (taken c.args.lots))

pub returns-else-left-eq0 : goal.returns-else-left-eq0
returns-else-left-eq0 c =
    after-changed c.self.inside c.self.invariant c.place_of-place.result c.take_of-group.new.rows (taken c.args.lots) c.take_of-group.ensures.written
    ∙ (λ i. changed (c.self.view_is i) ((sym (add-one c.place_of-place.result) ∙ c.place_of-place.ensures) i) (taken c.args.lots))
