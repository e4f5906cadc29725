use Rattle.gu_offers.proofs.Words.{◌∙◌, sym, refl, ap, subst, map, ◌≤◌, length, AllByRecursion, length-map, next_day, forgotten, row_of, GivenUp}
use Rattle.gu_offers.proofs.Growing.{days-forgotten, days-next, kept-next, rows-forgotten, rows-next}
use Rattle.gu_offers.proofs.offers.Offers.new_day.Goals as goal

pub invariant_of-self : goal.invariant_of-self
invariant_of-self c =
    kept-next c.self.inside (record { rows = c.self.inside.rows; groups = c.self.inside.groups; day = c.in-Some.day }) c.self.invariant
    (ap (λ day. map (row_of day) c.self.inside.rows) c.in-Some.ensures.1 ∙ rows-next c.self.inside.day c.self.inside.rows c.self.invariant.days)
    (subst (λ day. AllByRecursion (λ (g : GivenUp). g.moved_on ≤ day) c.self.inside.rows) (sym c.in-Some.ensures.1) (days-next c.self.inside.day c.self.inside.rows c.self.invariant.days))
    refl (λ group. refl)

pub invariant_of-self-in-None : goal.invariant_of-self-in-None
invariant_of-self-in-None c =
    kept-next c.self.inside (record { rows = c.forget.new.self; groups = c.self.inside.groups; day = c.self.inside.day }) c.self.invariant
    (ap (map (row_of c.self.inside.day)) c.forget.ensures ∙ rows-forgotten c.self.inside.day c.self.inside.rows)
    (subst (AllByRecursion (λ (g : GivenUp). g.moved_on ≤ c.self.inside.day)) (sym c.forget.ensures) (days-forgotten c.self.inside.day c.self.inside.rows c.self.invariant.days))
    (ap length c.forget.ensures ∙ length-map c.self.inside.rows forgotten) (λ group. refl)

pub returns-in-Some : goal.returns-in-Some
returns-in-Some c =
    ap (λ day. map (row_of day) c.self.inside.rows) c.in-Some.ensures.1 ∙ rows-next c.self.inside.day c.self.inside.rows c.self.invariant.days ∙ ap (map next_day) c.self.view_is

pub returns-in-None : goal.returns-in-None
returns-in-None c = ap (map (row_of c.self.inside.day)) c.forget.ensures ∙ rows-forgotten c.self.inside.day c.self.inside.rows ∙ ap (map next_day) c.self.view_is
