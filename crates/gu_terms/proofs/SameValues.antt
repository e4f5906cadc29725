-- Days and refusals whose parts agree are equal.
use Rattle.std.proofs.Common.{◌≡◌, ℕ, Bool, true, false, ◌&&◌, refl, subst}
use lib.Dec.{T_prop}
use Rattle.std.specs.Coded.{le_prop}
use Rattle.gu_terms.specs.Days.{IsDay}
use Rattle.gu_terms.specs.declared.day.Day.{Day}

-- a date is valid in only one way
IsDay-prop : (year month day : ℕ) → IsProp (IsDay year month day)
IsDay-prop year month day = hlevel (le_prop, T_prop)

-- two days with the same date are equal
pub same_date : (a b : Day) → a.year ≡ b.year → a.month ≡ b.month → a.day ≡ b.day → a ≡ b
same_date a b years months days =
    let Is : ℕ → ℕ → ℕ → Type 0 = λ year month day. (there : IsDay year month day) → a ≡ (record { year = year; month = month; day = day; there = there }) in
    let own : Is a.year a.month a.day = λ there i. record { year = a.year; month = a.month; day = a.day; there = IsDay-prop a.year a.month a.day a.there there i } in
    subst (λ year. Is year b.month b.day) years (subst (λ month. Is a.year month b.day) months (subst (λ day. Is a.year a.month day) days own)) b.there

-- both tests pass
pub both : (p q : Bool) → (p && q) ≡ true → (p ≡ true) × (q ≡ true)
both true q h = (refl, h)
both false q h = cc
