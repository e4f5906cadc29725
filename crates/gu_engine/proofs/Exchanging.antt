-- The parts of an exchange.
use Rattle.gu_engine.proofs.Words.{◌≡◌, ◌<◌, ◌-◌, ◌^◌, ◌&&◌, not, is_some, if◌then◌else◌, ℕ, Bool, true, false, refl, arith, firm_of, is_due}
use Rattle.gu_engine.specs.declared.connection.Connection.{Connection}

-- the first of two that hold
and_first : (a b : Bool) → (a && b) ≡ true → a ≡ true
and_first true b both = refl
and_first false b both = both

-- the number left before a bound decreases
fewer : (before after : Bool) (m n : ℕ) → before ≡ true → (after ≡ true → m < n) → m < 2 ^ 64 → (if after then 2 ^ 64 - n else 0) < (if before then 2 ^ 64 - m else 0)
fewer true true m n is onwards within = omega (arith, onwards refl, within)
fewer true false m n is onwards within = omega (arith, within)
fewer false after m n is onwards within = absurd (let e : false ≡ true = is in cc)

module _ {H C : Type 0} where
  -- after a batch that isn't the last, fewer entries may come
  pub fewer_parts : (old new : Connection H C) → is_due old ≡ true → (new.is_behind ≡ true → old.next < new.next) → old.next < 2 ^ 64
      → (if is_due new then 2 ^ 64 - new.next else 0) < (if is_due old then 2 ^ 64 - old.next else 0)
  fewer_parts old new due onwards within =
      fewer (is_due old) (is_due new) old.next new.next due (λ e. onwards (and_first new.is_behind (not new.is_over) (and_first (new.is_behind && not new.is_over) (is_some (firm_of new.session)) e))) within
